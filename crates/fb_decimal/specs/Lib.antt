pub mod Spelling
pub mod Meaning
pub mod Reading
pub mod Printing
pub mod Scan
pub mod Pieces
