pub mod Adding
pub mod Gathered
pub mod Sizes
pub mod TableRows
