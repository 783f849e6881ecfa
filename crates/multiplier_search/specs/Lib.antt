pub mod Corners
pub mod Found
pub mod Pairs
pub mod Tries
