pub mod Lists
pub mod Columns
pub mod Turned
pub mod Exact
pub mod Parts
