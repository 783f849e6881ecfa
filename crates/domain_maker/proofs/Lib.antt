pub mod StateLaws
pub mod Lists
pub mod Zips
pub mod RowsByState
