pub mod Comparisons
pub mod Fields
pub mod Listing
pub mod Written
