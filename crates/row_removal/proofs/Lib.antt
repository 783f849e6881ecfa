pub mod Listing
pub mod Renumbering
pub mod Citing
pub mod Removing
