pub mod Doubled
pub mod Guessed
pub mod Made
pub mod Proposed
