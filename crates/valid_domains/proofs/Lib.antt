pub mod Known
pub mod NearRows
pub mod NumberRanges
pub mod Theorem
