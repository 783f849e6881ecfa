pub mod Brackets
pub mod FittingReaches
