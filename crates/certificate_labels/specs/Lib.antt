pub mod Comparing
pub mod Kinds
pub mod Labels
