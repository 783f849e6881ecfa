pub mod Approaches
pub mod RightSides
