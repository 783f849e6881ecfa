pub mod Corners
pub mod Loops
pub mod Sizes
pub mod Reaches
pub mod Inclusions
