pub mod Reach
pub mod Branches
pub mod Sizes
pub mod Pairs
pub mod Held
