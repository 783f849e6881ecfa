pub mod Adding
pub mod Classes
pub mod Products
pub mod Sides
pub mod Sizes
