pub mod Loops
pub mod Held
pub mod Sizes
pub mod Supplies
pub mod ReferenceHeld
pub mod Products
