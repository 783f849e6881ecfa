pub mod Trigonometry
pub mod Shift
pub mod Signs
