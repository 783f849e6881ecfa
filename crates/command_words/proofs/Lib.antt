pub mod Literals
pub mod Program
pub mod Taken
