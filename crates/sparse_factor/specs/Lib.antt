pub mod Guesses
pub mod Bounds
