pub mod AnyLengths
pub mod Determined
pub mod Turns
