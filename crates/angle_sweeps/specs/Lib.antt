pub mod Rounds
pub mod Sweeps
