pub mod Raised
pub mod Room
pub mod Round
pub mod Start
pub mod Step
