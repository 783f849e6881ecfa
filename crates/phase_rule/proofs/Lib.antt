pub mod Series
pub mod Numbers
pub mod Outcome
pub mod ArcBounds
pub mod Following
