pub mod Gaps
pub mod Sound
pub mod Ranges
