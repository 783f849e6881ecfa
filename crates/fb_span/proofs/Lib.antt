pub mod CeilDiv
pub mod Least
pub mod Answered
