pub mod Domain
pub mod FollowsLaws
pub mod GridRanges
