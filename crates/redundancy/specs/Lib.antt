pub mod Around
pub mod Fates
pub mod Kept
pub mod Points
pub mod Sources
pub mod Thinned
