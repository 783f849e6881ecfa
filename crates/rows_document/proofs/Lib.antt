pub mod Beginnings
pub mod Drafted
pub mod LineLaws
pub mod Parts
pub mod ReadSoFar
pub mod Runs
pub mod Spellings
