pub mod DueLengths
pub mod FileVerdicts
pub mod GoodLines
