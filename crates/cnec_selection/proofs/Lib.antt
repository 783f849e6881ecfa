pub mod Ends
pub mod SpreadProofs
