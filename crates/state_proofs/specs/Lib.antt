pub mod StateProofs
pub mod Enclosed
