pub mod Listed
pub mod Solutions
pub mod Points
pub mod Assembly
