pub mod FirstFault
pub mod Checks
pub mod Laws
