pub mod Documents
pub mod Listed
pub mod Printed
