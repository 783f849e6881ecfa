pub mod Digits
pub mod Places
pub mod Follows
pub mod Grammar
pub mod Worth
pub mod Law
pub mod Printed
pub mod RoundTrip
