pub mod Scaled
pub mod Supplies
pub mod Held
pub mod Zones
pub mod Fits
pub mod ZoneParts
