pub mod Cites
pub mod Parts
pub mod RunRecords
