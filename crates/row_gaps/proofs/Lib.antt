pub mod Scaled
pub mod MarginWidths
pub mod SpreadWidths
pub mod DeviationWidths
pub mod SideWidths
pub mod Quotients
pub mod Flows
pub mod Blocks
pub mod Factors
pub mod Exchanges
pub mod Held
pub mod Rows
pub mod Bounds
pub mod Sizes
pub mod ProofSizes
pub mod TrueRows
mod Examples
