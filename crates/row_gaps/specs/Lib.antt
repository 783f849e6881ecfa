pub mod Narrow
pub mod WidthLaws
pub mod Widths
pub mod GapLaws
pub mod RowRanges
pub mod RowTruths
pub mod ProofRanges
