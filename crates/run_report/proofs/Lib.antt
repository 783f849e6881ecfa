pub mod Counts
pub mod RowTrees
pub mod Texts
