pub mod RowNumbers
pub mod RowParts
pub mod RowFlows
