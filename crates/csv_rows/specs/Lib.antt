pub mod Rows
pub mod TableLaws
pub mod TableStates
pub mod Tables
