pub mod Kinds
pub mod Renumbered
