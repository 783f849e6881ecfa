pub mod AssemblyLaws
pub mod BuildLaws
pub mod MarkLaws
