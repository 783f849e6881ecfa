pub mod FirstFaultLaws
pub mod CheckLaws
