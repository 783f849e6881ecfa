pub mod Drafts
pub mod Reading
pub mod RecordLaws
pub mod Records
pub mod Table
