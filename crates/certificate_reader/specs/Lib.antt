pub mod Drafts
pub mod Reading
pub mod Records
pub mod Spellings
