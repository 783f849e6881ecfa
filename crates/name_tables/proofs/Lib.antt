pub mod TableLaws
pub mod EntryLaws
