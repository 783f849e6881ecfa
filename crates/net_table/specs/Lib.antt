pub mod NetTexts
pub mod Totals
