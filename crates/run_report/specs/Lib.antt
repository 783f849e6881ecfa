pub mod ReportTexts
pub mod SummaryTexts
pub mod Lines
