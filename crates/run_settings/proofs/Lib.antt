pub mod AnswerLaws
pub mod CodeLaws
pub mod PlaceLaws
pub mod PointLaws
pub mod RecordLaws
pub mod ReductionLaws
pub mod SettingsLaws
pub mod TotalLaws
