pub mod MeasureLaws
pub mod ScalingLaws
pub mod SizeLaws
pub mod HomeLaws
pub mod PlacingLaws
pub mod WeightLaws
pub mod KeyLaws
pub mod AnswerLaws
