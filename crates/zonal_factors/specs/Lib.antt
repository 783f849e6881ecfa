pub mod FactorSpans
pub mod SharedSpans
