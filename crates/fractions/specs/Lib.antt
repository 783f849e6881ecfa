pub mod FractionLaws
pub mod Fractions
pub mod Greatest
pub mod GreatestLaws
pub mod Orders
pub mod SpanLaws
pub mod Spans
pub mod TotalLaws
