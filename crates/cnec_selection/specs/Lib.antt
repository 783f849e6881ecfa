pub mod Classes
pub mod FittingSpreads
pub mod SpreadSpans
