pub mod Ends
pub mod Exact
pub mod LeastSpans
