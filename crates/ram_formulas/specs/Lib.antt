pub mod MarginSpans
