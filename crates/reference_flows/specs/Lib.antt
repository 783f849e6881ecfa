pub mod WithoutExchanges
pub mod ReferenceSpans
