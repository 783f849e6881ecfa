pub mod FlowSpans
