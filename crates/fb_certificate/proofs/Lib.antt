pub mod WholeLaws
pub mod RunLaws
pub mod IndexLaws
pub mod NumberLaws
pub mod Theorem
pub mod FlowLaws
