pub mod Building
pub mod Marks
pub mod RefusalLaws
pub mod Refusals
