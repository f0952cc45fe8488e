pub mod RefusalLaws
pub mod RunLaws
