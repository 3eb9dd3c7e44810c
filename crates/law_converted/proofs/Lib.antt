pub mod RefusalLaws
pub mod ConvertedLaws
