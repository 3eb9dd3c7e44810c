pub mod CopyLaws
pub mod TableLaws
