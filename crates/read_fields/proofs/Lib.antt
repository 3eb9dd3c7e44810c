pub mod FieldLaws
pub mod ListLaws
