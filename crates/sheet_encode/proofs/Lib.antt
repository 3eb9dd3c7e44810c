-- The laws of writing that callers cite.
pub mod OverLaws
pub mod FieldLaws
pub mod EnumLaws
pub mod ClearLaws
