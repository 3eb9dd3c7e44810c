pub mod ConvertLaws
pub mod KeptLaws
