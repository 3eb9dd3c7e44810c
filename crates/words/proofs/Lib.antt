pub mod Lists
pub mod KeyLaws
pub mod ListLaws
