pub mod WriteMeans
pub mod Means
