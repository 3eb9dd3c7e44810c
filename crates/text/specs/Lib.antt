pub mod Limits
pub mod Bytes
pub mod Words
pub mod Means
pub mod WriteMeans
