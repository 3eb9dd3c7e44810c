pub mod Meaning
pub mod Fresh
pub mod Reads
