pub mod Convert
pub mod Triangled
pub mod Kept
