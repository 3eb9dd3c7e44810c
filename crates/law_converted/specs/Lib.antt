pub mod NoNoise
pub mod Converted
