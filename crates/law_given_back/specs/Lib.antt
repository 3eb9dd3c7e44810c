pub mod Given
pub mod ReadBack
pub mod Corollaries
pub mod Omitted
pub mod Parts
