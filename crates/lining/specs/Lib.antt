pub mod Line
pub mod Lining
pub mod ReadBack
