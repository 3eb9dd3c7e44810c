pub mod Feed
pub mod Means
