pub mod Means
pub mod WalkMeans
