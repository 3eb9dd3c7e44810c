pub mod LimbMeans
pub mod Means
