pub mod Means
pub mod WordMeans
