pub mod ListMeans
pub mod KeyMeans
