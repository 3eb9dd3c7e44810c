pub mod CellMeans
pub mod Means
