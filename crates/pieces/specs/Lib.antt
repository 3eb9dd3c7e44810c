pub mod Pieces
pub mod Means
