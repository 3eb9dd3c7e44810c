pub mod Apart
pub mod Times
pub mod Tracks
