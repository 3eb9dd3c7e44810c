pub mod Planes
pub mod Planing
