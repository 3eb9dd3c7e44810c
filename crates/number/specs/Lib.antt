pub mod Number
pub mod Exact
pub mod Time
pub mod Rounded
pub mod Means
