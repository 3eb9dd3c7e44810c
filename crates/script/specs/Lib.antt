pub mod Output
pub mod Means
pub mod Claim
pub mod Table
