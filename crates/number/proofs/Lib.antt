-- The laws of numbers that more than one proof cites, and those that callers cite.
pub mod Closest
pub mod Round
pub mod Exactly
pub mod Floats
pub mod Error
pub mod Gap
pub mod Scaling
pub mod TwoRoundings
pub mod Division
pub mod Hundredth
pub mod Cases
