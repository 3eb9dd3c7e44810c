pub mod Token
pub mod Split
pub mod Names
pub mod Means
