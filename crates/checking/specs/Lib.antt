pub mod Rules
pub mod Checking
