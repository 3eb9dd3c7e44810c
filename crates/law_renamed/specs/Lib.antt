pub mod Words
pub mod Renaming
pub mod Bytewise
