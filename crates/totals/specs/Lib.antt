pub mod Totals
pub mod Mean
