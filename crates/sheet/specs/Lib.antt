pub mod Sheet
pub mod Records
pub mod Opening
