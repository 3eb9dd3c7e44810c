pub mod Rule
pub mod Fields
pub mod Values
pub mod Grammar
