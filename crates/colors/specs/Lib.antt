pub mod Css
pub mod Means
