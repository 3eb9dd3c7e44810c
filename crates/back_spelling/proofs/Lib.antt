pub mod PageLaws
pub mod NumberLaws
