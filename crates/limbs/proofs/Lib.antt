pub mod DecimalLaws
pub mod LimbLaws
pub mod LongLaws
pub mod NumberLaws
