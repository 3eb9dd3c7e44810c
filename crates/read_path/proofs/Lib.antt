pub mod OffsetLaws
pub mod PathLaws
