pub mod MarkLaws
pub mod NodeLaws
pub mod BodyLaws
pub mod FillLaws
