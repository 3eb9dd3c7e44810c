pub mod ValueLaws
pub mod NameLaws
pub mod RowLaws
pub mod CurveLaws
pub mod EasingLaws
