pub mod CellLaws
pub mod EndLaws
pub mod EndsLaws
pub mod PutLaws
pub mod StepLaws
