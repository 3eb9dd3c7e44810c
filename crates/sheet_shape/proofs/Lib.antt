pub mod FrameLaws
pub mod NodeLaws
pub mod ShapeLaws
