pub mod FrameLaws
pub mod KindLaws
pub mod WalkLaws
pub mod CheckLaws
