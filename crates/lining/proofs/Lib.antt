pub mod ByteLaws
pub mod BackLaws
pub mod CheckLaws
pub mod LineLaws
