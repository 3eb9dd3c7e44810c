pub mod RuleLaws
pub mod ListLaws
pub mod FrameLaws
