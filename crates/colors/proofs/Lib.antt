pub mod HexLaws
pub mod NameLaws
pub mod ColorLaws
