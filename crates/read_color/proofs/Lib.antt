pub mod ColorLaws
