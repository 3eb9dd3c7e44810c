pub mod WordLaws
pub mod CursorLaws
pub mod ListedLaws
