pub mod ByteLaws
pub mod WordLaws
pub mod WriteLaws
pub mod CaseLaws
