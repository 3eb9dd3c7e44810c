pub mod PieceLaws
pub mod JoinLaws
pub mod SignLaws
pub mod FitLaws
pub mod TextLaws
pub mod FormLaws
