pub mod NumberLaws
pub mod AnswerLaws
