pub mod Numeral
pub mod Fewest
pub mod AnswerMeans
pub mod Means
