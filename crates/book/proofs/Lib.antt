pub mod ItemLaws
pub mod TableLaws
pub mod BookLaws
pub mod HeldLaws
