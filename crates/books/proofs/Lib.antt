pub mod BookLaws
pub mod CallLaws
pub mod RingLaws
