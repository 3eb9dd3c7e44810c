pub mod FillLaws
pub mod TakenLaws
pub mod PlaneLaws
pub mod PlanedLaws
pub mod PlainLaws
pub mod Example
pub mod PlaningLaws
