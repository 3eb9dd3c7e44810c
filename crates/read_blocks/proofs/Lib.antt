pub mod LeafLaws
pub mod NameLaws
pub mod KindLaws
pub mod HeadLaws
pub mod BeginLaws
pub mod BlockLaws
