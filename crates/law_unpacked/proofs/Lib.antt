pub mod SheetLaws
pub mod Within
pub mod BookWithin
pub mod Unpack
pub mod ColorParts
