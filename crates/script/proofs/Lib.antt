pub mod Faults
pub mod Tracks
pub mod Reading
pub mod Whole
pub mod Closed
pub mod OutputLaws
pub mod ScratchLaws
