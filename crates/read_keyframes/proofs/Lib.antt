pub mod EntryLaws
pub mod TimeLaws
pub mod TrackLaws
