pub mod RecordLaws
pub mod SeekLaws
pub mod WalkLaws
pub mod PlaceLaws
