pub mod DrawLaws
pub mod PresetLaws
