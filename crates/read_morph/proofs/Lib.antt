pub mod MorphLaws
