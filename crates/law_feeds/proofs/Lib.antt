pub mod FigureLaws
pub mod History
pub mod MeanLaws
pub mod ScratchLaws
