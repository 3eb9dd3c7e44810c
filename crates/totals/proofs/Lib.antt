pub mod TotalsLaws
pub mod MeanLaws
