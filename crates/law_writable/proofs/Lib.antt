pub mod ValueFits
pub mod FieldFits
pub mod LeafFits
pub mod TrackFits
pub mod NodeFits
pub mod Exact
pub mod Nesting
