-- The laws of digits that proofs and callers cite.
pub mod LeastLaws
pub mod DigitLaws
pub mod NumeralLaws
pub mod FewestLaws
pub mod OrderLaws
pub mod MiddleLaws
pub mod WidthLaws
pub mod SearchLaws
pub mod FractionLaws
pub mod LengthyLaws
pub mod WholeLaws
pub mod PercentLaws
pub mod EndLaws
pub mod FormLaws
pub mod Examples
