-- What other crates may cite of the proofs of this one.
pub mod BlockLaws
pub mod Bounds
pub mod ChainLevels
pub mod CostLaws
pub mod DatumLaws
pub mod ExpressionLaws
pub mod Reaches
pub mod Spelled
pub mod StatementLaws
pub mod StatementTokens
pub mod StatementWidening
pub mod Takes
pub mod TextFaultLaws
pub mod TokenTakes
pub mod TokenWidening
pub mod Turns
pub mod WholeSteps
