-- What other crates may cite of the proofs of this one.
pub mod BehindSteps
pub mod FrontLaws
pub mod MarkLaws
pub mod TokenLaws
pub mod TokenSteps
