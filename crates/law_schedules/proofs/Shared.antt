-- What other crates may cite of the proofs of this one.
pub mod Equations
pub mod Law
pub mod RestSteps
