-- What other crates may cite of the proofs of this one.
pub mod ScaledRules
