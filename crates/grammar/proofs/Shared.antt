-- What other crates may cite of the proofs of this one.
pub mod From
pub mod Laws
pub mod Limits
pub mod Many
pub mod Picks
pub mod Whole
pub mod Widening
