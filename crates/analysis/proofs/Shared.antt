-- What other crates may cite of the proofs of this one.
pub mod CeilingLaws
pub mod CostRanges
pub mod Nested
