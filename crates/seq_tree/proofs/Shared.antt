-- What other crates may cite of the proofs of this one.
pub mod Longest
pub mod LoopSteps
pub mod Rounds
pub mod SameNames
pub mod TreeForms
pub mod Walks
