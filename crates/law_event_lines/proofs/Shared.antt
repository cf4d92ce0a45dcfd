-- What other crates may cite of the proofs of this one.
pub mod Events
pub mod Names
