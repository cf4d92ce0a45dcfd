-- What other crates may cite of the proofs of this one.
pub mod BodySlots
pub mod Growths
pub mod NodeValues
pub mod Placing
pub mod Starts
pub mod Writing
