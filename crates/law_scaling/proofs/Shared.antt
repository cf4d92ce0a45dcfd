-- What other crates may cite of the proofs of this one.
pub mod Blocks
pub mod Cheap
pub mod Designs
pub mod Holding
pub mod Ranks
pub mod Sound
