-- What other crates may cite of the proofs of this one.
pub mod Again
pub mod PartLaws
pub mod SoundLines
