-- What other crates may cite of the proofs of this one.
pub mod AccountSteps
pub mod SmallDesign
pub mod TableSteps
pub mod TellSteps
pub mod WalkSteps
