-- What other crates may cite of the proofs of this one.
pub mod Back
pub mod Claims
pub mod EveryRun
pub mod Excluded
pub mod InOrder
pub mod Moves
pub mod Namings
pub mod StepsBack
pub mod Units
pub mod Walks
