-- What other crates may cite of the proofs of this one.
pub mod Bounded
pub mod DesignLaw
pub mod KeptAccepted
pub mod RankedRuns
pub mod Worked
pub mod WorkedBounds
pub mod Chained
