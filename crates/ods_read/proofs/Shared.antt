-- What other crates may cite of the proofs of this one.
pub mod Counting
pub mod OneReading
pub mod ReadingLaws
