-- What other crates may cite of the proofs of this one.
pub mod Charged
pub mod Events
pub mod Finding
pub mod Joins
pub mod Judging
pub mod Leveling
pub mod Pairs
pub mod Served
pub mod Simple
pub mod Stacks
pub mod Told
pub mod Words
