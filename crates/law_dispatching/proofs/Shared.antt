-- What other crates may cite of the proofs of this one.
pub mod Acts
pub mod Heads
pub mod Jumps
pub mod Places
pub mod Queued
pub mod Ranks
pub mod Renumbered
pub mod Running
pub mod Sleeping
