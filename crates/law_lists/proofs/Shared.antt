-- What other crates may cite of the proofs of this one.
pub mod Depths
pub mod Facts
pub mod Greatest
pub mod Lists
pub mod Places
pub mod Reaching
pub mod Weights
