-- What other crates may cite of the proofs of this one.
pub mod Begins
pub mod Calling
pub mod Ends
pub mod Entering
pub mod Follows
pub mod Going
pub mod Moves
pub mod Places
pub mod Scoping
