-- What other crates may cite of the proofs of this one.
pub mod Accounts
pub mod Fitting
pub mod Programs
