-- What other crates may cite of the proofs of this one.
pub mod Mine
pub mod Short
pub mod TickLaws
pub mod TreeForms
pub mod Versions
