-- What other crates may cite of the proofs of this one.
pub mod BackLaws
pub mod Chains
pub mod Depths
pub mod Following
pub mod Fronts
pub mod Spacing
pub mod TokenForms
