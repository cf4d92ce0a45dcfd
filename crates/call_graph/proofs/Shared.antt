-- What other crates may cite of the proofs of this one.
pub mod DepthLaws
pub mod EdgeLaws
pub mod ListedLaws
pub mod NumberSteps
pub mod OnceLaws
pub mod PlaceLaws
pub mod PriceLaws
pub mod SettledLaws
