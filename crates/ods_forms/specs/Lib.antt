pub mod BodyScopes
pub mod Counts
pub mod Families
pub mod Limits
pub mod ObjectFaults
pub mod Whole
