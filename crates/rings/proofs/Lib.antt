pub mod RingLaws
pub mod Shared
pub mod TargetSteps
