pub mod Spacing
pub mod TallyLaws
pub mod Examples
pub mod Shared
