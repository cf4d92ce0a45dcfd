pub mod SectionCosts
pub mod LevelPlaces
pub mod Shared
