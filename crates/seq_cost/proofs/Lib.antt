pub mod Examples
pub mod Steps
pub mod Caps
pub mod Tallies
pub mod Gathering
pub mod Shared
