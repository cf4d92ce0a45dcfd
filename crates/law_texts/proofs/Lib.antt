pub mod Tokens
pub mod LegibleBlocks
pub mod Shared
