pub mod ThreadCeilings
pub mod Renaming
pub mod Shapes
pub mod Numbers
pub mod WellFormed
pub mod NoRings
pub mod Spaced
pub mod ProperBlocks
pub mod ProgramUses
pub mod CallsThere
pub mod Externals
pub mod LoopNames
pub mod InnerNames
pub mod ObjectMentions
pub mod UnitObjects
pub mod NamesRight
pub mod Shared
mod RankingExamples
