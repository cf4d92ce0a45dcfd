-- What other crates may cite of the proofs of this one.
pub mod BackgroundPrograms
pub mod BackgroundRuns
pub mod BackgroundTexts
pub mod FirstFaults
pub mod HardObjects
pub mod HardRanks
pub mod HardThreads
pub mod HardTicks
pub mod Lifts
pub mod ProperHard
pub mod StarterRows
