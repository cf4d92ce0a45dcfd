-- What other crates may cite of the proofs of this one.
pub mod Acts
pub mod Aheads
pub mod AptPrograms
pub mod Courses
pub mod Depths
pub mod Entries
pub mod Fits
pub mod Fresh
pub mod Halts
pub mod ProgramFacts
pub mod Programs
pub mod Ways
