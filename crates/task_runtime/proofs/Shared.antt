-- What other crates may cite of the proofs of this one.
pub mod AtWork
pub mod Doings
pub mod ExampleSystem
pub mod FirstPieces
pub mod Ruled
pub mod Runnable
pub mod Sections
pub mod Starting
pub mod TaskStarts
pub mod TasksAtWork
pub mod UnitsAt
pub mod Workable
