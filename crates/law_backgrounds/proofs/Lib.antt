pub mod LiftedRules
pub mod LiftedTables
pub mod Restless
pub mod RestlessLaw
pub mod Retimed
pub mod SlowPriorities
pub mod LeastNumbers
pub mod ClientStarts
pub mod NoBackground
mod Worked
pub mod LegibleHard
pub mod Shared
