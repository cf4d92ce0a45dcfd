-- What other crates may cite of the proofs of this one.
pub mod AcceptedArrivals
pub mod ArrivalsTold
pub mod CarriedRuns
pub mod Carrying
pub mod ExternalRequests
pub mod InheritedJitter
pub mod Overruns
pub mod PeriodicLaw
pub mod Permitted
pub mod ServedLaw
pub mod StarterLaw
pub mod Tasks
