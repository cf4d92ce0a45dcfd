-- What other crates may cite of the proofs of this one.
pub mod DeadlineFound
pub mod DeadlineOrders
pub mod Fewer
pub mod FilledOrders
pub mod LevelBlocking
pub mod Obstacles
pub mod OrderBlocking
pub mod OrderPlaces
pub mod OrderRankings
pub mod OrderRows
pub mod OrderSums
pub mod OrderTables
pub mod Passing
pub mod Permutations
pub mod SamePlaces
pub mod Shares
