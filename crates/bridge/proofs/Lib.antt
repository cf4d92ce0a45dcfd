pub mod RankRooms
pub mod TableSizes
pub mod Texts
pub mod Guarantees
pub mod Shared
