pub mod FitPrograms
pub mod Joins
pub mod OneWay
pub mod Splits
pub mod Moves
pub mod Totals
pub mod Shared
