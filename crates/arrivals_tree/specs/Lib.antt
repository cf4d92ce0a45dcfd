pub mod Arriving
pub mod ArrivalTexts
pub mod Acceptance
pub mod Arrived
pub mod FirstWrong
