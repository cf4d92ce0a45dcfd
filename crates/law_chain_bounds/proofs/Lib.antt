pub mod Shared
mod EarlyRequests
mod LevelSteps
mod TabledChains
mod PrintedChains
mod Examples
mod ServedExamples
mod WorkedMine
