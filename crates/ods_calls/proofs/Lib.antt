mod BodyExamples
mod CostExamples
mod GraphExamples
mod GuardedExamples
mod RequestExamples
mod SpacingExamples
mod StartExamples
mod StartingExamples
pub mod BodyEdges
pub mod BudgetSteps
pub mod CallRings
pub mod CalledLaws
pub mod FilterSteps
pub mod FoundLaws
pub mod Items
pub mod KeptCalls
pub mod KeySteps
pub mod LoopEnds
pub mod LoopSteps
pub mod NamePlaces
pub mod ObjectFits
pub mod ObjectRings
pub mod OnceCalls
pub mod PriceLaws
pub mod RequestLaws
pub mod ServedLaws
pub mod SizeSteps
pub mod SmallParts
pub mod SourceLaws
pub mod SpacingLaws
pub mod SpotSteps
pub mod StartGraph
pub mod StartPaths
pub mod StartReach
pub mod TargetSteps
