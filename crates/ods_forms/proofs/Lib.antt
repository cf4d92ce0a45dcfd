mod RuleExamples
pub mod CountSteps
pub mod LoopSteps
pub mod ObjectSteps
pub mod ScopeSteps
pub mod WorkSteps
pub mod Shared
