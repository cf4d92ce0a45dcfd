pub mod ThreadSteps
pub mod ExplainSteps
