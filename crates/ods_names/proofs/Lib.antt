mod NeedExamples
mod ClashExamples
pub mod ChildSteps
pub mod KeySteps
pub mod LoopSteps
pub mod MentionSteps
pub mod NameSteps
pub mod TakenLaws
pub mod TakenSteps
pub mod Shared
