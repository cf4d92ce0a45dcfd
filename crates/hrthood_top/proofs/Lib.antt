pub mod Pieces
pub mod Usages
pub mod Fetching
pub mod Ending
pub mod Streamed
pub mod OneText
pub mod OneDesign
pub mod Taken
pub mod OneRule
pub mod OneBounds
pub mod VerbLaws
pub mod CheckLaws
pub mod ExplainLaws
pub mod ExplainSteps
pub mod AcceptanceLaws
pub mod Judged
pub mod AnalyseLaws
pub mod FormatLaws
pub mod GenerateLaws
pub mod BackgroundLaws
pub mod RunEnds
pub mod ReplayLaws
pub mod Completing
pub mod Replayed
pub mod Replaying
pub mod BackgroundReplaying
pub mod VerifyLaws
pub mod Verified
pub mod VerifiedAccepted
pub mod SampleLaws
pub mod SearchLaws
pub mod OneOrder
pub mod SearchSteps
pub mod ScaleLaws
pub mod Summed
pub mod Gathering
mod Examples
pub mod RunsDone
pub mod Tracing
mod ArrangeLaws
mod ArrangedReplaying
mod ScaledAgain
