pub mod NameLaws
pub mod PlaceLaws
pub mod SortLaws
pub mod ExpressionLaws
pub mod ActualLaws
pub mod SeenLaws
pub mod FaultLaws
mod KnownExamples
