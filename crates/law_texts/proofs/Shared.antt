-- What other crates may cite of the proofs of this one.
pub mod LegibleDesigns
pub mod LegibleObjects
pub mod LegibleTicks
pub mod LegibleUnits
pub mod WrittenTexts
pub mod RankedTexts
