-- What other crates may cite of the proofs of this one.
pub mod CheckedDesigns
pub mod RankLaws
pub mod RowLaws
pub mod TablePlaces
