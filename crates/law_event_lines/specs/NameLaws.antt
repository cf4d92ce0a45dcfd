-- The program of a design that was read and meets the rules has plain names.
-- Identifiers are those of ISO/IEC 8652:2012, 2.3, in ASCII.
use Rattle.std.specs.Prelude.{ℕ, List}
use Rattle.ods_tree.specs.Designs.{Design}
use Rattle.ods_tree.specs.Reading.{Reads}
use Rattle.ods_tree.specs.Ticks.{in_ticks}
use Rattle.design_rules.specs.Rules.{MeetsRules}
use Rattle.guarantee.specs.Programs.{program}
use Rattle.law_traces.specs.Told.{HasPlainNames}

abbrev pub DesignsHavePlainNames : Type 0
DesignsHavePlainNames = (x : Design) (bytes : List ℕ) → Reads bytes x → MeetsRules x → HasPlainNames (program (in_ticks x))
