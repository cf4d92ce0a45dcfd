use Rattle.std.proofs.Common.{◌≡◌, ◌++◌, flat_map, length}
use Rattle.hrthood_top.specs.Analyses.{ceiling_line}
use Rattle.hrthood_top.proofs.explain.add_ceilings.Given as goal

-- the lines so far, and those of the ceilings that are left
abbrev pub invariant-ceilings : goal.invariant-ceilings
invariant-ceilings l = l.text.items ++ flat_map ceiling_line l.left ≡ l.initial.text.items ++ flat_map ceiling_line l.ceilings

abbrev pub decreases-ceilings : goal.decreases-ceilings
decreases-ceilings l = length l.left
