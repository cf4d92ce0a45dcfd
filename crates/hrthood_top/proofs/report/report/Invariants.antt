use Rattle.std.proofs.Common.{◌≡◌, ◌++◌, drop, flat_map}
use Rattle.hrthood_top.specs.Analyses.{bound_line, ceiling_line}
use Rattle.hrthood_top.proofs.report.report.Given as goal

-- the lines so far, and those of the bounds that are left
abbrev pub invariant-bounds : goal.invariant-bounds
invariant-bounds l = l.text.items ++ flat_map bound_line (drop l.bound-index l.bounds) ≡ flat_map bound_line l.bounds

-- the lines so far, and those of the ceilings that are left
abbrev pub invariant-ceilings : goal.invariant-ceilings
invariant-ceilings l =
    l.text.items ++ flat_map ceiling_line (drop l.row-index l.ceilings) ≡ flat_map bound_line l.bounds ++ flat_map ceiling_line l.ceilings
