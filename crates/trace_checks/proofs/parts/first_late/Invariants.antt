use Rattle.std.proofs.Common.{◌≡◌, [], length, map}
use Rattle.ada_tree.specs.Trees.{unit_of}
use Rattle.trace_checks.specs.First.{first_failing, is_periodic_by}
use Rattle.trace_checks.proofs.parts.first_late.Given as goal

-- the first of those that are left
abbrev pub invariant-units : goal.invariant-units
invariant-units l = first_failing (is_periodic_by l.until) (map unit_of l.units_left) l.nexts_left [] ≡ first_failing (is_periodic_by l.until) (map unit_of l.fn.units) l.fn.nexts []

-- the units that are left
abbrev pub decreases-units : goal.decreases-units
decreases-units l = length l.units_left
