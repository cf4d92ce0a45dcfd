use Rattle.std.proofs.Common.{◌≡◌, [], length, map}
use Rattle.ada_tree.specs.Trees.{unit_of}
use Rattle.trace_checks.specs.First.{first_failing, is_requested_by}
use Rattle.trace_checks.specs.Serving.{serving_of}
use Rattle.trace_checks.proofs.parts.first_unserved.Given as goal

-- the first of those that are left
abbrev pub invariant-units : goal.invariant-units
invariant-units l = first_failing (is_requested_by) (map unit_of l.units_left) (map serving_of l.waiting_left) [] ≡ first_failing (is_requested_by) (map unit_of l.fn.units) (map serving_of l.fn.waiting) []

-- the units that are left
abbrev pub decreases-units : goal.decreases-units
decreases-units l = length l.units_left
