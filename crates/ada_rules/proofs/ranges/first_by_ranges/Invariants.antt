use Rattle.std.proofs.Common.{◌≡◌, true, map}
use Rattle.ada_tree.specs.Trees.{unit_of}
use Rattle.ada_tree.specs.Ranges.{breaks_ranges}
use Rattle.ada_rules.specs.Firsts.{NoneBefore}
use Rattle.ada_rules.proofs.ranges.first_by_ranges.Given as goal

-- no unit before breaks the rule
abbrev pub invariant-units : goal.invariant-units
invariant-units l = NoneBefore (λ place u. breaks_ranges u ≡ true) (map unit_of l.list) l.place
