use Rattle.std.proofs.Common.{◌≡◌, true, map}
use Rattle.ada_tree.specs.Trees.{program_of, unit_of}
use Rattle.ada_tree.specs.Uses.{breaks_uses}
use Rattle.ada_rules.specs.Firsts.{NoneBefore}
use Rattle.ada_rules.proofs.uses.first_by_uses.Given as goal

-- no unit before breaks the rule
abbrev pub invariant-units : goal.invariant-units
invariant-units l = NoneBefore (λ place u. breaks_uses (program_of l.program) u ≡ true) (map unit_of l.list) l.place
