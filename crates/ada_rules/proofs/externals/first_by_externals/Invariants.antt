use Rattle.std.proofs.Common.{◌≡◌, true, map}
use Rattle.ada_tree.specs.Trees.{program_of, unit_of}
use Rattle.ada_tree.specs.Uses.{breaks_external}
use Rattle.ada_rules.specs.Firsts.{NoneBefore}
use Rattle.ada_rules.proofs.externals.first_by_externals.Given as goal

-- no unit before breaks the rule
abbrev pub invariant-units : goal.invariant-units
invariant-units l = NoneBefore (λ place u. breaks_external (program_of l.program) u.name u.form ≡ true) (map unit_of l.list) l.place
