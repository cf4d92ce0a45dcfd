use Rattle.std.proofs.Common.{◌≡◌, drop}
use Rattle.std.specs.List.{list_any}
use Rattle.ada_rules.specs.Lists.{names_of}
use Rattle.name_sets.specs.Sets.{has}
use Rattle.ada_rules.proofs.naming.any_taken.Given as goal

-- it is up to the names that are left
abbrev pub invariant-names : goal.invariant-names
invariant-names l = list_any (has l.taken) (names_of (drop l.name-index l.names)) ≡ list_any (has l.taken) (names_of l.names)
