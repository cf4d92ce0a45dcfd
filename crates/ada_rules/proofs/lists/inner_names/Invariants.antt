use Rattle.std.proofs.Common.{◌≡◌, ◌++◌, map, drop, flat_map}
use Rattle.ada_rules.specs.Lists.{body_inner_names, names_of}
use Rattle.ada_rules.specs.Parts.{body_of}
use Rattle.ada_rules.proofs.lists.inner_names.Given as goal

-- the names so far, and those of the bodies that are left
abbrev pub invariant-bodies : goal.invariant-bodies
invariant-bodies l = names_of l.names.items ++ flat_map body_inner_names (map body_of (drop l.body-index l.body-items))
    ≡ names_of l.initial.names.items ++ flat_map body_inner_names (map body_of l.body-items)
