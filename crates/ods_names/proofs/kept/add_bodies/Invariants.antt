use Rattle.std.proofs.Common.{◌≡◌, ◌++◌, map, flat_map, drop}
use Rattle.ods_tree.specs.Trees.{body_of}
use Rattle.design_rules.specs.Words.{body_names}
use Rattle.ods_names.specs.NameLists.{names_of}
use Rattle.ods_names.proofs.kept.add_bodies.Given as goal

-- the names so far, and those of the bodies that are left
abbrev pub invariant-bodies : goal.invariant-bodies
invariant-bodies l = names_of l.names.items ++ flat_map body_names (map body_of (drop l.body-index l.bodies))
    ≡ names_of l.initial.names.items ++ flat_map body_names (map body_of l.bodies)
