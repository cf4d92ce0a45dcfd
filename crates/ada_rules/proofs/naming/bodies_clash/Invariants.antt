use Rattle.std.proofs.Common.{◌≡◌, map, drop}
use Rattle.std.specs.List.{list_any}
use Rattle.ada_rules.specs.Clashes.{clashes_inside}
use Rattle.ada_rules.specs.Parts.{body_of}
use Rattle.name_sets.specs.Sets.{has}
use Rattle.ada_rules.proofs.naming.bodies_clash.Given as goal

-- it is up to the bodies that are left
abbrev pub invariant-bodies : goal.invariant-bodies
invariant-bodies l = list_any (clashes_inside (has l.taken)) (map body_of (drop l.body-index l.bodies))
    ≡ list_any (clashes_inside (has l.taken)) (map body_of l.bodies)
