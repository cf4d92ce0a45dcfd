use Rattle.std.proofs.Common.{◌≡◌, ◌++◌, map, flat_map, drop}
use Rattle.seq_check.specs.Scopes.{offer_view}
use Rattle.ada_tree.specs.Trees.{unit_of}
use Rattle.ada_rules.specs.FaultsTold.{unit_offers}
use Rattle.ada_rules.proofs.bodies.all_offers.Given as goal

-- the operations so far, and those of the units that are left
abbrev pub invariant-units : goal.invariant-units
invariant-units l = map offer_view l.offers.items ++ flat_map unit_offers (map unit_of (drop l.unit-index l.units))
    ≡ flat_map unit_offers (map unit_of l.units)
