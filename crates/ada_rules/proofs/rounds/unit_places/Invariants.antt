use Rattle.std.proofs.Common.{◌≡◌, ◌≤◌, length, map, drop}
use Rattle.seq_tree.specs.Names.{Name}
use Rattle.name_sets.specs.FirstPlaces.{place_from}
use Rattle.name_sets.specs.Places.{place_in}
use Rattle.ada_tree.specs.Trees.{unit_of}
use Rattle.ada_rules.proofs.rounds.unit_places.Given as goal

-- the places of the units from this one on
abbrev pub invariant-units : goal.invariant-units
invariant-units l =
    (l.place ≤ length l.units) × ((n : Name) → place_in l.places n ≡ place_from l.place n (map (λ u. u.name) (map unit_of (drop l.place l.units))))

-- the units that are left
abbrev pub decreases-units : goal.decreases-units
decreases-units l = l.place
