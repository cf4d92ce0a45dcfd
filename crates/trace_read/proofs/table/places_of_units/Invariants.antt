use Rattle.std.proofs.Common.{◌≡◌, ◌≤◌, length, map, drop}
use Rattle.seq_tree.specs.Names.{Name}
use Rattle.ada_tree.specs.Trees.{unit_of}
use Rattle.name_sets.specs.Places.{place_in}
use Rattle.name_sets.specs.FirstPlaces.{place_from}
use Rattle.trace_read.proofs.table.places_of_units.Given as goal

-- the places from this one on
abbrev pub invariant-units : goal.invariant-units
invariant-units l = (l.place ≤ length l.units)
    × ((n : Name) → place_in l.places n ≡ place_from l.place n (map (λ u. u.name) (map unit_of (drop l.place l.units))))

-- what is left
abbrev pub decreases-units : goal.decreases-units
decreases-units l = l.place
