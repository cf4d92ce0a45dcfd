use Rattle.std.proofs.Common.{◌≡◌, ◌≤◌, length, map, drop}
use Rattle.seq_tree.specs.Names.{Name}
use Rattle.name_sets.specs.Places.{place_in}
use Rattle.name_sets.specs.FirstPlaces.{place_from}
use Rattle.ods_index.specs.Tables.{object_name}
use Rattle.ods_index.proofs.index.places_of.Given as goal

-- the places of the objects from this one on
abbrev pub invariant-objects : goal.invariant-objects
invariant-objects l =
    (l.place ≤ length l.objects) × ((n : Name) → place_in l.places n ≡ place_from l.place n (map object_name (drop l.place l.objects)))

-- the objects that are left
abbrev pub decreases-objects : goal.decreases-objects
decreases-objects l = l.place
