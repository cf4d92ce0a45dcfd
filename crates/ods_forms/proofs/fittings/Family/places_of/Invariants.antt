use Rattle.std.proofs.Common.{◌≡◌, ◌≤◌, length, map, drop}
use Rattle.seq_tree.specs.Names.{Name}
use Rattle.name_sets.specs.Places.{place_in}
use Rattle.name_sets.specs.FirstPlaces.{place_from}
use Rattle.ods_index.specs.Walking.{object_of}
use Rattle.ods_forms.proofs.fittings.Family.places_of.Given as goal

-- the places of the children from this one on
abbrev pub invariant-children : goal.invariant-children
invariant-children l = (l.place ≤ length l.children)
    × ((n : Name) → place_in l.places n ≡ place_from l.place n (map (λ c. (object_of c).name) (drop l.place l.children)))

-- the children that are left
abbrev pub decreases-children : goal.decreases-children
decreases-children l = l.place
