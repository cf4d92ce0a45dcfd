use Rattle.std.proofs.Common.{◌≡◌, ◌≤◌, length, map, drop}
use Rattle.seq_tree.specs.Names.{Name}
use Rattle.seq_tree.specs.Trees.{operation_of}
use Rattle.name_sets.specs.Places.{place_in}
use Rattle.name_sets.specs.FirstPlaces.{place_from}
use Rattle.trace_read.proofs.table.places_of_texts.Given as goal

-- the places from this one on
abbrev pub invariant-ops : goal.invariant-ops
invariant-ops l = (l.place ≤ length l.ops)
    × ((n : Name) → place_in l.places n ≡ place_from l.place n (map (λ h. h.name) (map (λ o. o.sig) (map operation_of (drop l.place l.ops)))))

-- what is left
abbrev pub decreases-ops : goal.decreases-ops
decreases-ops l = l.place
