use Rattle.std.proofs.Common.{◌≡◌, ◌≤◌, length, map, drop}
use Rattle.seq_tree.specs.Names.{Name}
use Rattle.name_sets.specs.Places.{place_in}
use Rattle.ods_index.specs.Nodes.{node_name}
use Rattle.name_sets.specs.FirstPlaces.{place_from}
use Rattle.ods_index.proofs.tables.places_of.Given as goal

-- the places of the objects from this one on
abbrev pub invariant-nodes : goal.invariant-nodes
invariant-nodes l = (l.place ≤ length l.nodes) × ((n : Name) → place_in l.places n ≡ place_from l.place n (map node_name (drop l.place l.nodes)))

-- the objects that are left
abbrev pub decreases-nodes : goal.decreases-nodes
decreases-nodes l = l.place
