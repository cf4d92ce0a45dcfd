use Rattle.std.proofs.Common.{◌≡◌, ◌≤◌, length, map, drop}
use Rattle.seq_tree.specs.Names.{Name}
use Rattle.name_sets.specs.Places.{place_in}
use Rattle.name_sets.specs.FirstPlaces.{place_from}
use Rattle.ods_index.specs.Tables.{op_name}
use Rattle.ods_index.proofs.tables.ProvidedOps.new.Given as goal

-- the places of the operations from this one on
abbrev pub invariant-ops : goal.invariant-ops
invariant-ops l = (l.place ≤ length l.provides) × ((n : Name) → place_in l.places n ≡ place_from l.place n (map op_name (drop l.place l.provides)))

-- the operations that are left
abbrev pub decreases-ops : goal.decreases-ops
decreases-ops l = l.place
