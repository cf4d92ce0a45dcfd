use Rattle.std.proofs.Common.{◌≡◌, map, drop}
use Rattle.seq_tree.specs.declared.tree.OpName.{OpName}
use Rattle.seq_cost.specs.Different.{call_of}
use Rattle.name_sets.specs.FirstPlaces.{op_place_from}
use Rattle.name_sets.specs.Tables.{at}
use Rattle.ods_tree.specs.Links.{first_of}
use Rattle.call_graph.proofs.call_places.op_places.Given as goal

-- the places of the operations so far, or of those that are left
abbrev pub invariant-ops : goal.invariant-ops
invariant-ops l =
    (n : OpName) → first_of (at l.places n) (op_place_from l.place (map call_of (drop l.place l.ops)) n) ≡ op_place_from 0 (map call_of l.ops) n
