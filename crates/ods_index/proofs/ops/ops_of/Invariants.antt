use Rattle.std.proofs.Common.{◌≡◌, ◌++◌, filter, flat_map, map, drop}
use Rattle.ods_tree.specs.Walk.{is_terminal}
use Rattle.ods_index.specs.OwnOps.{own_ops}
use Rattle.ods_index.specs.Walking.{standing_of}
use Rattle.ods_index.proofs.ops.ops_of.Given as goal
use Rattle.seq_cost.specs.Different.{call_of}

-- the operations so far, and those of the objects that are left
abbrev pub invariant-objects : goal.invariant-objects
invariant-objects l =
    map call_of l.ops.items ++ flat_map own_ops (filter is_terminal (map standing_of (drop l.standing-index l.objects)))
    ≡ flat_map own_ops (filter is_terminal (map standing_of l.objects))
