use Rattle.std.proofs.Common.{◌≡◌, ◌++◌, map, drop}
use Rattle.ods_calls.specs.Guarded.{guards_among}
use Rattle.ods_index.specs.Nodes.{node_object}
use Rattle.ods_index.specs.Walking.{standing_of}
use Rattle.ods_calls.proofs.object_rings.guards_of.Given as goal

-- the objects so far, and those of the ones that are left
abbrev pub invariant-objects : goal.invariant-objects
invariant-objects l =
    map node_object l.guards.items ++ guards_among (map standing_of (drop l.standing-index l.objects)) ≡ guards_among (map standing_of l.objects)
