use Rattle.std.proofs.Common.{◌≡◌, ◌++◌, filter, flat_map, map, drop}
use Rattle.ods_tree.specs.Trees.{design_of}
use Rattle.ods_tree.specs.Walk.{is_terminal}
use Rattle.ods_index.specs.Calling.{calls_of, object_calls}
use Rattle.ods_index.specs.Walking.{standing_of}
use Rattle.ods_index.proofs.calls.op_calls.Given as goal

-- the bodies so far, and those of the objects that are left
abbrev pub invariant-objects : goal.invariant-objects
invariant-objects l =
    map calls_of l.calls.items
    ++ flat_map (λ s. object_calls (design_of l.links.design.now) s.own) (filter is_terminal (map standing_of (drop l.standing-index l.objects)))
    ≡ flat_map (λ s. object_calls (design_of l.links.design.now) s.own) (filter is_terminal (map standing_of l.objects))
