use Rattle.std.proofs.Common.{◌≡◌, map, drop, flat_map}
use Rattle.ods_tree.specs.Trees.{design_of}
use Rattle.ods_calls.specs.Costed.{dear_parts}
use Rattle.ods_index.specs.Judging.{head_of}
use Rattle.ods_index.specs.Walking.{standing_of}
use Rattle.ods_calls.proofs.sizes.costs_fit.Given as goal

-- it is up to the objects that are left
abbrev pub invariant-objects : goal.invariant-objects
invariant-objects l =
    head_of (flat_map (dear_parts (design_of l.priced.links.now.design.now)) (map standing_of (drop l.standing-index l.objects)))
    ≡ head_of (flat_map (dear_parts (design_of l.priced.links.now.design.now)) (map standing_of l.objects))
