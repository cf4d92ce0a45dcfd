use Rattle.std.proofs.Common.{◌≡◌, map, drop, flat_map}
use Rattle.ods_tree.specs.Trees.{body_of, design_of}
use Rattle.ods_calls.specs.Costed.{dear_bodies}
use Rattle.ods_index.specs.Judging.{head_of}
use Rattle.ods_index.specs.Walking.{object_of}
use Rattle.ods_calls.proofs.sizes.bodies_fit.Given as goal

-- it is up to the bodies that are left
abbrev pub invariant-bodies : goal.invariant-bodies
invariant-bodies l =
    head_of (flat_map (dear_bodies (design_of l.priced.links.now.design.now) (object_of l.node)) (map body_of (drop l.body-index l.bodies)))
    ≡ head_of (flat_map (dear_bodies (design_of l.priced.links.now.design.now) (object_of l.node)) (map body_of l.bodies))
