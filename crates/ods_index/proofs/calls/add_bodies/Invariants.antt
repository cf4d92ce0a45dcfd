use Rattle.std.proofs.Common.{◌≡◌, ◌++◌, map, drop}
use Rattle.ods_tree.specs.Trees.{body_of, design_of}
use Rattle.ods_index.specs.Calling.{body_calls, calls_of}
use Rattle.ods_index.proofs.calls.add_bodies.Given as goal

-- the bodies so far, and those that are left
abbrev pub invariant-bodies : goal.invariant-bodies
invariant-bodies l =
    map calls_of l.into.items
    ++ map (body_calls (design_of l.links.design.now) l.kind l.object l.needs.value.ops.now) (map body_of (drop l.body-index l.bodies))
    ≡ map calls_of l.initial.into.items
    ++ map (body_calls (design_of l.links.design.now) l.kind l.object l.needs.value.ops.now) (map body_of l.bodies)
