use Rattle.std.proofs.Common.{◌≡◌, map, filter_map, drop}
use Rattle.ods_tree.specs.Trees.{body_of, design_of}
use Rattle.design_rules.specs.Bodies.{body_fault}
use Rattle.ods_index.specs.Judging.{head_of}
use Rattle.ods_index.specs.Walking.{object_of}
use Rattle.ods_forms.proofs.bodies.judge_bodies.Given as goal

-- the first fault is that of the bodies that are left
abbrev pub invariant-bodies : goal.invariant-bodies
invariant-bodies l =
    head_of (filter_map (body_fault (design_of l.index.design.now) (object_of l.node)) (map body_of (drop l.body-index l.body-items)))
    ≡ head_of (filter_map (body_fault (design_of l.index.design.now) (object_of l.node)) (object_of l.node).bodies)
