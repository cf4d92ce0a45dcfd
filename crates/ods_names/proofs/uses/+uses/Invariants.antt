use Rattle.std.proofs.Common.{◌≡◌, map, flat_map, drop, Some}
use Rattle.ods_tree.specs.Trees.{design_of, trees_of, tree_of}
use Rattle.ods_tree.specs.Walk.{standings, inner_standings}
use Rattle.ods_index.specs.Judging.{head_of}
use Rattle.ods_names.specs.Needs.{bad_needs}
use Rattle.ods_index.specs.Walking.{object_of, parent_of, siblings_of}
use Rattle.ods_names.proofs.uses.+uses.Given as goal

-- the first is that of the children that are left
abbrev pub invariant-children : goal.invariant-children
invariant-children l =
    head_of (flat_map (bad_needs l.rule (design_of l.index.design.now))
    (inner_standings (Some (object_of l.node)) (map object_of l.child-items) (trees_of (map tree_of (drop l.child-index l.child-items)))))
    ≡ head_of (flat_map (bad_needs l.rule (design_of l.index.design.now))
    (standings (parent_of l.parent) (siblings_of (object_of l.node) l.siblings) (tree_of l.node)))
