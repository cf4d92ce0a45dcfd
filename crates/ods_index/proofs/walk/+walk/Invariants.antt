use Rattle.std.proofs.Common.{◌≡◌, ◌++◌, map, drop, Some}
use Rattle.ods_tree.specs.Trees.{trees_of, tree_of}
use Rattle.ods_tree.specs.Walk.{inner_standings}
use Rattle.ods_index.specs.Walking.{object_of, standing_of}
use Rattle.ods_index.proofs.walk.+walk.Given as goal

-- the objects so far, and those inside the children that are left
abbrev pub invariant-children : goal.invariant-children
invariant-children l =
    map standing_of l.into.items
    ++ inner_standings (Some (object_of l.node)) (map object_of l.child-items) (trees_of (map tree_of (drop l.child-index l.child-items)))
    ≡ map standing_of l.initial.into.items
    ++ inner_standings (Some (object_of l.node)) (map object_of l.child-items) (trees_of (map tree_of l.child-items))
