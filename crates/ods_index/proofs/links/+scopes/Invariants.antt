use Rattle.std.proofs.Common.{◌≤◌, length, map, drop}
use Rattle.ods_tree.specs.Links.{inner_named}
use Rattle.ods_tree.specs.Trees.{tree_of, trees_of}
use Rattle.ods_index.specs.Scoped.{AreChildren, Covers, Keeps, scope_trees}
use Rattle.ods_index.proofs.links.+scopes.Given as goal

-- the objects from this one on, with those inside them
abbrev pub invariant-add_objects-nodes : goal.invariant-add_objects-nodes
invariant-add_objects-nodes l =
    (l.left ≤ length l.nodes)
    × Keeps (scope_trees l.initial.scopes.items) (scope_trees l.scopes.items)
    × AreChildren (scope_trees l.scopes.items) l.children (trees_of (map tree_of (drop l.left l.nodes)))
    × Covers (λ n. inner_named n (trees_of (map tree_of (drop l.left l.nodes)))) (scope_trees l.initial.scopes.items) l.initial.names
    (scope_trees l.scopes.items) l.names

-- the objects that are left
abbrev pub decreases-add_objects-nodes : goal.decreases-add_objects-nodes
decreases-add_objects-nodes l = l.left
