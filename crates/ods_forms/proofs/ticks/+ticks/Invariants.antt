use Rattle.std.proofs.Common.{◌≡◌, ◌++◌, map, take, drop}
use Rattle.ods_tree.specs.Trees.{tree_of}
use Rattle.ods_forms.specs.Whole.{tree_set}
use Rattle.ods_forms.proofs.ticks.+ticks.Given as goal

-- those so far are in ticks, and those that are left unchanged
abbrev pub invariant-set_nodes-nodes : goal.invariant-set_nodes-nodes
invariant-set_nodes-nodes l =
    (map tree_of l.nodes ≡ map (tree_set l.tick) (take l.place (map tree_of l.initial.nodes)) ++ drop l.place (map tree_of l.initial.nodes))
    × goal.unvisited-set_nodes-nodes l
