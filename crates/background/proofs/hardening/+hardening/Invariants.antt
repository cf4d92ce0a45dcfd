use Rattle.std.proofs.Common.{◌≡◌, ◌++◌, map, take, drop}
use Rattle.ods_tree.specs.Trees.{tree_of}
use Rattle.background_designs.specs.HardParts.{hard_tree}
use Rattle.background.proofs.hardening.+hardening.Given as goal

-- those so far are hard ones, and those that are left unchanged
abbrev pub invariant-harden_nodes-nodes : goal.invariant-harden_nodes-nodes
invariant-harden_nodes-nodes l =
    (map tree_of l.nodes ≡ map hard_tree (take l.place (map tree_of l.initial.nodes)) ++ drop l.place (map tree_of l.initial.nodes))
    × goal.unvisited-harden_nodes-nodes l
