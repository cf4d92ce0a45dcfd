use Rattle.std.proofs.Common.{◌≡◌, ◌++◌, drop, map}
use Rattle.ods_tree.specs.Spelling.{trees_lines}
use Rattle.ods_tree.specs.Trees.{tree_of, trees_of}
use Rattle.ods_print.specs.Parts.{lines_text}
use Rattle.ods_print.proofs.nodes.+nodes.Given as goal

-- with the lines of the objects that are left, those of all have been added
abbrev pub invariant-add_nodes-nodes : goal.invariant-add_nodes-nodes
invariant-add_nodes-nodes l =
    l.into.items ++ lines_text (trees_lines l.level (trees_of (map tree_of (drop l.node-index l.nodes))))
    ≡ l.initial.into.items ++ lines_text (trees_lines l.level (trees_of (map tree_of l.nodes)))
