use Rattle.std.proofs.Common.{◌≡◌, ◌++◌, drop, flat_map, map}
use Rattle.seq_tree.specs.Layout.{layout}
use Rattle.seq_tree.specs.Trees.{operation_of}
use Rattle.ada_tree.specs.Spelling.{body_lines}
use Rattle.ada_print.proofs.operations.add_bodies.Given as goal

-- with the lines of the procedures that are left, those of all have been added
abbrev pub invariant-ops : goal.invariant-ops
invariant-ops l =
    l.into.items ++ layout (flat_map (body_lines l.level) (map operation_of (drop l.op-index l.ops)))
    ≡ l.initial.into.items ++ layout (flat_map (body_lines l.level) (map operation_of l.ops))
