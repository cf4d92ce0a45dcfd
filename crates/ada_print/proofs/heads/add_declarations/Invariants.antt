use Rattle.std.proofs.Common.{◌≡◌, ◌++◌, drop, map}
use Rattle.seq_tree.specs.Layout.{layout}
use Rattle.seq_tree.specs.Trees.{operation_of}
use Rattle.ada_tree.specs.Spelling.{declaration_line}
use Rattle.ada_print.proofs.heads.add_declarations.Given as goal

-- with the lines of the procedures that are left, those of all have been added
abbrev pub invariant-ops : goal.invariant-ops
invariant-ops l =
    l.into.items ++ layout (map (λ o. declaration_line l.level o.sig) (map operation_of (drop l.op-index l.ops)))
    ≡ l.initial.into.items ++ layout (map (λ o. declaration_line l.level o.sig) (map operation_of l.ops))
