use Rattle.std.proofs.Common.{◌≡◌, ◌++◌, map, take}
use Rattle.seq_tree.specs.Trees.{operation_of}
use Rattle.design_accepts.proofs.called.add_passive.Given as goal

-- behind what was there stand the operations so far, each with its owner
abbrev pub invariant-ops : goal.invariant-ops
invariant-ops l =
    (map operation_of l.passive.items ≡ map operation_of l.initial.passive.items ++ map operation_of (take l.op-index l.ops))
    × (l.owners.items ≡ l.initial.owners.items ++ map (λ o. l.name) (map operation_of (take l.op-index l.ops)))
