use Rattle.std.proofs.Common.{◌≡◌, ◌++◌, map, drop}
use Rattle.seq_tree.specs.Trees.{operation_of}
use Rattle.ada_rules.specs.Callers.{caller_of, op_caller}
use Rattle.ada_rules.proofs.callers.add_ops.Given as goal

-- the operations so far, and those that are left
abbrev pub invariant-ops : goal.invariant-ops
invariant-ops l =
    map caller_of l.into.items ++ map (op_caller l.object) (map operation_of (drop l.op-index l.ops))
    ≡ map caller_of l.initial.into.items ++ map (op_caller l.object) (map operation_of l.ops)
