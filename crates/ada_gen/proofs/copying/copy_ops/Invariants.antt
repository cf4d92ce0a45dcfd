use Rattle.std.proofs.Common.{◌≡◌, map, take}
use Rattle.seq_tree.specs.Trees.{operation_of}
use Rattle.ada_gen.proofs.copying.copy_ops.Given as goal

-- the copies so far have the trees of the operations so far
abbrev pub invariant-ops : goal.invariant-ops
invariant-ops l = map operation_of l.copies.items ≡ map operation_of (take l.op-index l.ops)
