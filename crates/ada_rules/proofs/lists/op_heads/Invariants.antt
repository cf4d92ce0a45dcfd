use Rattle.std.proofs.Common.{◌≡◌, map, take}
use Rattle.seq_tree.specs.Trees.{operation_of}
use Rattle.ada_rules.specs.Lists.{head_of}
use Rattle.ada_rules.proofs.lists.op_heads.Given as goal

-- the heads so far are those of the operations so far
abbrev pub invariant-ops : goal.invariant-ops
invariant-ops l = map head_of l.heads.items ≡ map (λ o. o.sig) (map operation_of (take l.op-index l.ops))
