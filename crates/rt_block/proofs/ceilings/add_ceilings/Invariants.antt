use Rattle.std.proofs.Common.{◌≡◌, ◌++◌, map, drop}
use Rattle.seq_tree.specs.Trees.{operation_of}
use Rattle.rt_block.specs.Ceilings.{for_each}
use Rattle.rt_block.proofs.ceilings.add_ceilings.Given as goal

-- the ceilings so far, and those of the operations that are left
abbrev pub invariant-ops : goal.invariant-ops
invariant-ops l =
    l.into.items ++ for_each l.ceiling (map operation_of (drop l._op-index l.ops)) ≡ l.initial.into.items
    ++ for_each l.ceiling (map operation_of l.ops)
