use Rattle.std.proofs.Common.{◌≡◌, ◌++◌, flat_map, map, drop}
use Rattle.seq_tree.specs.Trees.{operation_of}
use Rattle.rt_order.specs.Called.{called_objects, names_of}
use Rattle.rt_order.proofs.called.names_called.Given as goal

-- the names so far, and those of the operations that are left
abbrev pub invariant-ops : goal.invariant-ops
invariant-ops l = names_of l.names.items ++ flat_map (λ o. called_objects o.block) (map operation_of (drop l.op-index l.op-items))
    ≡ flat_map (λ o. called_objects o.block) (map operation_of l.op-items)
