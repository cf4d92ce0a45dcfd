use Rattle.std.proofs.Common.{◌≡◌, ◌++◌, map, drop}
use Rattle.seq_tree.specs.Trees.{operation_of}
use Rattle.rt_block.specs.Known.{design}
use Rattle.rt_block.specs.PartCosts.{body_cost}
use Rattle.rt_block.proofs.parts.add_bodies.Given as goal

-- the costs so far, and those of the bodies that are left
abbrev pub invariant-ops : goal.invariant-ops
invariant-ops l =
    l.into.items ++ map (body_cost (design l.operations)) (map operation_of (drop l.op-index l.ops)) ≡ l.initial.into.items
    ++ map (body_cost (design l.operations)) (map operation_of l.ops)
