use Rattle.std.proofs.Common.{◌≡◌, ◌++◌, map, drop}
use Rattle.seq_tree.specs.Trees.{block_of}
use Rattle.seq_cost.specs.Different.{call_of}
use Rattle.rt_order.specs.Called.{called_objects, names_of}
use Rattle.rt_order.proofs.called.add_called.Given as goal

-- the names so far, and those of the calls that are left
abbrev pub invariant-calls : goal.invariant-calls
invariant-calls l = names_of l.into.items ++ map (λ c. c.object) (map call_of (drop l.call-index l.call-items))
    ≡ names_of l.initial.into.items ++ called_objects (block_of l.block)
