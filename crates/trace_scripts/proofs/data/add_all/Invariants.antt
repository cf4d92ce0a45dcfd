use Rattle.std.proofs.Common.{◌≡◌, ◌++◌}
use Rattle.std.specs.Vec.Iter.{into_iter_items}
use Rattle.trace_scripts.proofs.data.add_all.Given as goal

-- the variables so far are there
abbrev pub invariant-slots : goal.invariant-slots
invariant-slots l = l.env.slots.items ++ into_iter_items l.slot-iterator ≡ l.fn.env.slots.items ++ l.fn.data.slots.items
