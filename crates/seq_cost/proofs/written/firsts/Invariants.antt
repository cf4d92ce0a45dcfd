use Rattle.std.proofs.Common.{◌≡◌, [], map, drop}
use Rattle.std.specs.List.{list_any}
use Rattle.seq_tree.specs.Calls.{same_op}
use Rattle.seq_tree.specs.declared.tree.OpName.{OpName}
use Rattle.seq_cost.specs.Different.{call_of}
use Rattle.name_sets.specs.Sets.{has_op}
use Rattle.seq_cost.proofs.Gathering.{with_calls}
use Rattle.seq_cost.proofs.written.firsts.Given as goal

-- what was found, with the calls that are left, is what all of them give, and the set has what was found
abbrev pub invariant-calls : goal.invariant-calls
invariant-calls l =
    (with_calls l.found.items (map call_of (drop l.call-index l.calls)) ≡ with_calls [] (map call_of l.calls))
    × ((n : OpName) → has_op l.seen n ≡ list_any (λ f. same_op f n) l.found.items)
