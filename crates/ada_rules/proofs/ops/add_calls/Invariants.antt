use Rattle.std.proofs.Common.{◌≡◌, ◌||◌, map, take}
use Rattle.std.specs.List.{list_any}
use Rattle.seq_tree.specs.Calls.{same_op}
use Rattle.seq_tree.specs.declared.tree.OpName.{OpName}
use Rattle.seq_cost.specs.Different.{call_of}
use Rattle.name_sets.specs.Sets.{has_op}
use Rattle.ada_rules.proofs.ops.add_calls.Given as goal

-- the calls so far
abbrev pub invariant-calls : goal.invariant-calls
invariant-calls l = (n : OpName) → has_op l.ops n ≡ (list_any (λ c. same_op c n) (map call_of (take l.call-index l.calls)) || has_op l.initial.ops n)
