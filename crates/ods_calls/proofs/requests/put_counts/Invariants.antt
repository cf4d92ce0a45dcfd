use Rattle.std.proofs.Common.{◌≡◌, map, drop}
use Rattle.std.specs.Prelude.{if◌then◌else◌}
use Rattle.std.specs.List.{list_any}
use Rattle.seq_tree.specs.Calls.{same_op}
use Rattle.seq_tree.specs.declared.tree.OpName.{OpName}
use Rattle.ods_calls.specs.Requested.{known_in}
use Rattle.ods_calls.proofs.requests.put_counts.Given as goal
use Rattle.seq_cost.specs.Different.{call_of}

-- the operations so far have their counts, and with those that are left all have
abbrev pub invariant-ops : goal.invariant-ops
invariant-ops l =
    (n : OpName) → (if list_any (λ c. same_op c n) (map call_of (drop l.op-index l.ops)) then known_in l.counts n else known_in l.known n)
    ≡ (if list_any (λ c. same_op c n) (map call_of l.ops) then known_in l.counts n else known_in l.initial.known n)
