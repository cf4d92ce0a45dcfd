use Rattle.std.proofs.Common.{◌≡◌, ℕ, Some, None, min, map, drop}
use Rattle.std.specs.Prelude.{if◌then◌else◌}
use Rattle.std.specs.List.{list_any}
use Rattle.seq_tree.specs.Calls.{same_op}
use Rattle.seq_tree.specs.declared.tree.OpName.{OpName}
use Rattle.name_sets.specs.Tables.{at}
use Rattle.ods_tree.specs.Trees.{design_of}
use Rattle.ods_calls.specs.Requested.{Knows, bodies_at, greatest_count}
use Rattle.ods_calls.proofs.requests.counts_of.Given as goal
use Rattle.seq_cost.specs.Different.{call_of}

-- the operations so far have their counts, and with those that are left all have
abbrev pub invariant-ops : goal.invariant-ops
invariant-ops l =
    (inner : OpName → ℕ) → Knows l.known inner → (n : OpName)
    → (if list_any (λ c. same_op c n) (map call_of (drop l.op-index l.ops))
    then Some (min 2 (greatest_count (design_of l.links.design.now) l.target inner (bodies_at l.bodies n))) else at l.counts n)
    ≡ (if list_any (λ c. same_op c n) (map call_of l.ops)
    then Some (min 2 (greatest_count (design_of l.links.design.now) l.target inner (bodies_at l.bodies n))) else None)
