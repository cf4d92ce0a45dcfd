use Rattle.std.proofs.Common.{◌≡◌, ℕ, Some, None, map, drop}
use Rattle.std.specs.Prelude.{if◌then◌else◌}
use Rattle.std.specs.List.{list_any}
use Rattle.seq_tree.specs.Calls.{same_op}
use Rattle.seq_tree.specs.declared.tree.OpName.{OpName}
use Rattle.name_sets.specs.Tables.{at}
use Rattle.seq_cost.specs.Different.{call_of}
use Rattle.ods_tree.specs.Trees.{design_of}
use Rattle.ods_calls.specs.Requested.{call_weight, known_in}
use Rattle.ods_calls.proofs.requests.account_of.Given as goal

-- the calls so far have their counts, and with those that are left all have
abbrev pub invariant-calls : goal.invariant-calls
invariant-calls l =
    let v : OpName → ℕ = call_weight (design_of l.links.design.now) l.target (known_in l.known) l.needs.ops.now in
    (n : OpName) → (if list_any (λ c. same_op c n) (map call_of (drop l.call-index l.calls)) then Some (v n) else at l.account n)
    ≡ (if list_any (λ c. same_op c n) (map call_of l.calls) then Some (v n) else None)
