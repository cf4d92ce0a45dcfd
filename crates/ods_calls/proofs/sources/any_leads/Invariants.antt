use Rattle.std.proofs.Common.{◌≡◌, map, drop}
use Rattle.seq_tree.specs.declared.tree.OpName.{OpName}
use Rattle.ods_calls.specs.Sourced.{any_leads}
use Rattle.ods_calls.specs.Spotted.{marked, spot_in}
use Rattle.ods_calls.specs.Starting.{Op}
use Rattle.ods_calls.proofs.sources.any_leads.Given as goal
use Rattle.seq_cost.specs.Different.{call_of}

-- it is up to the operations that are left
abbrev pub invariant-ops : goal.invariant-ops
invariant-ops l =
    any_leads l.target (λ (m : OpName). marked l.leading (spot_in l.spots (Op m))) (map call_of (drop l.op-index l.ops))
    ≡ any_leads l.target (λ (m : OpName). marked l.leading (spot_in l.spots (Op m))) (map call_of l.ops)
