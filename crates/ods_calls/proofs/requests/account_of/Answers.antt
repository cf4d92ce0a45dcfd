use Rattle.std.proofs.Common.{◌≡◌, ℕ, ◌+◌, Some, ◌∷◌, List, map, drop, ap, sym, ◌∙◌}
use Rattle.std.specs.Prelude.{if◌then◌else◌}
use Rattle.std.specs.List.{list_any}
use Rattle.seq_tree.specs.Calls.{same_op}
use Rattle.seq_tree.specs.declared.tree.OpName.{OpName}
use Rattle.name_sets.specs.Tables.{at}
use Rattle.seq_cost.specs.Different.{call_of}
use Rattle.seq_cost.specs.declared.written.Call.{Call}
use Rattle.seq_tree.proofs.Shared.LoopSteps.{drop_step}
use Rattle.ods_tree.specs.Trees.{design_of}
use Rattle.ods_calls.specs.Requested.{call_weight, known_in}
use Rattle.ods_index.proofs.Shared.AccountSteps.{account-step}
use Rattle.ods_calls.proofs.requests.account_of.Goals as goal

pub calls-preserved : goal.calls-preserved
calls-preserved c = λ n.
    let v : OpName → ℕ = call_weight (design_of c.args.links.now.design.now) c.args.target.now (known_in c.args.known.now) c.args.needs.now.ops.now in
    let calls = c.args.calls.now in
    let left = list_any (λ o. same_op o n) (map call_of (drop (c.calls.call-index + 1) calls)) in
    let step : drop c.calls.call-index calls ≡ c.call-item.result
    ∷ drop (c.calls.call-index + 1) calls = drop_step calls c.calls.call-index c.call-item.result c.calls-test.true c.call-item.is in
    account-step v (call_of c.call-item.result) n left (at c.put.new.self n) (at c.calls.account n)
    (c.in_ok-put.ensures.put n ∙ ap (λ k. if same_op (call_of c.call-item.result) n then Some k else at c.calls.account n) c.weight_of-count.ensures)
    ∙ ap (λ (cs : List Call). if list_any (λ o. same_op o n) (map call_of cs) then Some (v n) else at c.calls.account n) (sym step)
    ∙ c.calls.invariant n
