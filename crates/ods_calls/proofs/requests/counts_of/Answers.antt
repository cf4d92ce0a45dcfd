use Rattle.std.proofs.Common.{◌≡◌, ℕ, ◌+◌, Some, ◌∷◌, List, map, drop, min, ap, sym, ◌∙◌}
use Rattle.std.specs.Prelude.{if◌then◌else◌}
use Rattle.std.specs.List.{list_any}
use Rattle.seq_tree.specs.Calls.{same_op}
use Rattle.seq_tree.specs.declared.tree.OpName.{OpName}
use Rattle.seq_tree.proofs.Shared.LoopSteps.{drop_step}
use Rattle.name_sets.specs.Tables.{at}
use Rattle.ods_tree.specs.Trees.{design_of}
use Rattle.ods_calls.specs.Requested.{bodies_at, greatest_count}
use Rattle.ods_index.proofs.Shared.AccountSteps.{account-step}
use Rattle.ods_calls.proofs.requests.counts_of.Goals as goal
use Rattle.seq_cost.specs.Different.{call_of}
use Rattle.seq_cost.specs.declared.written.Call.{Call}

pub ops-preserved : goal.ops-preserved
ops-preserved c = λ inner knows n.
    let v : OpName → ℕ = λ o. min 2
    (greatest_count (design_of c.args.links.now.design.now) c.args.target.now inner (bodies_at c.args.bodies.now o)) in
    let ops = c.args.ops.now in
    let left = list_any (λ o. same_op o n) (map call_of (drop (c.ops.op-index + 1) ops)) in
    let step : drop c.ops.op-index ops ≡ c.op-item.result
    ∷ drop (c.ops.op-index + 1) ops = drop_step ops c.ops.op-index c.op-item.result c.ops-test.true c.op-item.is in
    account-step v (call_of c.op-item.result) n left (at c.put.new.self n) (at c.ops.counts n)
    (c.in_ok-put.ensures.put n ∙ ap (λ k. if same_op (call_of c.op-item.result) n then Some k else at c.ops.counts n) (c.in_ok-count.ensures inner knows))
    ∙ ap (λ (os : List Call). if list_any (λ o. same_op o n) (map call_of os) then Some (v n) else at c.ops.counts n) (sym step)
    ∙ c.ops.invariant inner knows n
