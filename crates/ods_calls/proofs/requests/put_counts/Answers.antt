use Rattle.std.proofs.Common.{◌≡◌, ◌+◌, ◌∷◌, Some, List, map, drop, ap, sym, ◌∙◌}
use Rattle.std.specs.Prelude.{if◌then◌else◌}
use Rattle.std.specs.List.{list_any}
use Rattle.seq_tree.specs.Calls.{same_op}
use Rattle.seq_tree.proofs.Shared.LoopSteps.{drop_step}
use Rattle.name_sets.specs.Tables.{at, or_0}
use Rattle.ods_calls.specs.Requested.{known_in}
use Rattle.ods_calls.proofs.RequestLaws.{count-put, or-zero}
use Rattle.ods_calls.proofs.requests.put_counts.Goals as goal
use Rattle.seq_cost.specs.Different.{call_of}
use Rattle.seq_cost.specs.declared.written.Call.{Call}

pub ops-preserved : goal.ops-preserved
ops-preserved c = λ n.
    let ops = c.args.ops.now in
    let left = list_any (λ o. same_op o n) (map call_of (drop (c.ops.op-index + 1) ops)) in
    let step : drop c.ops.op-index ops ≡ c.op-item.result
    ∷ drop (c.ops.op-index + 1) ops = drop_step ops c.ops.op-index c.op-item.result c.ops-test.true c.op-item.is in
    count-put (known_in c.args.counts.now) (call_of c.op-item.result) n left (at c.put.new.self n) (at c.ops.known n)
    (c.in_ok-put.ensures.put n ∙ ap (λ k. if same_op (call_of c.op-item.result) n then Some k else at c.ops.known n)
    (c.unwrap_or-count.ensures ∙ or-zero c.get.result ∙ ap or_0 c.get.ensures))
    ∙ ap (λ (os : List Call). if list_any (λ o. same_op o n) (map call_of os) then known_in c.args.counts.now n else known_in c.ops.known n)
    (sym step) ∙ c.ops.invariant n
