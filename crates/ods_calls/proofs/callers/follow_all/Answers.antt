use Rattle.std.proofs.Common.{◌≡◌, ◌∷◌, ◌+◌, List, flat_map, map, drop, ap, sym, ◌∙◌}
use Rattle.seq_tree.proofs.Shared.LoopSteps.{drop_step}
use Rattle.ods_calls.specs.Requesters.{by_op}
use Rattle.ods_calls.specs.Spreading.{found_all}
use Rattle.ods_calls.proofs.FoundLaws.{found-append}
use Rattle.ods_calls.proofs.callers.follow_all.Goals as goal
use Rattle.seq_cost.specs.Different.{call_of}
use Rattle.seq_cost.specs.declared.written.Call.{Call}

pub ops-preserved : goal.ops-preserved
ops-preserved c =
    let next = by_op c.args.callers.now in
    let all = map call_of c.ops.found.items in
    let later = flat_map next (map call_of (drop (c.ops.op-index + 1) c.args.ops.now)) in
    let step : drop c.ops.op-index c.args.ops.now ≡ c.op-item.result
    ∷ drop (c.ops.op-index + 1) c.args.ops.now = drop_step c.args.ops.now c.ops.op-index c.op-item.result c.ops-test.true c.op-item.is in (
      c.in_ok-follow.ensures.seen,
      ap (λ z. found_all z later) c.in_ok-follow.ensures.found ∙ sym (found-append (next (call_of c.op-item.result)) later all)
          ∙ ap (λ (ops : List Call). found_all all (flat_map next (map call_of ops))) (sym step) ∙ c.ops.invariant.1,
    )
