use Rattle.std.proofs.Common.{List, filter, map}
use Rattle.ods_calls.specs.Requested.{changes}
use Rattle.seq_tree.proofs.Shared.LoopSteps.{added_step, filter_first}
use Rattle.ods_calls.proofs.requests.changed_of.Goals as goal
use Rattle.seq_cost.specs.Different.{call_of}
use Rattle.seq_cost.specs.declared.written.Call.{Call}

pub ops-preserved : goal.ops-preserved
ops-preserved c =
    let test = changes c.args.known.now c.args.counts.now in
    added_step (λ (os : List Call). filter test (map call_of os)) _
    c.args.ops.now c.ops.op-index c.op-item.result (map call_of c.ops.changed.items) _ _
    (λ ys. filter_first test (call_of c.op-item.result) (map call_of ys)) c.ops-test.true c.op-item.is c.in_ok-add_changed.ensures c.ops.invariant
