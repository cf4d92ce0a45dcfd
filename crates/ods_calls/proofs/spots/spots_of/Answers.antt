use Rattle.std.proofs.Common.{List, filter, map}
use Rattle.seq_tree.proofs.Shared.LoopSteps.{added_step, map_filter_first}
use Rattle.ods_index.specs.Calling.{Calls, calls_of}
use Rattle.ods_index.specs.declared.calls.OpCalls.{OpCalls}
use Rattle.ods_calls.specs.Held.{is_held}
use Rattle.ods_calls.specs.Spotted.{spot_of}
use Rattle.ods_calls.specs.Starting.{Op}
use Rattle.ods_calls.proofs.spots.spots_of.Goals as goal

pub calls-preserved : goal.calls-preserved
calls-preserved c =
    let name = λ (h : Calls). Op h.name in
    added_step (λ (bs : List OpCalls). map name (filter is_held (map calls_of bs))) _ c.args.calls.now c.calls.body-index c.body-item.result
    (map spot_of c.calls.spots.items) _ _ (λ ys. map_filter_first name is_held (calls_of c.body-item.result) (map calls_of ys))
    c.calls-test.true c.body-item.is c.in_ok-add_op.ensures c.calls.invariant
