use Rattle.std.proofs.Common.{List, filter, map}
use Rattle.ods_tree.specs.Trees.{design_of}
use Rattle.seq_tree.proofs.Shared.LoopSteps.{added_step, map_filter_first}
use Rattle.call_graph.specs.Once.{caller_of}
use Rattle.ods_calls.specs.Held.{is_held}
use Rattle.ods_calls.specs.Keys.{held_caller}
use Rattle.ods_index.specs.Calling.{calls_of}
use Rattle.ods_index.specs.declared.calls.OpCalls.{OpCalls}
use Rattle.ods_calls.proofs.keys.add_callers.Goals as goal

pub calls-preserved : goal.calls-preserved
calls-preserved c =
    let b = c.body-item.result in
    let caller = held_caller c.args.targets.now (design_of c.args.links.now.design.now) in
    added_step (λ (bs : List OpCalls). map caller (filter is_held (map calls_of bs))) _
    c.args.calls.now c.calls.body-index b (map caller_of c.calls.into.items) _ _
    (λ ys. map_filter_first caller is_held (calls_of b) (map calls_of ys))
    c.calls-test.true c.body-item.is c.in_ok-add_body.ensures c.calls.invariant
