use Rattle.std.proofs.Common.{List, filter, map}
use Rattle.std.specs.List.{list_any}
use Rattle.seq_tree.specs.Calls.{same_op}
use Rattle.seq_cost.specs.Different.{call_of}
use Rattle.seq_cost.specs.declared.written.Call.{Call}
use Rattle.ods_tree.specs.Links.{resolve}
use Rattle.ods_tree.specs.Trees.{design_of}
use Rattle.seq_tree.proofs.Shared.LoopSteps.{added_step, map_filter_first}
use Rattle.ods_calls.specs.Keys.{key}
use Rattle.ods_calls.proofs.keys.add_keys.Goals as goal

pub calls-preserved : goal.calls-preserved
calls-preserved c =
    let t = c.args.targets.now in
    let x = design_of c.args.links.now.design.now in
    let needs = c.args.needs.now.ops.now in
    added_step (λ (cs : List Call). map (λ o. key t (resolve x o)) (filter (λ o. list_any (same_op o) needs) (map call_of cs))) _
    c.args.calls.now c.calls.call-index c.call-item.result (map call_of c.calls.into.items) _ _
    (λ ys. map_filter_first (λ o. key t (resolve x o)) (λ o. list_any (same_op o) needs) (call_of c.call-item.result) (map call_of ys))
    c.calls-test.true c.call-item.is c.in_ok-add_key.ensures c.calls.invariant
