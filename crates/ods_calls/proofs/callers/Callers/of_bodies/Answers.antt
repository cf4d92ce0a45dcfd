use Rattle.std.proofs.Common.{◌≤◌, List, length, filter, map, flat_map, rules, refl}
use Rattle.seq_tree.proofs.Shared.LoopSteps.{added_step, flat_filter_first}
use Rattle.ods_index.specs.Calling.{calls_of}
use Rattle.ods_index.specs.declared.calls.OpCalls.{OpCalls}
use Rattle.ods_calls.specs.Held.{is_held}
use Rattle.ods_calls.specs.Requested.{object_callers, op_callers}
use Rattle.ods_calls.specs.Requesters.{by_object, by_op}
use Rattle.ods_calls.proofs.LoopEnds.{added_all}
use Rattle.ods_calls.proofs.callers.Callers.of_bodies.Goals as goal

pub calls-preserved : goal.calls-preserved
calls-preserved c =
    let body = c.body-item.result in (
      λ n. added_step (λ (bs : List OpCalls). flat_map (op_callers n) (filter is_held (map calls_of bs))) _
          c.args.calls.now c.calls.body-index body (by_op c.calls.callers.ops n) _ _
          (λ ys. flat_filter_first (op_callers n) is_held (calls_of body) (map calls_of ys))
          c.calls-test.true c.body-item.is (c.in_ok-add_body.ensures.ops n) (c.calls.invariant.0 n),
      λ n. added_step (λ (bs : List OpCalls). flat_map (object_callers n) (filter is_held (map calls_of bs))) _
          c.args.calls.now c.calls.body-index body (by_object c.calls.callers.objects n) _ _
          (λ ys. flat_filter_first (object_callers n) is_held (calls_of body) (map calls_of ys))
          c.calls-test.true c.body-item.is (c.in_ok-add_body.ensures.objects n) (c.calls.invariant.1 n),
    )

pub returns-clause-ops : goal.returns-clause-ops
returns-clause-ops c =
    let ended : length c.args.calls.now ≤ c.calls.body-index = search rules in
    λ n. added_all (λ (bs : List OpCalls). flat_map (op_callers n) (filter is_held (map calls_of bs))) c.args.calls.now c.calls.body-index
    (by_op c.calls.callers.ops n) _ ended refl (c.calls.invariant.0 n)

pub returns-clause-objects : goal.returns-clause-objects
returns-clause-objects c =
    let ended : length c.args.calls.now ≤ c.calls.body-index = search rules in
    λ n. added_all (λ (bs : List OpCalls). flat_map (object_callers n) (filter is_held (map calls_of bs))) c.args.calls.now c.calls.body-index
    (by_object c.calls.callers.objects n) _ ended refl (c.calls.invariant.1 n)
