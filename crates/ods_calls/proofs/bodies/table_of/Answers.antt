use Rattle.std.proofs.Common.{◌≤◌, List, length, filter, map, flat_map, rules, refl}
use Rattle.seq_tree.proofs.Shared.LoopSteps.{added_step, flat_filter_first}
use Rattle.ods_index.specs.Calling.{calls_of}
use Rattle.ods_index.specs.declared.calls.OpCalls.{OpCalls}
use Rattle.ods_calls.specs.Held.{is_held}
use Rattle.ods_calls.specs.Requested.{bodies_at, held_named}
use Rattle.ods_calls.proofs.LoopEnds.{added_all}
use Rattle.ods_calls.proofs.bodies.table_of.Goals as goal

pub calls-preserved : goal.calls-preserved
calls-preserved c = λ n.
    let body = c.body-item.result in
    added_step (λ (bs : List OpCalls). flat_map (held_named n) (filter is_held (map calls_of bs))) _
    c.args.calls.now c.calls.body-index body (bodies_at c.calls.table n) _ _
    (λ ys. flat_filter_first (held_named n) is_held (calls_of body) (map calls_of ys))
    c.calls-test.true c.body-item.is (c.in_ok-add_body.ensures n) (c.calls.invariant n)

pub returns : goal.returns
returns c =
    let ended : length c.args.calls.now ≤ c.calls.body-index = search rules in
    λ n. added_all (λ (bs : List OpCalls). flat_map (held_named n) (filter is_held (map calls_of bs))) c.args.calls.now c.calls.body-index
    (bodies_at c.calls.table n) _ ended refl (c.calls.invariant n)
