use Rattle.std.proofs.Common.{[], ◌∷◌, List, map}
use Rattle.std.specs.Prelude.{filter_map}
use Rattle.call_graph.specs.Entries.{entry_at}
use Rattle.ods_calls.specs.Costed.{body_entry}
use Rattle.ods_index.specs.Calling.{calls_of}
use Rattle.ods_index.specs.declared.calls.OpCalls.{OpCalls}
use Rattle.seq_tree.proofs.Shared.LoopSteps.{added_step, given_first}
use Rattle.ods_calls.proofs.services.add_bodies.Goals as goal

pub bodies-preserved : goal.bodies-preserved
bodies-preserved c =
    let body = c.calls-item.result in
    added_step (λ (bs : List OpCalls). filter_map (body_entry c.args.kind) (map calls_of bs))
    (filter_map (body_entry c.args.kind) (calls_of body ∷ []))
    c.args.bodies.now c.bodies.calls-index body (map entry_at c.bodies.into.items) _ _
    (λ ys. given_first (body_entry c.args.kind) (calls_of body) (map calls_of ys)) c.bodies-test.true c.calls-item.is c.in_ok-add_body.ensures
    c.bodies.invariant
