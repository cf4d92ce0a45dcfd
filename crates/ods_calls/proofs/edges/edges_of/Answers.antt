use Rattle.std.proofs.Common.{List, ◌++◌, ap, flat_map, map, refl, ◌∙◌}
use Rattle.seq_tree.proofs.Shared.LoopSteps.{added_step}
use Rattle.call_graph.specs.Edges.{edges_from}
use Rattle.seq_cost.specs.Different.{call_of}
use Rattle.ods_index.specs.Calling.{calls_of}
use Rattle.ods_index.specs.declared.calls.OpCalls.{OpCalls}
use Rattle.ods_calls.specs.Graphed.{body_edges}
use Rattle.ods_calls.proofs.edges.edges_of.Goals as goal

pub bodies-preserved : goal.bodies-preserved
bodies-preserved g c =
    let target = g.P.CallPlaces.places c.args.places.now in
    let edges = body_edges (g.P.BodyPlaces.sources c.args.places.now) target in
    added_step (λ (bs : List OpCalls). flat_map edges (map calls_of bs)) (edges (calls_of c.calls-item.result))
    c.args.bodies.now c.bodies.calls-index c.calls-item.result c.bodies.edges.items _ _
    (λ ys. refl) c.bodies-test.true c.calls-item.is
    (c.in_ok-add_edges.ensures
    ∙ ap (λ cs. c.bodies.edges.items ++ edges_from target c.source-from.result (map call_of cs)) c.as_slice.ensures.value
    ∙ ap (λ o. c.bodies.edges.items ++ edges_from target o (calls_of c.calls-item.result).meant) c.source-from.ensures)
    c.bodies.invariant
