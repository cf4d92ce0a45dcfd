use Rattle.std.proofs.Common.{List, ◌++◌, map, refl, ap, ◌∙◌}
use Rattle.seq_tree.proofs.Shared.LoopSteps.{added_step}
use Rattle.call_graph.specs.Edges.{edges_from}
use Rattle.seq_cost.specs.Different.{call_of}
use Rattle.ada_rules.specs.Callers.{caller_edges, caller_of}
use Rattle.ada_rules.specs.declared.callers.OpCalls.{OpCalls}
use Rattle.ada_rules.proofs.callers.edges_of.Goals as goal

pub callers-preserved : goal.callers-preserved
callers-preserved g c =
    let target = g.P.CallPlaces.places c.args.places.now in
    let k = c.caller-item.result in
    added_step (λ (cs : List OpCalls). caller_edges target (map caller_of cs)) (edges_from target (target (call_of k.name)) (caller_of k).calls)
    c.args.callers.now c.callers.caller-index k c.callers.edges.items _ _
    (λ ys. refl) c.callers-test.true c.caller-item.is
    (c.in_ok-add_edges.ensures
    ∙ ap (λ cs. c.callers.edges.items ++ edges_from target c.place-from.result (map call_of cs)) c.as_slice.ensures.value
    ∙ ap (λ o. c.callers.edges.items ++ edges_from target o (caller_of k).calls) c.place-from.ensures)
    c.callers.invariant
