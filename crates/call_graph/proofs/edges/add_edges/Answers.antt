use Rattle.std.proofs.Common.{List, [], ◌∷◌, map}
use Rattle.seq_tree.proofs.Shared.LoopSteps.{added_step}
use Rattle.seq_cost.specs.Different.{call_of}
use Rattle.seq_cost.specs.declared.written.Call.{Call}
use Rattle.call_graph.specs.Edges.{edges_to}
use Rattle.call_graph.proofs.EdgeSteps.{placed_one}
use Rattle.call_graph.proofs.edges.add_edges.Goals as goal

pub calls-preserved : goal.calls-preserved
calls-preserved g c =
    let target = g.P.CallPlaces.places c.args.places.now in
    added_step (λ (os : List Call). edges_to target c.in-Some.from (map call_of os)) (edges_to target c.in-Some.from (call_of c.op-item.result ∷ []))
    c.args.calls.now c.calls.op-index c.op-item.result c.calls.edges.items _ _
    (λ ys. placed_one (λ t. (c.in-Some.from, t)) target (call_of c.op-item.result) (map call_of ys))
    c.calls-test.true c.op-item.is c.in_ok-add_edge.ensures c.calls.invariant
