use Rattle.std.proofs.Common.{◌≡◌, ◌++◌, map, drop}
use Rattle.seq_cost.specs.Different.{call_of}
use Rattle.call_graph.specs.Edges.{edges_to}
use Rattle.call_graph.proofs.edges.add_edges.Given as goal

-- the edges so far, and those of the calls that are left
abbrev pub invariant-calls : goal.invariant-calls
invariant-calls g l =
    l.edges.items ++ edges_to (g.P.CallPlaces.places l.places) l.from (map call_of (drop l.op-index l.calls))
    ≡ l.initial.edges.items ++ edges_to (g.P.CallPlaces.places l.places) l.from (map call_of l.calls)
