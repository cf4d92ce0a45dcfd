use Rattle.std.proofs.Common.{◌≡◌, ◌++◌, map, drop}
use Rattle.ada_rules.specs.Callers.{caller_edges, caller_of}
use Rattle.ada_rules.proofs.callers.edges_of.Given as goal

-- the edges so far, and those of the operations that are left
abbrev pub invariant-callers : goal.invariant-callers
invariant-callers g l =
    l.edges.items ++ caller_edges (g.P.CallPlaces.places l.places) (map caller_of (drop l.caller-index l.callers))
    ≡ caller_edges (g.P.CallPlaces.places l.places) (map caller_of l.callers)
