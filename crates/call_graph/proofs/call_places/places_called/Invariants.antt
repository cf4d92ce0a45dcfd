use Rattle.std.proofs.Common.{◌≡◌, ◌++◌, map, drop, filter_map}
use Rattle.seq_cost.specs.Different.{call_of}
use Rattle.call_graph.proofs.call_places.places_called.Given as goal

-- the places so far, and those of the calls that are left
abbrev pub invariant-calls : goal.invariant-calls
invariant-calls g l =
    l.found.items ++ filter_map (g.P.CallPlaces.places l.places) (map call_of (drop l.call-index l.calls))
    ≡ filter_map (g.P.CallPlaces.places l.places) (map call_of l.calls)
