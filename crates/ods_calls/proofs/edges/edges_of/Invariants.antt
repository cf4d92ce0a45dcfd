use Rattle.std.proofs.Common.{◌≡◌, ◌++◌, flat_map, map, drop}
use Rattle.ods_index.specs.Calling.{calls_of}
use Rattle.ods_calls.specs.Graphed.{body_edges}
use Rattle.ods_calls.proofs.edges.edges_of.Given as goal

-- the edges so far, and those of the bodies that are left
abbrev pub invariant-bodies : goal.invariant-bodies
invariant-bodies g l =
    l.edges.items
    ++ flat_map (body_edges (g.P.BodyPlaces.sources l.places) (g.P.CallPlaces.places l.places)) (map calls_of (drop l.calls-index l.bodies))
    ≡ flat_map (body_edges (g.P.BodyPlaces.sources l.places) (g.P.CallPlaces.places l.places)) (map calls_of l.bodies)
