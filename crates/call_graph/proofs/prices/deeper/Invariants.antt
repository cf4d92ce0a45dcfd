use Rattle.std.proofs.Common.{◌≡◌, map, take}
use Rattle.call_graph.specs.Entries.{entry_at}
use Rattle.call_graph.specs.Places.{known_by}
use Rattle.call_graph.specs.Prices.{deeper_prices}
use Rattle.call_graph.proofs.prices.deeper.Given as goal

-- the counts so far are those of the operations so far
abbrev pub invariant-services : goal.invariant-services
invariant-services g l =
    l.next.items ≡ deeper_prices l.costs (known_by (g.P.CallPlaces.places l.places) l.known) (map entry_at (take l.served-index l.services))
