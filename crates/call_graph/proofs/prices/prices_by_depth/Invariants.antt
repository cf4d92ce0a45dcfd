use Rattle.std.proofs.Common.{◌≡◌, map}
use Rattle.call_graph.specs.Entries.{entry_at}
use Rattle.call_graph.specs.Prices.{prices}
use Rattle.call_graph.proofs.prices.prices_by_depth.Given as goal

-- calls are followed as deep as there were turns
abbrev pub invariant-depths : goal.invariant-depths
invariant-depths g l = l.known.items ≡ prices l.counter l.costs (g.P.CallPlaces.places l.places) (map entry_at l.services)
