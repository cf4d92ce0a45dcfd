use Rattle.std.proofs.Common.{◌≤◌, length, map}
use Rattle.call_graph.specs.Entries.{entry_at}
use Rattle.call_graph.specs.Prices.{prices}
use Rattle.call_graph.specs.Settled.{AgreesFrom, HasPlaces}
use Rattle.call_graph.proofs.prices.prices_in.Given as goal

-- the numbers so far are those of calls that are followed as deep as there were turns
abbrev pub invariant-places : goal.invariant-places
invariant-places g l =
    AgreesFrom l.place-index (λ d. prices d l.costs (g.P.CallPlaces.places l.places) (map entry_at l.services)) l.settled
    × HasPlaces (length l.services) l.settled × (l.place-index ≤ length l.order)
