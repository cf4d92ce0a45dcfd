use Rattle.std.proofs.Common.{map, length, ◌∙◌, sym, ◌≤◌, arith}
use Rattle.call_graph.specs.Entries.{entry_at}
use Rattle.call_graph.proofs.SettledPrices.{prices-settled}
use Rattle.call_graph.proofs.prices.prices_by_depth.Goals as goal

pub returns-then-same : goal.returns-then-same
returns-then-same g c =
    let deep : c.depths.counter ≤ length c.args.services.now = omega (arith, c.depths-test.true) in
    prices-settled c.args.costs.now (g.P.CallPlaces.places c.args.places.now) (map entry_at c.args.services.now)
    (length c.args.services.now) c.depths.counter c.depths.known.items c.in_ok-next.next.items deep c.depths.invariant
    (rw c.as_slice.ensures.value at c.in_ok-next.ensures)
    (sym c.as_slice-in-depths.ensures.value ∙ c.same.ensures.0 c.if-same.true ∙ c.as_slice-in-depths-2.ensures.value)
