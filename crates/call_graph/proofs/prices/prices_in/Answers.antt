use Rattle.std.proofs.Common.{◌≡◌, length, map, arith, ap, subst, sym, ◌∙◌}
use Rattle.std.proofs.lemmas.List.{length-map}
use Rattle.std.proofs.lemmas.Option.{IfSome_then}
use Rattle.call_graph.specs.Entries.{entry_at}
use Rattle.call_graph.specs.Prices.{prices}
use Rattle.call_graph.specs.Settled.{HasPlaces}
use Rattle.call_graph.proofs.SettledPrices.{prices-whole}
use Rattle.call_graph.proofs.prices.prices_in.Goals as goal

pub places-preserved : goal.places-preserved
places-preserved g c = (
  c.settle.ensures.more c.places.place-index c.places.invariant.0,
  c.settle.ensures.long (length c.args.services.now) c.places.invariant.1,
  omega (arith, c.places-test.true),
)

pub returns : goal.returns
returns g c =
    let s = c.places.settled in
    let costs = c.args.costs.now in
    let place = g.P.CallPlaces.places c.args.places.now in
    let es = map entry_at c.args.services.now in
    let many : length c.args.services.now ≡ length es = sym (length-map c.args.services.now entry_at) in
    let places : HasPlaces (length es) s = subst (λ n. HasPlaces n s) many c.places.invariant.1 in
    IfSome_then c.whole.result c.whole.ensures
    (λ v is. is.0 ∙ prices-whole costs place es c.places.place-index s (omega (arith, c.places.invariant.2, c.requires.few, many)) places is.1
    c.places.invariant.0 ∙ ap (λ n. prices n costs place es) (sym many))
