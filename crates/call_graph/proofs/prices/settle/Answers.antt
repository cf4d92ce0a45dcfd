use Rattle.std.proofs.Common.{◌≡◌, ◌<◌, ℕ, true, List, [], length, map, get_or, ap, sym, subst, ◌∙◌, arith}
use Rattle.std.specs.List.{list_all}
use Rattle.std.proofs.lemmas.List.{length-map}
use Rattle.call_graph.specs.Places.{work_places}
use Rattle.call_graph.specs.Entries.{entry_at}
use Rattle.call_graph.specs.Places.{known_by}
use Rattle.call_graph.specs.Prices.{price}
use Rattle.call_graph.specs.Settled.{IsPut, is_done}
use Rattle.call_graph.proofs.SettledPrices.{prices-put}
use Rattle.call_graph.proofs.Shared.SettledLaws.{mapped-at}
use Rattle.call_graph.proofs.prices.settle.Goals as goal

pub returns-then-has_all-clause-more : goal.returns-then-has_all-clause-more
returns-then-has_all-clause-more g c =
    let s = c.args.settled.now in
    let p = c.args.place in
    let place = g.P.CallPlaces.places c.args.places.now in
    let ss = c.args.services.now in
    let es = map entry_at ss in
    let e = entry_at c.in-Some.served.now in
    let found = c.in-Some.ensures.lookup.3 in
    let many = length-map ss entry_at in
    let less : p < length es = omega (arith, found.0, many) in
    let here : get_or es p e ≡ e = mapped-at entry_at ss p c.in-Some.served.now e found.0 (found.1 c.in-Some.served.now) in
    let long : length c.args.calls.now ≡ length es =
    sym (length-map c.args.calls.now (λ l. l.items)) ∙ ap (λ (xs : List (List ℕ)). length xs) c.requires
    ∙ length-map es (λ x. work_places place x.work) in
    let called : c.index-calls-place.result.items ≡ work_places place e.work =
    sym (mapped-at (λ l. l.items) c.args.calls.now p c.index-calls-place.result [] (omega (arith, less, long)) c.index-calls-place.is)
    ∙ ap (λ xs. get_or xs p []) c.requires ∙ mapped-at (λ x. work_places place x.work) es p e [] less (sym here) in
    let all : list_all (is_done s) (work_places place e.work) ≡ true =
    ap (list_all (is_done s)) (sym (c.as_slice.ensures.value ∙ called)) ∙ sym c.has_all.ensures ∙ c.if-has_all.true in
    let number : c.price_of-price.result ≡ price c.args.costs.now (known_by place s.numbers.items) e.work =
    c.price_of-price.ensures ∙ ap (λ ns. price c.args.costs.now (known_by place ns) e.work) c.as_slice-then-has_all.ensures.value in
    prices-put c.args.costs.now place es p e s c.put.new.self less (sym here) all
    (subst (λ n. IsPut s p n c.put.new.self) number c.put.ensures.put)
