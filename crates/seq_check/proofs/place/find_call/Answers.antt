use Rattle.std.proofs.Common.{rules, tests, ◌&&◌, sym, ap, ◌∙◌}
use Rattle.std.proofs.lemmas.Iterator.{YieldsList-from_slice}
use Rattle.std.proofs.lemmas.Iterator.Search.{find_from_yields_List}
use Rattle.std.specs.Prelude.{option_map}
use Rattle.seq_tree.specs.Names.{same_name}
use Rattle.seq_tree.specs.Operations.{Offer}
use Rattle.seq_tree.specs.Trees.{offer_of}
use Rattle.seq_check.proofs.PlaceLaws.{find-map, map-map}
use Rattle.seq_check.proofs.place.find_call.Goals as goal

pub returns : goal.returns
returns c =
    let calls = c.args.calls.now in
    let test = λ (o : Offer). same_name o.object c.args.object.now && same_name o.sig.name c.args.op.now in
    let chain = find_from_yields_List (λ o. test (offer_of o)) _ _ c.find.result c.find.ensures.ran (YieldsList-from_slice calls cc)
    (λ x b q k. search (rules, tests)) in
    map-map offer_of (λ r. r.now) c.find.result ∙ ap (option_map offer_of) chain ∙ sym (find-map offer_of test calls)
