use Rattle.std.proofs.Common.{◌≡◌, ℕ, List, length, map, ap, sym, subst, ◌∙◌, arith}
use Rattle.std.proofs.lemmas.List.{length-map}
use Rattle.seq_tree.specs.declared.tree.OpName.{OpName}
use Rattle.name_sets.specs.FirstPlaces.{op_place_from}
use Rattle.name_sets.specs.Tables.{at}
use Rattle.ods_tree.specs.Designs.{Design}
use Rattle.ods_tree.specs.Trees.{design_of}
use Rattle.ods_tree.specs.declared.design.Design as code
use Rattle.design_rules.specs.Rules.{Clash, Fitting, Rule}
use Rattle.call_graph.specs.Entries.{Entry, entry_at}
use Rattle.call_graph.specs.Prices.{prices}
use Rattle.call_graph.specs.declared.services.Served.{Served}
use Rattle.ods_index.specs.Judging.{Passes}
use Rattle.ods_calls.specs.Costed.{meant_place, services_in}
use Rattle.ods_calls.proofs.PriceLaws.{prices-are}
use Rattle.ods_calls.proofs.ServedLaws.{all-alike}
use Rattle.ods_calls.proofs.costs.Priced.new.Goals as goal

pub invariant_of-result : goal.invariant_of-result
invariant_of-result c =
    let x = design_of c.args.index.now.links.design.now in
    let place = at c.in_ok-places.places in
    let ss = c.in_ok-services.services.items in
    let linked : design_of c.args.index.now.design.now ≡ x = ap design_of (sym c.requires.indexed.linked) in
    let all : map entry_at ss ≡ services_in x = c.in_ok-services.ensures ∙ ap services_in linked in
    let Fine : Rule → Design → Type 0 = λ r z. Passes z r in
    let clash : Passes x Clash = subst (Fine Clash) linked (c.requires.before Clash (omega arith)) in
    let fitting : Passes x Fitting = subst (Fine Fitting) linked (c.requires.before Fitting (omega arith)) in
    let placed : (n : OpName) → place n ≡ op_place_from 0 (map (λ e. e.name) (services_in x)) n =
    λ n. c.in_ok-places.ensures n ∙ ap (λ (vs : List Served). op_place_from 0 (map (λ e. e.name) (map entry_at vs)) n) c.as_slice.ensures.value
    ∙ ap (λ (es : List Entry). op_place_from 0 (map (λ e. e.name) es) n) all in
    let made : List Entry → List ℕ = λ es. prices (length es) x.costs (meant_place x place) es in
    record {
      agrees =
          prices-are x (services_in x) (all-alike x clash fitting) place placed c.in_ok-priced.priced.prices.items
          (c.in_ok-priced.ensures.prices
          ∙ ap (λ (vs : List Served). prices (length vs) x.costs (meant_place x place) (map entry_at vs)) c.as_slice-2.ensures.value
          ∙ ap (λ n. prices n x.costs (meant_place x place) (map entry_at ss)) (sym (length-map ss entry_at)) ∙ ap made all);
    }
