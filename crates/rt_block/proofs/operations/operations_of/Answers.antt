use Rattle.std.proofs.Common.{◌≡◌, length, map, ap, sym, ◌∙◌, arith}
use Rattle.std.proofs.lemmas.List.{length-map}
use Rattle.name_sets.specs.Tables.{at}
use Rattle.ods_tree.specs.Trees.{flat_of, thread_of}
use Rattle.call_graph.specs.Entries.{entries, entry_at}
use Rattle.name_sets.specs.FirstPlaces.{op_place_from}
use Rattle.call_graph.specs.Prices.{prices}
use Rattle.rt_block.specs.Called.{called_places, inner_places}
use Rattle.rt_block.specs.Longest.{section_prices}
use Rattle.rt_block.specs.declared.calls.Scope.TheVariants.{Live, Written}
use Rattle.rt_block.proofs.operations.operations_of.Goals as goal

pub section_prices-requires : goal.section_prices-requires
section_prices-requires c =
    ap length c.as_slice-4.ensures.value ∙ c.in_ok-priced.ensures.long ∙ ap length c.as_slice-2.ensures.value
    ∙ sym (ap length c.as_slice-3.ensures.value)

pub returns-clause-served : goal.returns-clause-served
returns-clause-served c = c.in_ok-services.ensures

pub returns-clause-known : goal.returns-clause-known
returns-clause-known c =
    let f = flat_of c.args.flat.now in
    let es = entries f in
    let ss = c.in_ok-services.services.items in
    let place = at c.in_ok-places.places in
    let served : map entry_at ss ≡ es = c.in_ok-services.ensures in
    let many : length ss ≡ length es = sym (length-map ss entry_at) ∙ ap length served in
    record {
      counted = many;
      placed =
          λ n. c.in_ok-places.ensures n ∙ ap (λ xs. op_place_from 0 (map (λ e. e.name) (map entry_at xs)) n) c.as_slice.ensures.value
          ∙ ap (λ xs. op_place_from 0 (map (λ e. e.name) xs) n) served;
      priced =
          c.in_ok-priced.ensures.prices ∙ ap (λ xs. prices (length xs) f.costs place (map entry_at xs)) c.as_slice-2.ensures.value
          ∙ ap (λ n. prices n f.costs place (map entry_at ss)) many ∙ ap (λ xs. prices (length es) f.costs place xs) served;
      sectioned =
          c.in_ok-sections.ensures.same ∙ ap (λ xs. section_prices (map entry_at xs) c.as_slice-4.result.now) c.as_slice-3.ensures.value
          ∙ ap (λ xs. section_prices xs c.as_slice-4.result.now) served ∙ ap (section_prices es) c.as_slice-4.ensures.value;
      sections_long = c.in_ok-sections.ensures.long ∙ ap length c.as_slice-3.ensures.value;
      live_inner =
          c.in_ok-live_inner.ensures.same ∙ ap (λ xs. map (λ e. inner_places place Live e.work) (map entry_at xs)) c.as_slice-5.ensures.value
          ∙ ap (map (λ e. inner_places place Live e.work)) served;
      live = c.in_ok-live.ensures.same ∙ ap (λ xs. map (λ t. called_places place Live t.block) (map thread_of xs)) c.as_slice-6.ensures.value;
      written_inner =
          c.in_ok-written_inner.ensures.same
          ∙ ap (λ xs. map (λ e. inner_places place Written e.work) (map entry_at xs)) c.as_slice-7.ensures.value
          ∙ ap (map (λ e. inner_places place Written e.work)) served;
      written =
          c.in_ok-written.ensures.same ∙ ap (λ xs. map (λ t. called_places place Written t.block) (map thread_of xs)) c.as_slice-8.ensures.value;
      ordered = omega (arith, c.in_ok-priced.ensures.order, ap (λ xs. length xs) c.as_slice-2.ensures.value);
      prices_long = c.in_ok-priced.ensures.long ∙ ap length c.as_slice-2.ensures.value;
      live_inner_long = c.in_ok-live_inner.ensures.long ∙ ap length c.as_slice-5.ensures.value;
      written_inner_long = c.in_ok-written_inner.ensures.long ∙ ap length c.as_slice-7.ensures.value;
      live_long =
          c.in_ok-live.ensures.long ∙ ap length c.as_slice-6.ensures.value ∙ sym (length-map c.args.flat.now.threads.items thread_of);
      written_long = c.in_ok-written.ensures.long ∙ ap length c.as_slice-8.ensures.value;
    }
