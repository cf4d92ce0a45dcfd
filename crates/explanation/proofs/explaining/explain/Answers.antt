use Rattle.std.proofs.Common.{rules, ◌≡◌, ◌≤◌, length, map, option_map, ap, arith, sym, subst, ◌∙◌}
use Rattle.std.proofs.lemmas.List.{length-map}
use Rattle.seq_tree.specs.Lists.{Each}
use Rattle.ods_tree.specs.Flats.{Flat}
use Rattle.ods_tree.specs.Trees.{flat_of}
use Rattle.analysis.specs.Tables.{ThreadTable, table}
use Rattle.analysis.specs.Trees.{ranks_of, table_of}
use Rattle.law_designs.proofs.Shared.TableRanges.{sound-table}
use Rattle.rt_block.specs.Causes.{cause_of}
use Rattle.rt_block.specs.Designs.{design_of}
use Rattle.design_bounds.proofs.Shared.RankLaws.{small-ranked}
use Rattle.design_bounds.proofs.Shared.TablePlaces.{ranks-long}
use Rattle.late_response.specs.Utilisation.{IsPerMille, utilisation}
use Rattle.explanation.specs.Threads.{HasPeriod}
use Rattle.explanation.proofs.ExplainSteps.{chains-are, periods, reasons-are, table-is}
use Rattle.explanation.proofs.explaining.explain.Goals as goal

pub table-requires-clause-threads : goal.table-requires-clause-threads
table-requires-clause-threads c =
    ranks-long (flat_of c.args.flat.now) (ranks_of c.in_ok-order.order) c.in_ok-order.ensures
    ∙ ap (λ (f : Flat). length f.threads) (sym c.in_ok-facts.ensures)

pub causes_of-requires-clause-threads : goal.causes_of-requires-clause-threads
causes_of-requires-clause-threads c =
    ranks-long (flat_of c.args.flat.now) (ranks_of c.in_ok-order.order) c.in_ok-order.ensures
    ∙ ap (λ (f : Flat). length f.threads) (sym c.in_ok-facts.ensures)

pub overflow_cast-len : goal.overflow_cast-len
overflow_cast-len c =
    let f = flat_of c.args.flat.now in
    let long = ranks-long f (ranks_of c.in_ok-order.order) c.in_ok-order.ensures in
    omega (arith, long, c.requires.sound.formed.thread_count, c.len.ensures, c.in_ok-order.order.threads.ok.0)

pub downwards-requires-clause-count : goal.downwards-requires-clause-count
downwards-requires-clause-count c =
    let f = flat_of c.args.flat.now in
    let long = ranks-long f (ranks_of c.in_ok-order.order) c.in_ok-order.ensures in
    omega (arith, long, c.requires.sound.formed.thread_count, c.len.ensures, c.in_ok-order.order.threads.ok.0)

pub chains_of-requires : goal.chains_of-requires
chains_of-requires c =
    let f = flat_of c.args.flat.now in
    let same = table-is c.args.first f (design_of c.in_ok-facts.facts) (ranks_of c.in_ok-order.order) (table_of c.in_ok-table.table) c.in_ok-facts.ensures
    c.in_ok-order.ensures c.in_ok-table.ensures in
    rw (c.as_slice-4.ensures.value, ap (λ (t : ThreadTable). t.rows) same) ((sound-table f c.requires.sound).count)

pub ceilings-requires-clause-small : goal.ceilings-requires-clause-small
ceilings-requires-clause-small c = small-ranked (flat_of c.args.flat.now) (ranks_of c.in_ok-order.order) c.requires.sound c.in_ok-order.ensures

pub utilisation-requires : goal.utilisation-requires
utilisation-requires c =
    let f = flat_of c.args.flat.now in
    let same = table-is c.args.first f (design_of c.in_ok-facts.facts) (ranks_of c.in_ok-order.order) (table_of c.in_ok-table.table) c.in_ok-facts.ensures
    c.in_ok-order.ensures c.in_ok-table.ensures in
    rw (c.as_slice-5.ensures.value, ap (λ (t : ThreadTable). t.rows) same) (sound-table f c.requires.sound)

pub returns-clause-told : goal.returns-clause-told
returns-clause-told c =
    let f = flat_of c.args.flat.now in
    let g = design_of c.in_ok-facts.facts in
    let r = ranks_of c.in_ok-order.order in
    let t = table_of c.in_ok-table.table in
    record {
      found = c.in_ok-found.found.reaches.items;
      is_found = c.in_ok-found.ensures;
      threads = reasons-are c.args.first f g r t c.in_ok-facts.ensures c.in_ok-order.ensures c.in_ok-table.ensures c.in_ok-found.found.reaches.items
          (map (option_map cause_of) c.in_ok-causes.causes.items) c.len.result c.in_ok-priorities.priorities.items c.in_ok-threads.threads.items
          c.in_ok-causes.ensures (c.len.ensures ∙ c.in_ok-order.order.threads.ok.0) c.in_ok-priorities.ensures
          (rw (c.as_slice.ensures.value, c.as_slice-2.ensures.value, c.as_slice-3.ensures.value) at c.in_ok-threads.ensures);
      chains = chains-are c.args.first f g r t c.in_ok-facts.ensures c.in_ok-order.ensures c.in_ok-table.ensures _ _ c.as_slice-4.ensures.value
          c.in_ok-chains_of.ensures;
      ceilings = search rules;
      per_mille = subst (λ rows. IsPerMille (utilisation rows) c.utilisation.result)
          (c.as_slice-5.ensures.value ∙ ap (λ (t : ThreadTable). t.rows)
          (table-is c.args.first f g r t c.in_ok-facts.ensures c.in_ok-order.ensures c.in_ok-table.ensures)) c.utilisation.ensures;
    }

pub returns-clause-periods : goal.returns-clause-periods
returns-clause-periods c =
    let f = flat_of c.args.flat.now in
    let g = design_of c.in_ok-facts.facts in
    let r = ranks_of c.in_ok-order.order in
    let t = table_of c.in_ok-table.table in
    subst (Each HasPeriod)
    (sym (reasons-are c.args.first f g r t c.in_ok-facts.ensures c.in_ok-order.ensures c.in_ok-table.ensures c.in_ok-found.found.reaches.items
    (map (option_map cause_of) c.in_ok-causes.causes.items) c.len.result c.in_ok-priorities.priorities.items c.in_ok-threads.threads.items
    c.in_ok-causes.ensures (c.len.ensures ∙ c.in_ok-order.order.threads.ok.0) c.in_ok-priorities.ensures
    (rw (c.as_slice.ensures.value, c.as_slice-2.ensures.value, c.as_slice-3.ensures.value) at c.in_ok-threads.ensures)))
    (periods c.args.first (length (table f).rows) f c.in_ok-found.found.reaches.items (sound-table f c.requires.sound).each)
