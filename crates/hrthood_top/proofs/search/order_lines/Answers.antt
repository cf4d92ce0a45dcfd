use Rattle.std.proofs.Common.{◌≡◌, IfOk, subst, sym, ◌∙◌}
use Rattle.std.proofs.lemmas.List.{length-map}
use Rattle.ods_tree.specs.Trees.{flat_of, thread_of}
use Rattle.priority_search.proofs.Shared.NextSteps.{order-few}
use Rattle.law_orders.proofs.Shared.OrderRankings.{priorities-are, table-by, ranks-by}
use Rattle.hrthood_top.proofs.SearchSteps.{small-by, told-by}
use Rattle.hrthood_top.proofs.search.order_lines.Goals as goal

pub priorities_up_to-requires : goal.priorities_up_to-requires
priorities_up_to-requires c =
    rw c.as_slice.ensures.value (order-few (flat_of c.args.flat.now) c.requires.sound c.args.found.order.items c.requires.found.order)

pub named-requires-clause-small : goal.named-requires-clause-small
named-requires-clause-small c =
    let f = flat_of c.args.flat.now in
    let o = c.args.found.order.items in
    small-by f o c.in_ok-threads.threads.items c.requires.sound c.requires.found.order
    (priorities-are f o _ _ _ c.as_slice.ensures.value (c.len.ensures ∙ c.args.flat.now.threads.ok.0 ∙ sym (length-map c.args.flat.now.threads.items thread_of)) c.in_ok-threads.ensures)

pub named-requires-clause-table : goal.named-requires-clause-table
named-requires-clause-table c =
    let f = flat_of c.args.flat.now in
    let o = c.args.found.order.items in
    table-by f o c.in_ok-threads.threads.items c.args.found.rows.items c.requires.found.order
    (priorities-are f o _ _ _ c.as_slice.ensures.value (c.len.ensures ∙ c.args.flat.now.threads.ok.0 ∙ sym (length-map c.args.flat.now.threads.items thread_of)) c.in_ok-threads.ensures) c.requires.found.rows

pub ceilings-requires-clause-small : goal.ceilings-requires-clause-small
ceilings-requires-clause-small c =
    let f = flat_of c.args.flat.now in
    let o = c.args.found.order.items in
    small-by f o c.in_ok-threads.threads.items c.requires.sound c.requires.found.order
    (priorities-are f o _ _ _ c.as_slice.ensures.value (c.len.ensures ∙ c.args.flat.now.threads.ok.0 ∙ sym (length-map c.args.flat.now.threads.items thread_of)) c.in_ok-threads.ensures)

pub ceilings-requires-clause-order : goal.ceilings-requires-clause-order
ceilings-requires-clause-order c =
    let f = flat_of c.args.flat.now in
    let o = c.args.found.order.items in
    ranks-by f o c.in_ok-threads.threads.items c.args.found.shared.items c.args.found.obcs.items
    (priorities-are f o _ _ _ c.as_slice.ensures.value (c.len.ensures ∙ c.args.flat.now.threads.ok.0 ∙ sym (length-map c.args.flat.now.threads.items thread_of)) c.in_ok-threads.ensures) c.requires.found.shared c.requires.found.obcs

pub returns : goal.returns
returns c =
    let f = flat_of c.args.flat.now in
    let o = c.args.found.order.items in
    subst (λ t. IfOk c.report.result (λ v. v.items ≡ t))
    (told-by c.args.first f o c.in_ok-threads.threads.items c.args.found.bounds.items _ _ _ _ _
    (priorities-are f o _ _ _ c.as_slice.ensures.value (c.len.ensures ∙ c.args.flat.now.threads.ok.0 ∙ sym (length-map c.args.flat.now.threads.items thread_of)) c.in_ok-threads.ensures) c.as_slice-2.ensures.value c.in_ok-named.ensures
    c.as_slice-3.ensures.value c.in_ok-ceilings.ensures c.as_slice-4.ensures.value) c.report.ensures
