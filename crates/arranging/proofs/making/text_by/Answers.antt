use Rattle.std.proofs.Common.{sym, ap, ◌∙◌, length}
use Rattle.std.proofs.lemmas.List.{length-map}
use Rattle.ods_tree.specs.Trees.{flat_of, thread_of, guarded_of}
use Rattle.ada_tree.specs.Trees.{program_of}
use Rattle.analysis.specs.Tables.{table_for}
use Rattle.law_orders.proofs.Shared.OrderRankings.{priorities-are, ranks-by}
use Rattle.law_orders.proofs.Shared.OrderRows.{places-are, priorities-long}
use Rattle.priority_search.proofs.Shared.NextSteps.{order-few}
use Rattle.arranging.proofs.ArrangedTexts.{places-in, bounds-long, threads-small, shared-small, obcs-small, made-by}
use Rattle.arranging.proofs.making.text_by.Goals as goal

pub priorities_up_to-requires : goal.priorities_up_to-requires
priorities_up_to-requires c =
    let f = flat_of c.args.flat.now in
    let o = c.args.found.order.items in
    rw c.as_slice.ensures.value (order-few f c.requires.sound o c.requires.found.order)

pub head-requires-clause-bounds : goal.head-requires-clause-bounds
head-requires-clause-bounds c =
    let f = flat_of c.args.flat.now in
    let o = c.args.found.order.items in
    ap length c.as_slice-2.ensures.value ∙ bounds-long f o c.requires.found.order c.args.found.bounds.items c.requires.found.least.fits

pub head-requires-clause-priorities : goal.head-requires-clause-priorities
head-requires-clause-priorities c =
    let f = flat_of c.args.flat.now in
    let o = c.args.found.order.items in
    ap length (priorities-are f o _ _ _ c.as_slice.ensures.value
    (c.len.ensures ∙ c.args.flat.now.threads.ok.0 ∙ sym (length-map c.args.flat.now.threads.items thread_of)) c.in_ok-threads.ensures) ∙ priorities-long f o c.requires.found.order ∙ length-map c.args.flat.now.threads.items thread_of

pub head-requires-clause-places : goal.head-requires-clause-places
head-requires-clause-places c =
    let f = flat_of c.args.flat.now in
    let o = c.args.found.order.items in
    places-in f o c.requires.found.order (length c.args.flat.now.threads.items) (length-map c.args.flat.now.threads.items thread_of)

pub head-requires-clause-threads : goal.head-requires-clause-threads
head-requires-clause-threads c =
    let f = flat_of c.args.flat.now in
    let o = c.args.found.order.items in
    threads-small f o c.requires.found.order c.args.first c.requires.room c.in_ok-threads.threads.items (priorities-are f o _ _ _ c.as_slice.ensures.value
    (c.len.ensures ∙ c.args.flat.now.threads.ok.0 ∙ sym (length-map c.args.flat.now.threads.items thread_of)) c.in_ok-threads.ensures)

pub head-requires-clause-shared : goal.head-requires-clause-shared
head-requires-clause-shared c =
    let f = flat_of c.args.flat.now in
    let o = c.args.found.order.items in
    shared-small f o c.requires.found.order c.args.first c.requires.room c.args.found.shared.items c.requires.found.shared

pub head-requires-clause-obcs : goal.head-requires-clause-obcs
head-requires-clause-obcs c =
    let f = flat_of c.args.flat.now in
    let o = c.args.found.order.items in
    obcs-small f o c.requires.found.order c.args.first c.requires.room c.args.found.obcs.items c.requires.found.obcs

pub generate-requires-clause-priorities : goal.generate-requires-clause-priorities
generate-requires-clause-priorities c =
    let f = flat_of c.args.flat.now in
    let o = c.args.found.order.items in
    ap length (priorities-are f o _ _ _ c.as_slice.ensures.value
    (c.len.ensures ∙ c.args.flat.now.threads.ok.0 ∙ sym (length-map c.args.flat.now.threads.items thread_of)) c.in_ok-threads.ensures) ∙ priorities-long f o c.requires.found.order ∙ length-map c.args.flat.now.threads.items thread_of

pub generate-requires-clause-controls : goal.generate-requires-clause-controls
generate-requires-clause-controls c =
    let f = flat_of c.args.flat.now in
    ap length c.requires.found.obcs ∙ length-map f.threads _ ∙ length-map c.args.flat.now.threads.items thread_of

pub generate-requires-clause-ceilings : goal.generate-requires-clause-ceilings
generate-requires-clause-ceilings c =
    let f = flat_of c.args.flat.now in
    ap length c.requires.found.shared ∙ length-map f.shared _ ∙ length-map c.args.flat.now.shared.items guarded_of

pub generate-requires-clause-threads : goal.generate-requires-clause-threads
generate-requires-clause-threads c =
    let f = flat_of c.args.flat.now in
    let o = c.args.found.order.items in
    threads-small f o c.requires.found.order c.args.first c.requires.room c.in_ok-threads.threads.items (priorities-are f o _ _ _ c.as_slice.ensures.value
    (c.len.ensures ∙ c.args.flat.now.threads.ok.0 ∙ sym (length-map c.args.flat.now.threads.items thread_of)) c.in_ok-threads.ensures)

pub generate-requires-clause-shared : goal.generate-requires-clause-shared
generate-requires-clause-shared c =
    let f = flat_of c.args.flat.now in
    let o = c.args.found.order.items in
    shared-small f o c.requires.found.order c.args.first c.requires.room c.args.found.shared.items c.requires.found.shared

pub generate-requires-clause-obcs : goal.generate-requires-clause-obcs
generate-requires-clause-obcs c =
    let f = flat_of c.args.flat.now in
    let o = c.args.found.order.items in
    obcs-small f o c.requires.found.order c.args.first c.requires.room c.args.found.obcs.items c.requires.found.obcs

pub returns : goal.returns
returns c =
    let f = flat_of c.args.flat.now in
    let o = c.args.found.order.items in
    made-by c.args.first f o c.in_ok-threads.threads.items _ c.args.found.bounds.items c.as_slice-2.result.now
    (program_of c.in_ok-program.program) c.in_ok-text.text.items _ (priorities-are f o _ _ _ c.as_slice.ensures.value
    (c.len.ensures ∙ c.args.flat.now.threads.ok.0 ∙ sym (length-map c.args.flat.now.threads.items thread_of)) c.in_ok-threads.ensures)
    (ranks-by f o c.in_ok-threads.threads.items c.args.found.shared.items c.args.found.obcs.items (priorities-are f o _ _ _ c.as_slice.ensures.value
    (c.len.ensures ∙ c.args.flat.now.threads.ok.0 ∙ sym (length-map c.args.flat.now.threads.items thread_of)) c.in_ok-threads.ensures) c.requires.found.shared c.requires.found.obcs)
    (sym (places-are f o c.requires.found.order) ∙ ap (λ z. (table_for f z).places) (sym (priorities-are f o _ _ _ c.as_slice.ensures.value
    (c.len.ensures ∙ c.args.flat.now.threads.ok.0 ∙ sym (length-map c.args.flat.now.threads.items thread_of)) c.in_ok-threads.ensures)))
    c.as_slice-2.ensures.value c.in_ok-text.ensures c.in_ok-program.ensures c.in_ok-print_ada.ensures
