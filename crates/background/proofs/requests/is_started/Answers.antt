use Rattle.std.proofs.Common.{◌&&◌, slice_get, refl, ap, sym, ◌∙◌, arith}
use Rattle.std.proofs.lemmas.Option.{slice_get_read, slice_get_within, same_Some}
use Rattle.ods_tree.specs.Trees.{flat_of, thread_of}
use Rattle.analysis.specs.Priorities.{priorities_of}
use Rattle.analysis.specs.Tables.{starter_of}
use Rattle.background.specs.Fronts.{is_row}
use Rattle.background.proofs.RequestLaws.{row-starter}
use Rattle.background.proofs.requests.is_started.Goals as goal

pub index-requires : goal.index-requires
index-requires c =
    let r = row-starter (flat_of c.args.flat.now) c.args.place c.row_of-own.result (thread_of c.args.thread.now) c.requires.stands
    c.row_of-own.ensures in
    let there = ap (λ t. slice_get t.rows c.row_of-own.result) c.requires.table ∙ r.1 in
    omega (arith, slice_get_within c.args.table.now.rows.items c.row_of-own.result r.0 there, c.args.table.now.rows.ok.0)

pub returns-then-is_sporadic : goal.returns-then-is_sporadic
returns-then-is_sporadic c =
    let f = flat_of c.args.flat.now in
    let t = thread_of c.args.thread.now in
    let r = row-starter f c.args.place c.row_of-own.result t c.requires.stands c.row_of-own.ensures in
    let there = ap (λ z. slice_get z.rows c.row_of-own.result) c.requires.table ∙ r.1 in
    let i = slice_get_within c.args.table.now.rows.items c.row_of-own.result r.0 there in
    let read = slice_get_read c.args.table.now.rows.items _ c.row_of-own.result c.index.result.now refl i c.index.ensures in
    let same = same_Some c.index.result.now r.0 (sym read ∙ there) in
    c.is_row.ensures ∙ ap (λ z. is_row c.args.row z.starter) same ∙ ap (is_row c.args.row) r.2
    ∙ ap (λ b. b && is_row c.args.row (starter_of f (priorities_of f) t.name t.timing)) c.if-is_sporadic.ensures
