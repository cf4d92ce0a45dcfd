use Rattle.std.proofs.Common.{◌≡◌, filter_map, length, ap, ◌∙◌}
use Rattle.analysis.specs.Tables.{downwards, row_at}
use Rattle.rt_block.specs.Designs.{design_of}
use Rattle.rt_block.specs.Ranked.{place_by}
use Rattle.rt_block.proofs.RowLaws.{table-is}
use Rattle.rt_block.proofs.tables.table.Goals as goal

pub returns : goal.returns
returns c =
    let f = design_of c.args.facts.now in
    let ps = c.args.order.now.threads.items in
    let places : c.in_ok-thread.thread.items ≡ filter_map (place_by ps) (downwards (length ps)) =
    c.in_ok-thread.ensures ∙ ap (λ qs. filter_map (place_by qs) (downwards (length qs))) c.as_slice.ensures.value in
    let rows = c.in_ok-rows.ensures ∙ ap (λ qs. filter_map (row_at f c.in_ok-levels.levels.priorities.now) qs) c.as_slice-2.ensures.value
    ∙ ap (λ qs. filter_map (row_at f qs) c.in_ok-thread.thread.items) c.in_ok-levels.ensures.order in
    table-is f ps c.in_ok-rows.rows.items c.in_ok-thread.thread.items places rows
