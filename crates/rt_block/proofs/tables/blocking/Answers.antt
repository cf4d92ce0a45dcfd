use Rattle.std.proofs.Common.{◌≡◌, length, ap, sym, subst, ◌∙◌}
use Rattle.std.proofs.lemmas.List.{length-map}
use Rattle.std.proofs.lemmas.Result.{IfOk-weaker}
use Rattle.ods_tree.specs.Flats.{Flat}
use Rattle.ods_tree.specs.Trees.{flat_of, thread_of}
use Rattle.analysis.specs.Ceilings.{ranks_for}
use Rattle.analysis.specs.Sound.{IsSound}
use Rattle.analysis.specs.Tables.{table_for}
use Rattle.analysis.specs.Trees.{table_of}
use Rattle.rt_block.specs.Designs.{design_of}
use Rattle.rt_block.proofs.tables.blocking.Goals as goal

pub table-requires-clause-sound : goal.table-requires-clause-sound
table-requires-clause-sound c = subst IsSound (sym c.in_ok-facts.ensures) c.requires.sound

pub table-requires-clause-threads : goal.table-requires-clause-threads
table-requires-clause-threads c =
    c.requires.threads ∙ sym (length-map c.args.flat.now.threads.items thread_of)
    ∙ ap (λ (f : Flat). length f.threads) (sym c.in_ok-facts.ensures)

pub table-requires-clause-ceilings : goal.table-requires-clause-ceilings
table-requires-clause-ceilings c = c.requires.ceilings ∙ ap (λ f. ranks_for f c.args.order.now.threads.items) (sym c.in_ok-facts.ensures)

pub returns : goal.returns
returns c =
    let ps = c.args.order.now.threads.items in
    IfOk-weaker c.table.result (λ t. table_of t ≡ table_for (design_of c.in_ok-facts.facts) ps)
    (λ t. table_of t ≡ table_for (flat_of c.args.flat.now) ps)
    (λ t is. is ∙ ap (λ f. table_for f ps) c.in_ok-facts.ensures) c.table.ensures
