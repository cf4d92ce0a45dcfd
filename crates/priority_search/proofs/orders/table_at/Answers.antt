use Rattle.std.proofs.Common.{◌≡◌, length, ap, sym, subst, ◌∙◌}
use Rattle.std.proofs.lemmas.List.{length-map}
use Rattle.std.proofs.lemmas.Result.{IfOk-weaker}
use Rattle.ods_tree.specs.Flats.{Flat}
use Rattle.ods_tree.specs.Trees.{flat_of, thread_of}
use Rattle.analysis.specs.Ceilings.{ranks_for}
use Rattle.analysis.specs.Sound.{IsSound}
use Rattle.analysis.specs.Tables.{table_for}
use Rattle.analysis.specs.Trees.{table_of}
use Rattle.rt_block.specs.Designs.{design_of}
use Rattle.priority_search.proofs.orders.table_at.Goals as goal

pub table-requires-clause-sound : goal.table-requires-clause-sound
table-requires-clause-sound c = subst IsSound (sym c.requires.known) c.requires.sound

pub table-requires-clause-threads : goal.table-requires-clause-threads
table-requires-clause-threads c =
    c.requires.threads ∙ sym (length-map c.args.basis.now.flat.now.threads.items thread_of)
    ∙ ap (λ (f : Flat). length f.threads) (sym c.requires.known)

pub table-requires-clause-ceilings : goal.table-requires-clause-ceilings
table-requires-clause-ceilings c = c.requires.ceilings ∙ ap (λ f. ranks_for f c.args.ranking.now.threads.items) (sym c.requires.known)

pub returns : goal.returns
returns c =
    let ps = c.args.ranking.now.threads.items in
    IfOk-weaker c.table.result (λ t. table_of t ≡ table_for (design_of c.args.basis.now.facts) ps)
    (λ t. table_of t ≡ table_for (flat_of c.args.basis.now.flat.now) ps)
    (λ t is. is ∙ ap (λ f. table_for f ps) c.requires.known) c.table.ensures
