use Rattle.std.proofs.Common.{length, ap, sym, subst, ◌∙◌}
use Rattle.ods_tree.specs.Flats.{Flat}
use Rattle.ods_tree.specs.Trees.{flat_of}
use Rattle.analysis.specs.Ceilings.{ranks_for}
use Rattle.analysis.specs.Sound.{IsSound}
use Rattle.analysis.specs.Tables.{table_for}
use Rattle.analysis.specs.Trees.{ranks_of}
use Rattle.design_bounds.proofs.Shared.TablePlaces.{ranks-long}
use Rattle.scaling.proofs.MarginLaws.{own-ranks}
use Rattle.scaling.proofs.failing.missed.Goals as goal

pub table-requires-clause-sound : goal.table-requires-clause-sound
table-requires-clause-sound c = subst IsSound (sym c.requires.known) c.requires.sound

pub table-requires-clause-threads : goal.table-requires-clause-threads
table-requires-clause-threads c =
    ranks-long (flat_of c.args.flat.now) (ranks_of c.args.order.now) c.requires.order ∙ ap (λ (f : Flat). length f.threads) (sym c.requires.known)

pub table-requires-clause-ceilings : goal.table-requires-clause-ceilings
table-requires-clause-ceilings c =
    own-ranks (flat_of c.args.flat.now) (ranks_of c.args.order.now) c.requires.order
    ∙ ap (λ f. ranks_for f c.args.order.now.threads.items) (sym c.requires.known)

pub bounds_of-requires-clause-table : goal.bounds_of-requires-clause-table
bounds_of-requires-clause-table c =
    c.in_ok-table.ensures ∙ ap (λ f. table_for f c.args.order.now.threads.items) c.requires.known
    ∙ ap (λ r. table_for (flat_of c.args.flat.now) r.threads) c.requires.order
