use Rattle.std.proofs.Common.{◌∙◌}
use Rattle.std.proofs.lemmas.List.{length-map}
use Rattle.ods_tree.specs.Trees.{flat_of, thread_of}
use Rattle.analysis.specs.Trees.{ranks_of}
use Rattle.design_bounds.proofs.Shared.TablePlaces.{ranks-long}
use Rattle.hrthood_top.proofs.design_program.flat_program.Goals as goal

pub generate-requires-clause-priorities : goal.generate-requires-clause-priorities
generate-requires-clause-priorities c =
    ranks-long (flat_of c.args.flat.now) (ranks_of c.in_ok-ranking.ranking) c.in_ok-ranking.ensures ∙ length-map c.args.flat.now.threads.items thread_of
