use Rattle.std.proofs.Common.{◌∙◌, length}
use Rattle.std.proofs.lemmas.List.{take-replicate}
use Rattle.rt_response.proofs.Shared.Least.{round-below}
use Rattle.rt_response.proofs.rounds.respond.Goals as goal

pub settle-requires-clause-zeros : goal.settle-requires-clause-zeros
settle-requires-clause-zeros c =
    c.copy_from_slice.ensures.after ∙ c.split_at_mut-next.ensures.front ∙ take-replicate (length c.args.table.now) 30 _ c.requires.table.count

pub returns-clause-below : goal.returns-clause-below
returns-clause-below c = λ v k meets. round-below c.args.table.now v k meets
