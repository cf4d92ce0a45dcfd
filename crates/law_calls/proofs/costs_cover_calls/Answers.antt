use Rattle.law_calls.proofs.Shared.Bodies.{costs-cover}
use Rattle.law_calls.proofs.costs_cover_calls.Goals as goal

pub returns : goal.returns
returns c = λ costs ss object op no_ring. costs-cover ss no_ring costs object op
