use Rattle.law_calls.proofs.Shared.Bodies.{calls-cover}
use Rattle.law_calls.proofs.reach_covers_calls.Goals as goal

pub returns : goal.returns
returns d = λ ss c no_ring. calls-cover ss no_ring c
