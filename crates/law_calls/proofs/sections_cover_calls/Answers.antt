use Rattle.law_calls.proofs.Shared.Bodies.{sections-cover}
use Rattle.law_calls.proofs.sections_cover_calls.Goals as goal

pub returns : goal.returns
returns d = λ costs ss c no_ring. sections-cover ss no_ring costs c
