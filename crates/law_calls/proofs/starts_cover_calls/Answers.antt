use Rattle.law_calls.proofs.Shared.Bodies.{starts-cover}
use Rattle.law_calls.proofs.starts_cover_calls.Goals as goal

pub returns : goal.returns
returns c = λ ss target object op no_ring. starts-cover ss no_ring target object op
