use Rattle.law_calls.proofs.Shared.Bodies.{calls-end}
use Rattle.law_calls.proofs.calls_end.Goals as goal

pub returns : goal.returns
returns c = λ ss from path to no_ring way. calls-end ss no_ring from path to way
