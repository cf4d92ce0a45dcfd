use Rattle.law_calls.proofs.Shared.Rings.{no-ring}
use Rattle.law_calls.proofs.programs_have_no_ring.Goals as goal

pub returns : goal.returns
returns c = λ p rules. no-ring p rules
