use Rattle.law_ceilings.proofs.Shared.Programs.{holders}
use Rattle.law_ceilings.proofs.holders_are_safe.Goals as goal

pub returns : goal.returns
returns c = λ limit p a n rules accepted. holders limit p a n rules accepted
