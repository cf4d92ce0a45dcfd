use Rattle.law_ceilings.proofs.Shared.Programs.{controls}
use Rattle.law_ceilings.proofs.controls_exclude.Goals as goal

pub returns : goal.returns
returns c = λ limit p a n rules accepted. controls limit p a n rules accepted
