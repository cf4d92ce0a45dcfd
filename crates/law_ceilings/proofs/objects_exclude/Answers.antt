use Rattle.law_ceilings.proofs.Shared.Programs.{exclusive}
use Rattle.law_ceilings.proofs.objects_exclude.Goals as goal

pub returns : goal.returns
returns c = λ limit p a told rules accepted meaning. exclusive limit p a told rules accepted meaning
