use Rattle.law_ceilings.proofs.Shared.Entering.{program-home}
use Rattle.law_ceilings.proofs.program_data_are_home.Goals as goal

pub returns : goal.returns
returns c = λ limit p a n rules accepted. program-home limit p a n rules accepted
