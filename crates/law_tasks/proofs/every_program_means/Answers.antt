use Rattle.law_tasks.proofs.Shared.Halts.{readable_means}
use Rattle.law_tasks.proofs.every_program_means.Goals as goal

pub returns : goal.returns
returns c = λ p a meets. readable_means p a meets
