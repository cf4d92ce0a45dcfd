use Rattle.law_runs.proofs.Shared.DesignLaw.{designs-are-right}
use Rattle.law_runs.proofs.designs_are_right.Goals as goal

pub returns : goal.returns
returns c = designs-are-right
