use Rattle.law_responses.proofs.Shared.ProgramLaw.{processor-responds}
use Rattle.law_runs.proofs.Shared.Bounded.{bounded_runs}
use Rattle.law_runs.proofs.tabled_runs_are_right.Goals as goal

pub returns : goal.returns
returns c limit = bounded_runs limit (processor-responds limit)
