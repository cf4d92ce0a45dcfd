use Rattle.law_responses.proofs.Shared.ProgramLaw.{processor-responds}
use Rattle.law_runs.proofs.Shared.Bounded.{tabled_served}
use Rattle.law_runs.proofs.tabled_tasks_are_served.Goals as goal

pub returns : goal.returns
returns c limit = tabled_served limit (processor-responds limit)
