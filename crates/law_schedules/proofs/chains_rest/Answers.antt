use Rattle.law_schedules.proofs.Shared.RestSteps.{chains-rest}
use Rattle.law_schedules.proofs.chains_rest.Goals as goal

pub returns : goal.returns
returns c = chains-rest
