use Rattle.law_schedules.proofs.Shared.RestSteps.{levels-rest}
use Rattle.law_schedules.proofs.levels_rest.Goals as goal

pub returns : goal.returns
returns c = levels-rest
