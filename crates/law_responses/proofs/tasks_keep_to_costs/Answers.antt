use Rattle.law_responses.proofs.Shared.CostLaw.{tasks-keep-to-costs}
use Rattle.law_responses.proofs.tasks_keep_to_costs.Goals as goal

pub returns : goal.returns
returns c = λ limit. tasks-keep-to-costs limit
