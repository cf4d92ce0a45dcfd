use Rattle.law_responses.proofs.Shared.LevelLaw.{levels-of-tasks-rest}
use Rattle.law_responses.proofs.levels_of_tasks_rest.Goals as goal

pub returns : goal.returns
returns c = λ limit. levels-of-tasks-rest limit
