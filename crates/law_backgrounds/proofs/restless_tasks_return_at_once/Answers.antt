use Rattle.law_backgrounds.proofs.RestlessLaw.{task_at_once}
use Rattle.law_backgrounds.proofs.restless_tasks_return_at_once.Goals as goal

pub returns : goal.returns
returns c limit p r trace t meets accepted m quiet task timing = task_at_once limit p r trace task.0 t meets accepted m quiet task.1 timing
