use Rattle.law_runs.proofs.Shared.Chained.{tabled-served-at-once}
use Rattle.law_runs.proofs.tabled_tasks_are_served_at_once.Goals as goal

pub returns : goal.returns
returns c = tabled-served-at-once
