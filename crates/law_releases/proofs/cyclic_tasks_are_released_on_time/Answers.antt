use Rattle.law_releases.proofs.Shared.PeriodicLaw.{are_periodic}
use Rattle.law_releases.proofs.cyclic_tasks_are_released_on_time.Goals as goal

pub returns : goal.returns
returns c = are_periodic
