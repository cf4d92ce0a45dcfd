use Rattle.law_dispatching.proofs.Shared.Sleeping.{due-sleeper}
use Rattle.law_dispatching.proofs.first_due_sleeper_is_released.Goals as goal

pub returns : goal.returns
returns c tasks time asleep a = due-sleeper tasks time asleep a
