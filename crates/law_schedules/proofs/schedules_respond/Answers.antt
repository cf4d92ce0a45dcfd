use Rattle.std.proofs.Common.{le_refl}
use Rattle.law_schedules.specs.Schedules.{horizon}
use Rattle.law_schedules.proofs.Shared.Law.{on-time}
use Rattle.law_schedules.proofs.schedules_respond.Goals as goal

pub returns : goal.returns
returns c = λ rows v s table fits schedule. on-time rows v s table fits schedule (horizon s) (le_refl (horizon s))
