use Rattle.std.proofs.Common.{inl, refl}
use Rattle.task_runtime.proofs.task.Task.use_left.Goals as goal

pub returns-then-ticks-eq0-clause-uses : goal.returns-then-ticks-eq0-clause-uses
returns-then-ticks-eq0-clause-uses c = inl (refl, refl)
