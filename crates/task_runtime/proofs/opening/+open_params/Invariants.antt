use Rattle.std.proofs.Common.{length}
use Rattle.task_runtime.proofs.opening.+open_params.Given as goal

abbrev pub decreases-open_params : goal.decreases-open_params
decreases-open_params l = length l.params.now
