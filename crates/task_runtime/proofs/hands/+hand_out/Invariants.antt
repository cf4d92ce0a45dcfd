use Rattle.std.proofs.Common.{length}
use Rattle.task_runtime.proofs.hands.+hand_out.Given as goal

abbrev pub decreases-hand_out : goal.decreases-hand_out
decreases-hand_out l = length l.params.now
