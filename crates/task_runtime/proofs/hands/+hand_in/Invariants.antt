use Rattle.std.proofs.Common.{length}
use Rattle.task_runtime.proofs.hands.+hand_in.Given as goal

abbrev pub decreases-hand_in : goal.decreases-hand_in
decreases-hand_in l = length l.params.now
