use Rattle.std.proofs.Common.{length}
use Rattle.task_runtime.proofs.hands.+ins_len.Given as goal

abbrev pub decreases-ins_len : goal.decreases-ins_len
decreases-ins_len l = length l.params.now
