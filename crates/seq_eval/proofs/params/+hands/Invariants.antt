use Rattle.std.proofs.Common.{length}
use Rattle.seq_eval.proofs.params.+hands.Given as goal

abbrev pub decreases-hands : goal.decreases-hands
decreases-hands l = length l.params.now
