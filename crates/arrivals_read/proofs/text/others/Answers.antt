use Rattle.std.proofs.Common.{arith}
use Rattle.token_read.specs.Ahead.{ahead}
use Rattle.arrivals_read.proofs.Turns.{other-shorter}
use Rattle.arrivals_read.proofs.text.others.Goals as goal

pub others-smaller : goal.others-smaller
others-smaller c =
    omega (arith, other-shorter (ahead c.others.rest) c.in_ok-next.next (ahead c.in_ok-next.after) c.in_ok-next.ensures)
