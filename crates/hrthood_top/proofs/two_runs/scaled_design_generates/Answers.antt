use Rattle.hrthood_top.proofs.ScaledAgain.{scaled-again}
use Rattle.hrthood_top.proofs.two_runs.scaled_design_generates.Goals as goal

pub returns : goal.returns
returns c = scaled-again
