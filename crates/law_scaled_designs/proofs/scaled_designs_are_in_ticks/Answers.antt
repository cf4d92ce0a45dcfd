use Rattle.law_scaled_designs.proofs.Shared.ScaledRules.{scaled-ticks}
use Rattle.law_scaled_designs.proofs.scaled_designs_are_in_ticks.Goals as goal

pub returns : goal.returns
returns c = scaled-ticks
