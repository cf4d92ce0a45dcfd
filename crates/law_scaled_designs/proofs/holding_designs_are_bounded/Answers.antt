use Rattle.law_scaled_designs.proofs.Shared.ScaledRules.{scaled-bounded}
use Rattle.law_scaled_designs.proofs.holding_designs_are_bounded.Goals as goal

pub returns : goal.returns
returns c = scaled-bounded
