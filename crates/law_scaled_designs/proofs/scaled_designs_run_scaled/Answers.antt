use Rattle.law_scaled_designs.proofs.Shared.ScaledRules.{scaled-flat}
use Rattle.law_scaled_designs.proofs.scaled_designs_run_scaled.Goals as goal

pub returns : goal.returns
returns c = scaled-flat
