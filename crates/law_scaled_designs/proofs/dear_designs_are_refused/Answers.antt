use Rattle.law_scaled_designs.proofs.Shared.ScaledRules.{scaled-dear}
use Rattle.law_scaled_designs.proofs.dear_designs_are_refused.Goals as goal

pub returns : goal.returns
returns c = scaled-dear
