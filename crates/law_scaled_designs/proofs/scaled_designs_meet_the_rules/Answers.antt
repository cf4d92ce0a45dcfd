use Rattle.law_scaled_designs.proofs.Shared.ScaledRules.{scaled-meets}
use Rattle.law_scaled_designs.proofs.scaled_designs_meet_the_rules.Goals as goal

pub returns : goal.returns
returns c = scaled-meets
