use Rattle.law_scaled_designs.proofs.Shared.ScaledRules.{scaled-late}
use Rattle.law_scaled_designs.proofs.misses_are_of_scaled_designs.Goals as goal

pub returns : goal.returns
returns c = scaled-late
