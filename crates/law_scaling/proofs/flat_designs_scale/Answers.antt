use Rattle.law_scaling.specs.Scaling.{scaled_ticks}
use Rattle.law_scaling.proofs.Shared.Designs.{flat-same}
use Rattle.law_scaling.proofs.flat_designs_scale.Goals as goal

pub returns : goal.returns
returns c = λ x k. flat-same (λ name. scaled_ticks k) x
