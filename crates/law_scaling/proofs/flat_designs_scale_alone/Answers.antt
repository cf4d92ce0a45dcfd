use Rattle.law_scaling.specs.Scaling.{work_of}
use Rattle.law_scaling.proofs.Shared.Designs.{flat-same}
use Rattle.law_scaling.proofs.flat_designs_scale_alone.Goals as goal

pub returns : goal.returns
returns c = λ only x k. flat-same (work_of only k) x
