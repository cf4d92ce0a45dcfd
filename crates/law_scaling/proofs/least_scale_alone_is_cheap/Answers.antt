use Rattle.law_scaling.proofs.Shared.Holding.{least-cheap}
use Rattle.law_scaling.proofs.least_scale_alone_is_cheap.Goals as goal

pub returns : goal.returns
returns c = least-cheap
