use Rattle.std.specs.Prelude.{None}
use Rattle.law_scaling.proofs.Shared.Holding.{least-cheap}
use Rattle.law_scaling.proofs.least_scale_is_cheap.Goals as goal

pub returns : goal.returns
returns c = least-cheap None
