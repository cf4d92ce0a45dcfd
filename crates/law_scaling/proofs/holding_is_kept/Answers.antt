use Rattle.std.specs.Prelude.{None}
use Rattle.law_scaling.proofs.Shared.Holding.{holds-less}
use Rattle.law_scaling.proofs.holding_is_kept.Goals as goal

pub returns : goal.returns
returns c = holds-less None
