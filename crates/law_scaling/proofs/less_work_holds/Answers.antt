use Rattle.law_scaling.proofs.Shared.Holding.{holds-below}
use Rattle.law_scaling.proofs.less_work_holds.Goals as goal

pub returns : goal.returns
returns c = holds-below
