use Rattle.law_backgrounds.proofs.NoBackground.{own-passes}
use Rattle.law_backgrounds.proofs.own_designs_pass.Goals as goal

pub returns : goal.returns
returns c = own-passes
