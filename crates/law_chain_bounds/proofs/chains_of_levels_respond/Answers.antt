use Rattle.law_chain_bounds.proofs.LevelSteps.{chains-of-levels-respond}
use Rattle.law_chain_bounds.proofs.chains_of_levels_respond.Goals as goal

pub returns : goal.returns
returns c = chains-of-levels-respond
