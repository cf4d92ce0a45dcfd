use Rattle.law_chain_bounds.proofs.PrintedChains.{levels-are-within-sums}
use Rattle.law_chain_bounds.proofs.levels_are_within_sums.Goals as goal

pub returns : goal.returns
returns c = levels-are-within-sums
