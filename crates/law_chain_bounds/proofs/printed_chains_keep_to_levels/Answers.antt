use Rattle.law_chain_bounds.proofs.PrintedChains.{printed-chains-keep-to-levels}
use Rattle.law_chain_bounds.proofs.printed_chains_keep_to_levels.Goals as goal

pub returns : goal.returns
returns c = printed-chains-keep-to-levels
