use Rattle.law_chain_bounds.proofs.TabledChains.{tabled-chains-keep-to-levels}
use Rattle.law_chain_bounds.proofs.tabled_chains_keep_to_levels.Goals as goal

pub returns : goal.returns
returns c = tabled-chains-keep-to-levels
