use Rattle.law_chain_bounds.proofs.PrintedChains.{threads-keep-to-costs}
use Rattle.law_chain_bounds.proofs.threads_keep_to_costs.Goals as goal

pub returns : goal.returns
returns c = threads-keep-to-costs
