use Rattle.law_chain_bounds.proofs.PrintedChains.{printed-chains-respond}
use Rattle.law_chain_bounds.proofs.printed_chains_respond.Goals as goal

pub returns : goal.returns
returns c = printed-chains-respond
