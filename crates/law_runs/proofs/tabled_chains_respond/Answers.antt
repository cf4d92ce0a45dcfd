use Rattle.law_runs.proofs.Shared.Chained.{tabled-chains}
use Rattle.law_runs.proofs.tabled_chains_respond.Goals as goal

pub returns : goal.returns
returns c = tabled-chains
