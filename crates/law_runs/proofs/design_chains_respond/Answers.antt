use Rattle.law_runs.proofs.Shared.Chained.{design-chains}
use Rattle.law_runs.proofs.design_chains_respond.Goals as goal

pub returns : goal.returns
returns c = design-chains
