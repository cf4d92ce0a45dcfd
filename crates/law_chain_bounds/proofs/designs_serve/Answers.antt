use Rattle.law_chain_bounds.proofs.Shared.DesignService.{designs-serve}
use Rattle.law_chain_bounds.proofs.designs_serve.Goals as goal

pub returns : goal.returns
returns c = designs-serve
