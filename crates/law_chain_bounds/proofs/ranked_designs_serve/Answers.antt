use Rattle.law_chain_bounds.proofs.Shared.DesignService.{ranked-designs-serve}
use Rattle.law_chain_bounds.proofs.ranked_designs_serve.Goals as goal

pub returns : goal.returns
returns c = ranked-designs-serve
