use Rattle.law_designs.proofs.Shared.TabledTasks.{ranked-tabled}
use Rattle.law_designs.proofs.ranked_designs_are_tabled.Goals as goal

pub returns : goal.returns
returns c = ranked-tabled
