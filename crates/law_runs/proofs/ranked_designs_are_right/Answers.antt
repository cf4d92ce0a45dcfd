use Rattle.law_runs.proofs.Shared.RankedRuns.{ranked-designs-are-right}
use Rattle.law_runs.proofs.ranked_designs_are_right.Goals as goal

pub returns : goal.returns
returns c = ranked-designs-are-right
