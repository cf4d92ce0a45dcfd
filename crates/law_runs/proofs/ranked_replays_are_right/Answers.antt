use Rattle.law_runs.proofs.Shared.RankedRuns.{ranked-replays-are-right}
use Rattle.law_runs.proofs.ranked_replays_are_right.Goals as goal

pub returns : goal.returns
returns c = ranked-replays-are-right
