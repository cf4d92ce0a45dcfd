use Rattle.law_runs.proofs.Shared.RankedRuns.{ranked-texts-are-guaranteed}
use Rattle.law_runs.proofs.ranked_texts_are_guaranteed.Goals as goal

pub returns : goal.returns
returns c = ranked-texts-are-guaranteed
