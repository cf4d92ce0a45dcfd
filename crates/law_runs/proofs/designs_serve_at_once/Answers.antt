use Rattle.law_runs.proofs.Shared.Chained.{designs-serve-at-once}
use Rattle.law_runs.proofs.designs_serve_at_once.Goals as goal

pub returns : goal.returns
returns c = designs-serve-at-once
