use Rattle.law_runs.proofs.Shared.DesignLaw.{replays-are-right}
use Rattle.law_runs.proofs.replays_are_right.Goals as goal

pub returns : goal.returns
returns c = replays-are-right
