use Rattle.law_releases.proofs.Shared.Permitted.{permits}
use Rattle.law_releases.proofs.runs_are_permitted.Goals as goal

pub returns : goal.returns
returns c = permits
