use Rattle.law_samples.proofs.Held.{requests-held}
use Rattle.law_samples.proofs.requests_are_all.Goals as goal

pub returns : goal.returns
returns c = requests-held
