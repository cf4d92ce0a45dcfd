use Rattle.law_scaling.proofs.Shared.Sound.{spaced-still}
use Rattle.law_scaling.proofs.spacing_stays.Goals as goal

pub returns : goal.returns
returns c = λ f w spaced. spaced-still w f spaced
