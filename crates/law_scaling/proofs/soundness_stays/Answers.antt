use Rattle.law_scaling.proofs.Shared.Sound.{sound-still}
use Rattle.law_scaling.proofs.soundness_stays.Goals as goal

pub returns : goal.returns
returns c = λ f w sound cheap. sound-still w f sound cheap
