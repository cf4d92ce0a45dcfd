use Rattle.law_texts.proofs.Shared.WrittenTexts.{text-accepted}
use Rattle.law_texts.proofs.texts_are_accepted.Goals as goal

pub returns : goal.returns
returns c = λ x bytes v reads met fits. text-accepted x bytes reads met v fits
