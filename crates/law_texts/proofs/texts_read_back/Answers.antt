use Rattle.law_texts.proofs.Shared.WrittenTexts.{text-spelled}
use Rattle.law_texts.proofs.texts_read_back.Goals as goal

pub returns : goal.returns
returns c = λ x bytes v reads met fits. text-spelled x bytes reads met v fits
