use Rattle.law_texts.proofs.Shared.WrittenTexts.{text-guaranteed}
use Rattle.law_texts.proofs.texts_are_guaranteed.Goals as goal

pub returns : goal.returns
returns c limit = λ x bytes v reads met fits. text-guaranteed x bytes reads met v fits limit
