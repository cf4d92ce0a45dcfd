use Rattle.law_texts.proofs.Shared.RankedTexts.{ranked-guaranteed}
use Rattle.law_texts.proofs.ranked_texts_are_guaranteed.Goals as goal

pub returns : goal.returns
returns c limit = λ x bytes ps v reads met ranking fits. ranked-guaranteed x bytes reads met ps ranking v fits limit
