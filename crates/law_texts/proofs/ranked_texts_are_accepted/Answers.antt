use Rattle.law_texts.proofs.Shared.RankedTexts.{ranked-accepted}
use Rattle.law_texts.proofs.ranked_texts_are_accepted.Goals as goal

pub returns : goal.returns
returns c = λ x bytes ps v reads met ranking fits. ranked-accepted x bytes reads met ps ranking v fits
