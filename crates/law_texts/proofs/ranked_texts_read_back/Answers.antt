use Rattle.law_texts.proofs.Shared.RankedTexts.{ranked-spelled}
use Rattle.law_texts.proofs.ranked_texts_read_back.Goals as goal

pub returns : goal.returns
returns c = λ x bytes ps v reads met ranking fits. ranked-spelled x bytes reads met ps ranking v fits
