use Rattle.law_backgrounds.proofs.Shared.BackgroundTexts.{text-spelled}
use Rattle.law_backgrounds.proofs.background_texts_read_back.Goals as goal

pub returns : goal.returns
returns c x v proper writable passes fits = text-spelled x proper writable passes v fits
