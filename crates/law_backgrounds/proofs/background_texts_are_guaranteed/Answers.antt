use Rattle.law_backgrounds.proofs.Shared.BackgroundTexts.{text-guaranteed}
use Rattle.law_backgrounds.proofs.background_texts_are_guaranteed.Goals as goal

pub returns : goal.returns
returns c limit x v proper writable passes fits short = text-guaranteed x proper writable passes v fits limit short
