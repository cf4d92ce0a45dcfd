use Rattle.law_flat_code.specs.Codes.{told_by}
use Rattle.law_flat_code.proofs.Shared.Calling.{sections_enter}
use Rattle.law_flat_code.proofs.sections_enter.Goals as goal

pub returns : goal.returns
returns c = λ y reads. sections_enter y (told_by reads)
