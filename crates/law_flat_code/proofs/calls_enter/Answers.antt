use Rattle.law_flat_code.specs.Codes.{told_by}
use Rattle.law_flat_code.proofs.Shared.Calling.{calls_enter}
use Rattle.law_flat_code.proofs.calls_enter.Goals as goal

pub returns : goal.returns
returns c = λ y reads. calls_enter y (told_by reads)
