use Rattle.law_flat_code.specs.Codes.{told_by}
use Rattle.law_flat_code.proofs.Shared.Going.{turns_end}
use Rattle.law_flat_code.proofs.turns_end.Goals as goal

pub returns : goal.returns
returns c = λ reads. turns_end (told_by reads)
