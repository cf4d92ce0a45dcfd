use Rattle.law_flat_code.specs.Codes.{told_by}
use Rattle.law_flat_code.proofs.Shared.Calling.{unknown_goes_on}
use Rattle.law_flat_code.proofs.unknown_calls_go_on.Goals as goal

pub returns : goal.returns
returns c = λ y reads. unknown_goes_on y (told_by reads)
