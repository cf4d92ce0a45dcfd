use Rattle.law_flat_code.specs.Codes.{told_by}
use Rattle.law_flat_code.proofs.Shared.Calling.{activations_finish}
use Rattle.law_flat_code.proofs.activations_finish.Goals as goal

pub returns : goal.returns
returns c = λ reads. activations_finish (told_by reads)
