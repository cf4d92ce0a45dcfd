use Rattle.law_flat_code.specs.Codes.{told_by}
use Rattle.law_flat_code.proofs.Shared.Calling.{bodies_return}
use Rattle.law_flat_code.proofs.bodies_return.Goals as goal

pub returns : goal.returns
returns c = λ y reads. bodies_return y (told_by reads)
