use Rattle.law_flat_code.specs.Codes.{told_by}
use Rattle.law_flat_code.proofs.Shared.Calling.{parts_pass}
use Rattle.law_flat_code.proofs.parts_pass.Goals as goal

pub returns : goal.returns
returns c = λ y reads. parts_pass y (told_by reads)
