use Rattle.law_flat_code.specs.Codes.{told_by}
use Rattle.law_flat_code.proofs.Shared.Going.{pieces_go_on}
use Rattle.law_flat_code.proofs.pieces_go_on.Goals as goal

pub returns : goal.returns
returns c = λ y reads. pieces_go_on y (told_by reads)
