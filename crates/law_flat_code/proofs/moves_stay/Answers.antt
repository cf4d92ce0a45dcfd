use Rattle.law_flat_code.specs.Codes.{told_by}
use Rattle.law_flat_code.proofs.Shared.Moves.{stays_within}
use Rattle.law_flat_code.proofs.moves_stay.Goals as goal

pub returns : goal.returns
returns c = λ b reads. stays_within b (told_by reads)
