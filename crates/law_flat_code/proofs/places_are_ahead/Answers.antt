use Rattle.law_flat_code.specs.Codes.{told_by}
use Rattle.law_flat_code.proofs.Shared.Places.{within_ahead}
use Rattle.law_flat_code.proofs.places_are_ahead.Goals as goal

pub returns : goal.returns
returns c = λ b reads. within_ahead b (told_by reads)
