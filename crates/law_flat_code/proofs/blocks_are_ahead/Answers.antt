use Rattle.law_flat_code.specs.Codes.{told_by}
use Rattle.law_flat_code.proofs.Shared.Entering.{block_is_ahead}
use Rattle.law_flat_code.proofs.blocks_are_ahead.Goals as goal

pub returns : goal.returns
returns c = λ reads. block_is_ahead (told_by reads)
