use Rattle.law_flat_code.specs.Codes.{told_by}
use Rattle.law_flat_code.proofs.Shared.Follows.{steps_block}
use Rattle.law_flat_code.proofs.instructions_follow.Goals as goal

pub returns : goal.returns
returns c = λ b reads. steps_block b (told_by reads)
