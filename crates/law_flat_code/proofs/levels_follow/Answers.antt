use Rattle.law_flat_code.specs.Codes.{told_by}
use Rattle.law_flat_code.proofs.Shared.Follows.{levels_block}
use Rattle.law_flat_code.proofs.levels_follow.Goals as goal

pub returns : goal.returns
returns c = λ b reads. levels_block b (told_by reads)
