use Rattle.law_flat_code.proofs.Shared.Begins.{begins_within}
use Rattle.law_flat_code.proofs.blocks_begin.Goals as goal

pub returns : goal.returns
returns c = begins_within
