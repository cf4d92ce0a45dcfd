use Rattle.hrthood_top.proofs.Verified.{made-unfaulty}
use Rattle.hrthood_top.proofs.verify.read_made.Goals as goal

pub unreachable-requires : goal.unreachable-requires
unreachable-requires c =
    made-unfaulty c.requires.0 c.args.text.now c.in-Err-Text.field-0-0 c.requires.1 (rw c.in-Err-Text.field-0-is at c.in-Err-Text.ensures.says)
