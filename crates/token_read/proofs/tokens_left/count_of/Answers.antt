use Rattle.token_read.proofs.Shared.BehindSteps.{whole-plain}
use Rattle.token_read.proofs.tokens_left.count_of.Goals as goal

pub returns-in-Some-clause-gives : goal.returns-in-Some-clause-gives
returns-in-Some-clause-gives c = whole-plain c.args.bytes.now c.in-Some.ensures.whole
