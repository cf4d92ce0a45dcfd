use Rattle.std.proofs.Common.{sym}
use Rattle.hrthood_top.proofs.replay.read_program.Goals as goal

pub returns-in-Ok-clause-says : goal.returns-in-Ok-clause-says
returns-in-Ok-clause-says c = record { accepts = c.in-Ok.ensures.says; alone = λ p accepts. sym (c.in-Ok.ensures.only p accepts) }
