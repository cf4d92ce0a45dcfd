use Rattle.std.proofs.Common.{arith}
use Rattle.ods_rules.proofs.verdict.judge_sizes.Goals as goal

pub new-requires-clause-before : goal.new-requires-clause-before
new-requires-clause-before c = λ lower low. c.requires.before lower (omega (arith, low))
