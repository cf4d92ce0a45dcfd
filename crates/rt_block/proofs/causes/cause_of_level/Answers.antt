use Rattle.std.proofs.Common.{arith}
use Rattle.analysis.proofs.Shared.CostRanges.{blocking-cheap}
use Rattle.rt_block.specs.Known.{design}
use Rattle.rt_block.proofs.causes.cause_of_level.Goals as goal

pub cause_at-requires-clause-cheap : goal.cause_at-requires-clause-cheap
cause_at-requires-clause-cheap c =
    let most = blocking-cheap (design c.args.operations.now) c.requires.sound c.args.levels.now.priorities.now c.args.level in
    omega (arith, most, c.in_ok-ticks.ensures)
