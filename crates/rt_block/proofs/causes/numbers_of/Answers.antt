use Rattle.std.proofs.Common.{ap, length, arith}
use Rattle.rt_block.specs.Causes.{cause_numbers}
use Rattle.rt_block.proofs.CauseSteps.{many-next, numbers-next}
use Rattle.rt_block.proofs.causes.numbers_of.Goals as goal

pub operations-preserved : goal.operations-preserved
operations-preserved c =
    let left = ap length c.in-Some.ensures.cases.0 in
    let right = ap length c.in-Some-split_first.ensures.cases.0 in
    record {
      numbers = rw c.in_ok-push.ensures.items
          (numbers-next c.args.level c.args.ticks c.in-Some.ceiling.now c.in-Some-split_first.section.now c.number_of.result c.operations.numbers.items
          c.in-Some.more_ceilings.now c.in-Some-split_first.more_sections.now c.operations.ceilings.now c.operations.sections.now
          (cause_numbers c.args.level c.args.ticks c.args.ceilings.now c.args.sections.now) c.in-Some.ensures.cases.0
          c.in-Some-split_first.ensures.cases.0 c.operations.invariant.same c.number_of.ensures c.operations.invariant.numbers);
      same = omega (arith, left, right, c.operations.invariant.same);
      many = many-next c.number_of.result c.in-Some.ceiling.now (length c.args.ceilings.now) c.push.new.self.items c.operations.numbers.items
          c.in-Some.more_ceilings.now c.operations.ceilings.now c.in_ok-push.ensures.items c.in-Some.ensures.cases.0 c.operations.invariant.many;
      few = c.operations.invariant.few;
    }
