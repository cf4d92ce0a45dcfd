use Rattle.std.proofs.Common.{ap, sym, ◌∙◌, arith}
use Rattle.task_runtime.specs.Slotted.{with_zeros}
use Rattle.task_runtime.proofs.Zeros.{zero_more, zeros_none}
use Rattle.task_runtime.proofs.slots.fill.Goals as goal

pub slots-preserved : goal.slots-preserved
slots-preserved c =
    let i = c.slots.invariant in record {
      zeros = ap (with_zeros c.args.count) c.push_reserved.ensures.items
          ∙ zero_more c.args.count c.slots.written.items (omega (arith, c.slots-test.true, c.slots.written.ok.0)) ∙ i.zeros;
      room = c.push_reserved.ensures.capacity ∙ i.room;
    }

pub returns-clause-items : goal.returns-clause-items
returns-clause-items c =
    sym (zeros_none c.args.count c.slots.written.items (omega (arith, c.slots-test.false, c.slots.written.ok.0))) ∙ c.slots.invariant.zeros
