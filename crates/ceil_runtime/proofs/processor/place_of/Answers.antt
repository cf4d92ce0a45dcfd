use Rattle.std.proofs.Common.{◌∙◌, ap, ◌+◌}
use Rattle.ceil_runtime.proofs.Arrived.{past-task}
use Rattle.ceil_runtime.proofs.processor.place_of.Goals as goal

pub tasks-preserved : goal.tasks-preserved
tasks-preserved c = record {
  place = ap (λ n. n + 1) c.tasks.invariant.place;
  others = past-task c.args.tasks.now c.tasks.task-index c.task-item.result c.args.unit c.tasks-test.true c.task-item.is c.if-task-unit.false ∙
      c.tasks.invariant.others;
}
