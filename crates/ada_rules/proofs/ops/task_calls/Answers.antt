use Rattle.std.proofs.Common.{List, flat_map, map, refl}
use Rattle.seq_cost.specs.Different.{call_of}
use Rattle.seq_tree.proofs.Shared.LoopSteps.{added_step}
use Rattle.ada_tree.specs.Trees.{unit_of}
use Rattle.ada_tree.specs.declared.program.Unit.{Unit}
use Rattle.ada_rules.specs.Offers.{unit_task_calls}
use Rattle.ada_rules.proofs.ops.task_calls.Goals as goal

pub units-preserved : goal.units-preserved
units-preserved c =
    added_step (λ (us : List Unit). flat_map unit_task_calls (map unit_of us)) (unit_task_calls (unit_of c.unit-item.result))
    c.args.units.now c.units.unit-index c.unit-item.result (map call_of c.units.calls.items) _ _
    (λ ys. refl) c.units-test.true c.unit-item.is c.in_ok-add_task_calls.ensures c.units.invariant
