use Rattle.task_runtime.proofs.Zeros.{zeros_all}
use Rattle.task_runtime.proofs.slots.Slots.new.Goals as goal

pub returns-clause-here : goal.returns-clause-here
returns-clause-here c = zeros_all c.args.count c.in_ok-values.values.items c.in_ok-values.ensures.items
