use Rattle.task_runtime.proofs.Zeros.{left_away, left_here}
use Rattle.task_runtime.proofs.slots.Slots.leave.Goals as goal

pub returns-clause-here : goal.returns-clause-here
returns-clause-here c =
    let t = c.self.inside in
    let i = c.self.invariant in
    left_here t.base t.count t.values.items c.args.self.now c.self.view_is i.0 i.1 c.args.count

pub returns-clause-away : goal.returns-clause-away
returns-clause-away c =
    let t = c.self.inside in
    let i = c.self.invariant in
    left_away t.base t.count t.values.items c.args.self.now c.self.view_is i.0 i.1 c.args.count
