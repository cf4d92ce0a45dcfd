use Rattle.task_runtime.specs.Lefts.{vars_left}
use Rattle.task_runtime.proofs.After.{stands_as}
use Rattle.task_runtime.proofs.Doing.{acts_as}
use Rattle.task_runtime.proofs.task.Task.deed.Goals as goal

pub returns-clause-acts : goal.returns-clause-acts
returns-clause-acts c = λ p rest first y alike.
    let q = c.args.self.now.progress in
    acts_as c.args.code.now q.stack y alike (vars_left q) c.args.piece p rest
    (stands_as c.args.code.now q c.requires.at_work c.args.piece c.requires.piece p rest first) c.deed.result c.deed.ensures
