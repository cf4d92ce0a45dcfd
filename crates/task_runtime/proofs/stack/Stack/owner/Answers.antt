use Rattle.task_runtime.proofs.Sizes.{owner_bare, owner_called}
use Rattle.task_runtime.proofs.stack.Stack.owner.Goals as goal

pub returns-in-Some : goal.returns-in-Some
returns-in-Some c =
    let cases = c.in-Some.ensures in
    owner_called c.args.self.now cases.0 c.in-Some.frame cases.1

pub returns-in-None : goal.returns-in-None
returns-in-None c = owner_bare c.args.self.now c.in-None.ensures
