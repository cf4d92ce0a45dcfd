use Rattle.std.proofs.Common.{◌+◌, arith}
use Rattle.task_runtime.proofs.Places.{place_there}
use Rattle.task_runtime.proofs.progress.Progress.go_on.Goals as goal

pub overflow_add-at : goal.overflow_add-at
overflow_add-at c =
    let lt = place_there c.args.code.now c.args.self.now.stack c.requires.stacked (c.args.self.now.at + 1) c.requires.amid in
    let long = c.args.code.now.code.ins.ok.0 in
    omega (arith, lt, long)
