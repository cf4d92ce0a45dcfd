use Rattle.task_runtime.specs.Written.{reserve}
use Rattle.task_runtime.proofs.Alongs.{Keeps, alone_left}
use Rattle.task_runtime.proofs.task.Task.go_alone.Given as goal

-- the turns so far
abbrev pub invariant-pieces : goal.invariant-pieces
invariant-pieces l = record { keeps : Keeps l.code l.costs l.limit l.from l.fn.self l.time l.self }

abbrev pub decreases-pieces : goal.decreases-pieces
decreases-pieces l = alone_left (reserve l.fn.self.progress.stack.thread) l.limit l.time l.self
