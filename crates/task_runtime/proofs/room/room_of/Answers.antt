use Rattle.std.proofs.Common.{arith}
use Rattle.std.proofs.lemmas.List.{length-map}
use Rattle.task_runtime.specs.Written.{params_of}
use Rattle.task_runtime.proofs.room.room_of.Goals as goal

pub returns : goal.returns
returns c =
    omega (
      arith,
      c.in_ok-calls.ensures c.args.thread.work.now,
      c.params_len.ensures,
      c.in_ok-checked_add.ensures,
      c.in_ok-own.ensures,
      c.in_ok-room.ensures,
      length-map (params_of c.args.thread) (λ q. q.name),
    )
