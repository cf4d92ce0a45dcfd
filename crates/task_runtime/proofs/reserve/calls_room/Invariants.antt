use Rattle.std.proofs.Common.{◌≤◌, ◌-◌, length}
use Rattle.task_runtime.specs.Reserving.{CallsFit}
use Rattle.task_runtime.proofs.reserve.calls_room.Given as goal

-- the room is enough for each call so far
abbrev pub invariant-instructions : goal.invariant-instructions
invariant-instructions l = record {
  from : l.fn.start ≤ l.at;
  fits : CallsFit l.fn.code l.room l.fn.start l.at;
}

abbrev pub decreases-instructions : goal.decreases-instructions
decreases-instructions l = length l.fn.code.code.ins.items - l.at
