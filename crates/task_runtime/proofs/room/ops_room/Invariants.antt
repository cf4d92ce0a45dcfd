use Rattle.std.proofs.Common.{◌≡◌, ◌+◌, [], map, drop}
use Rattle.seq_tree.specs.Names.{Name}
use Rattle.seq_tree.specs.Trees.{operation_of}
use Rattle.task_runtime.specs.Callable.{ops_room}
use Rattle.task_runtime.proofs.room.ops_room.Given as goal

-- the room for the operations so far, and for those from here on
abbrev pub invariant-ops : goal.invariant-ops
invariant-ops l =
    (object : Name) → ops_room [] object l.«data» (map operation_of l.ops)
    ≡ l.room + ops_room [] object l.«data» (map operation_of (drop l.op-index l.ops))
