use Rattle.std.proofs.Common.{◌≡◌, ℕ, ◌+◌, map, drop}
use Rattle.ada_tree.specs.Trees.{unit_of}
use Rattle.task_runtime.proofs.Rooms.{room_from}
use Rattle.task_runtime.proofs.room.calls_room.Given as goal

-- the room for the units so far, and for those from here on
abbrev pub invariant-units : goal.invariant-units
invariant-units l = (n : ℕ) → room_from n (map unit_of l.units) ≡ l.room + room_from (n + l.unit-index) (map unit_of (drop l.unit-index l.units))
