-- The room for the calls of units, counted one unit after another.
use Rattle.std.proofs.Common.{ℕ, ◌+◌, List, []}
use Rattle.ada_tree.specs.Programs.{Unit}
use Rattle.task_runtime.specs.Callable.{libraries_room, objects_room}
use Rattle.machine.specs.Systems.{libraries_from, objects_from}

-- the room for the calls of units that are counted from this number on
abbrev pub room_from : ℕ → List Unit → ℕ
room_from n us = libraries_room [] (libraries_from n us) + objects_room [] (objects_from n us)
