-- What the unit at a place is in the software of a program: a thread, a protected object, or neither.
-- Places count from 0.
use Rattle.std.specs.Prelude.{ℕ, Option, option_and_then, slice_get}
use Rattle.ods_tree.specs.Flats.{Guarded}
use Rattle.ada_tree.specs.Programs.{Unit, Program}
use Rattle.guarantee.specs.Software.{Task, task_by, guarded_by}

-- the thread of a unit, where it has one
abbrev pub task_in : Unit → Option Task
task_in u = task_by u.name u.form

-- the protected object that a unit is, where it is one
abbrev pub guarded_in : Unit → Option Guarded
guarded_in u = guarded_by u.name u.form

-- the thread of the unit at a place
abbrev pub task_at : Program → ℕ → Option Task
task_at p unit = option_and_then task_in (slice_get p.units unit)

-- the protected object at a place
abbrev pub guarded_at : Program → ℕ → Option Guarded
guarded_at p unit = option_and_then guarded_in (slice_get p.units unit)
