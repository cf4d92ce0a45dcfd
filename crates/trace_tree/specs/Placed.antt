-- Which events are of a program: the places in them are places of its units and of their operations.
-- Places count from 0.
use Rattle.std.specs.Prelude.{ℕ, ◌<◌, length}
use Rattle.ada_tree.specs.Programs.{Program}
use Rattle.trace_tree.specs.Lines.{unit_ops}
use Rattle.trace_tree.specs.declared.event.Event.{Event}
use Rattle.trace_tree.specs.declared.event.Event.TheVariants.{Release, Arrive, Enter, Leave, Request, Print, End, Stop, Horizon}

-- whether a place is that of a unit
abbrev pub IsUnit : Program → ℕ → Type 0
IsUnit p unit = unit < length p.units

-- whether a place is that of an operation of a unit
abbrev pub IsOp : Program → ℕ → ℕ → Type 0
IsOp p unit op = op < length (unit_ops p unit)

-- whether the places in an event are in the program
abbrev pub IsPlaced : Program → Event → Type 0
IsPlaced p (Release time task value) = IsUnit p task
IsPlaced p (Arrive time task value) = IsUnit p task
IsPlaced p (Enter time task unit op values) = IsUnit p task × IsUnit p unit × IsOp p unit op
IsPlaced p (Leave time task unit op values) = IsUnit p task × IsUnit p unit × IsOp p unit op
IsPlaced p (Request time task target value) = IsUnit p task × IsUnit p target
IsPlaced p (Print time task value) = IsUnit p task
IsPlaced p (End time task used) = IsUnit p task
IsPlaced p (Stop time task unit priority ceiling) = IsUnit p task × IsUnit p unit
IsPlaced p (Horizon time) = Unit {0}
