-- The arrivals that are due after some events, where all that came were as they should be.
-- An arrival behind the horizon isn't due.
use Rattle.std.specs.Prelude.{ℕ, ◌==◌, ◌&&◌, Bool, true, false, List, [], ◌∷◌, map, nat_le, Option, Some, None, if◌then◌else◌}
use Rattle.ada_tree.specs.Programs.{Program}
use Rattle.arrivals_tree.specs.declared.arrivals.Arrival as code
use Rattle.trace_tree.specs.Lines.{unit_name}
use Rattle.trace_tree.specs.declared.event.Event as machine
use Rattle.trace_tree.specs.declared.event.Event.TheVariants as event
use Rattle.guarantee.specs.Arrivals.{Arrival}
use Rattle.guarantee.specs.Events.{Event}
use Rattle.law_walks.specs.Walks.{same_value}
use Rattle.law_traces.specs.Checks.{are_told}

-- an arrival by names
abbrev pub named_arrival : Program → code.Arrival → Arrival
named_arrival p a = record { time = a.time; task = unit_name p a.task; value = a.value }

-- those behind the first, where it is at this time, of this task and with this value
abbrev pub comes_by : code.Arrival → List code.Arrival → ℕ → ℕ → Option ℕ → Option (List code.Arrival)
comes_by a more time task value = if (time == a.time) && (task == a.task) && same_value value a.value then Some more else None

-- behind an arrival
abbrev pub due_after : ℕ → List code.Arrival → ℕ → ℕ → Option ℕ → Option (List code.Arrival)
due_after until [] time task value = None
due_after until (a ∷ more) time task value =
    if nat_le a.time until then comes_by a more time task value else due_after until more time task value

abbrev pub due_from : ℕ → Option (List code.Arrival) → ℕ → ℕ → Option ℕ → Option (List code.Arrival)
due_from until None time task value = None
due_from until (Some due) time task value = due_after until due time task value

-- behind an event
abbrev pub due_behind : ℕ → Option (List code.Arrival) → machine.Event → Option (List code.Arrival)
due_behind until due (event.Arrive time task value) = due_from until due time task value
due_behind until due _ = due

-- whether none is due up to the horizon
abbrev pub is_over : ℕ → List code.Arrival → Bool
is_over until [] = true
is_over until (a ∷ more) = if nat_le a.time until then false else is_over until more

-- what is asked of the events that follow
abbrev pub arrived_by : Program → ℕ → Option (List code.Arrival) → List Event → Bool
arrived_by p until None told = false
arrived_by p until (Some due) told = are_told until (map (named_arrival p) due) told
