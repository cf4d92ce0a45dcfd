-- How times stand after some events: what the check of times and order asks of those that follow.
-- Times are in ticks.
use Rattle.std.specs.Prelude.{ℕ, ◌==◌, Bool, false, ◌&&◌, List, nat_le, is_some, if◌then◌else◌}
use Rattle.ada_tree.specs.Programs.{Program}
use Rattle.trace_tree.specs.declared.event.Event as machine
use Rattle.trace_tree.specs.declared.event.Event.TheVariants as event
use Rattle.guarantee.specs.Software.{Task}
use Rattle.guarantee.specs.Events.{Event}
use Rattle.law_traces.specs.Checks.{in_order, is_nil}
use Rattle.law_trace_places.specs.Places.{task_at}
use Rattle.trace_checks.specs.declared.times.Times.{Times}
use Rattle.trace_checks.specs.declared.times.Times.TheVariants.{Running, Ended, Broken}

-- what is asked of the events that follow
abbrev pub in_order_by : List Task → ℕ → Times → List Event → Bool
in_order_by ts until (Running now) told = in_order ts until now told
in_order_by ts until Ended told = is_nil told
in_order_by ts until Broken told = false

-- behind an event of a task
abbrev pub acts : Program → ℕ → ℕ → ℕ → Times
acts p now time task = if nat_le now time && is_some (task_at p task) then Running time else Broken

-- behind the horizon
abbrev pub ends : ℕ → ℕ → ℕ → Times
ends until now time = if nat_le now time && (time == until) then Ended else Broken

-- behind an event
abbrev pub running_after : Program → ℕ → ℕ → machine.Event → Times
running_after p until now (event.Release time task value) = acts p now time task
running_after p until now (event.Arrive time task value) = acts p now time task
running_after p until now (event.Enter time task unit op values) = acts p now time task
running_after p until now (event.Leave time task unit op values) = acts p now time task
running_after p until now (event.Request time task target value) = acts p now time task
running_after p until now (event.Print time task value) = acts p now time task
running_after p until now (event.End time task used) = acts p now time task
running_after p until now (event.Stop time task unit priority ceiling) = Broken
running_after p until now (event.Horizon time) = ends until now time

abbrev pub times_after : Program → ℕ → Times → machine.Event → Times
times_after p until (Running now) e = running_after p until now e
times_after p until Ended e = Broken
times_after p until Broken e = Broken
