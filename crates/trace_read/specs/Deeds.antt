-- What stands behind an event of a task in a list of events: the next event of the task, and the exit from the operation that it is inside; and
-- whether an object is passed. An event is named by its index: how many events stand before it.
use Rattle.std.specs.Prelude.{◌≡◌, ℕ, zero, suc, ◌<◌, ◌==◌, ◌||◌, Bool, false, List, [], ◌∷◌, drop, Option, Some, None, if◌then◌else◌}
use Rattle.trace_tree.specs.declared.event.Event as machine
use Rattle.trace_tree.specs.declared.event.Event.TheVariants as event
use Rattle.trace_read.specs.declared.deeds.Part.{Part}
use Rattle.trace_read.specs.declared.deeds.Part.TheVariants.{Other, Plain, Opens, Closes}

-- what an event is to a task
abbrev pub part_of : ℕ → machine.Event → Part
part_of task (event.Release time own value) = if own == task then Plain else Other
part_of task (event.Arrive time own value) = Other
part_of task (event.Enter time own unit op values) = if own == task then Opens else Other
part_of task (event.Leave time own unit op values) = if own == task then Closes else Other
part_of task (event.Request time own target value) = if own == task then Plain else Other
part_of task (event.Print time own value) = if own == task then Plain else Other
part_of task (event.End time own used) = if own == task then Plain else Other
part_of task (event.Stop time own unit priority ceiling) = if own == task then Plain else Other
part_of task (event.Horizon time) = Other

-- the task whose deed an event is; an arrival comes from outside, and the horizon is no deed
abbrev pub task_of : machine.Event → Option ℕ
task_of (event.Release time task value) = Some task
task_of (event.Arrive time task value) = None
task_of (event.Enter time task unit op values) = Some task
task_of (event.Leave time task unit op values) = Some task
task_of (event.Request time task target value) = Some task
task_of (event.Print time task value) = Some task
task_of (event.End time task used) = Some task
task_of (event.Stop time task unit priority ceiling) = Some task
task_of (event.Horizon time) = None

-- the task whose deed the first of these is
abbrev pub first_task : List machine.Event → Option ℕ
first_task [] = None
first_task (e ∷ es) = task_of e

-- these events from the first deed of a task on
abbrev pub own_by : Part → List machine.Event → List machine.Event → List machine.Event
own_by Other here more = more
own_by Plain here more = here
own_by Opens here more = here
own_by Closes here more = here

unfoldable pub from_own : ℕ → List machine.Event → List machine.Event
from_own task [] = []
from_own task (e ∷ es) = own_by (part_of task e) (e ∷ es) (from_own task es)

-- these events from the exit on by which a task leaves what it is inside, where it is inside so many operations more
abbrev pub exit_by : Part → ℕ → List machine.Event → (ℕ → List machine.Event) → List machine.Event
exit_by Other depth here more = more depth
exit_by Plain depth here more = more depth
exit_by Opens depth here more = more (suc depth)
exit_by Closes zero here more = here
exit_by Closes (suc depth) here more = more depth

unfoldable pub from_exit : ℕ → List machine.Event → ℕ → List machine.Event
from_exit task [] depth = []
from_exit task (e ∷ es) depth = exit_by (part_of task e) depth (e ∷ es) (from_exit task es)

-- whether an event enters or leaves an operation of the unit at a place, and whether one of these does
abbrev pub passes : ℕ → machine.Event → Bool
passes unit (event.Enter time task own op values) = own == unit
passes unit (event.Leave time task own op values) = own == unit
passes unit (event.Release time task value) = false
passes unit (event.Arrive time task value) = false
passes unit (event.Request time task target value) = false
passes unit (event.Print time task value) = false
passes unit (event.End time task used) = false
passes unit (event.Stop time task own priority ceiling) = false
passes unit (event.Horizon time) = false

unfoldable pub passed_in : ℕ → List machine.Event → Bool
passed_in unit [] = false
passed_in unit (e ∷ es) = passes unit e || passed_in unit es

-- the event at an index, and the index behind it; none where none is left
abbrev pub Reads : List machine.Event → (at behind : ℕ) → Option machine.Event → Type 0
Reads es at behind None = (drop at es ≡ []) × (behind ≡ at)
Reads es at behind (Some e) = (drop at es ≡ e ∷ drop behind es) × (behind ≡ suc at)

-- the first of these events, at which all events end, and its index, behind one at which a walk was; none where there are none
abbrev pub Reaches : (all these : List machine.Event) → (last index : ℕ) → Option machine.Event → Type 0
Reaches all these last index None = (these ≡ []) × (index ≡ last)
Reaches all these last index (Some e) = (drop index all ≡ these) × (these ≡ e ∷ drop (suc index) all) × (last < index)
