-- What a step of a machine comes to: which event it tells, and how many steps may still follow in the instant.
-- Each step that tells nothing is followed by fewer such steps.
use Rattle.std.specs.Prelude.{◌≡◌, ◌⊎◌, ℕ, ◌+◌, ◌-◌, ◌*◌, ◌<◌, true, false, List, [], ◌∷◌, length, map, Option, Some, slice_get, ⊤}
use Rattle.arrivals_tree.specs.declared.arrivals.Arrival.{Arrival}
use Rattle.trace_tree.specs.declared.event.Event.{Event}
use Rattle.trace_tree.specs.declared.event.Event.TheVariants as event
use Rattle.machine.specs.Systems.{ProtectedUnit}
use Rattle.task_runtime.specs.Written.{system_of}
use Rattle.ceil_runtime.specs.Processing.{Follows}
use Rattle.ceil_runtime.specs.Left.{Falls, ran_effort}
use Rattle.ceil_runtime.specs.Shown.{snapshot_of}
use Rattle.ceil_runtime.specs.Snapshots.{IsWholeAt, Snapshot, running_at, system_at}
use Rattle.task_runtime.specs.Effort.{most_ends}
use Rattle.task_runtime.specs.Tasks.{task_of}
use Rattle.task_runtime.specs.declared.task.Task.{Task}
use Rattle.ceil_runtime.specs.declared.processor.Phase.{Phase}
use Rattle.ceil_runtime.specs.declared.processor.Phase.TheVariants.{Effects, Delays, Arriving, Use}
use Rattle.ceil_runtime.specs.declared.processor.Machine.{Machine}

-- the steps that an instant may still have, by its part
abbrev pub steps_in : ℕ → Phase → List Task → Option ℕ → ℕ
steps_in most (Effects running) tasks ran = 3 + ran_effort most (map task_of tasks) ran
steps_in most Delays tasks ran = 2
steps_in most Arriving tasks ran = 1
steps_in most Use tasks ran = 0

-- the number that falls with each step that tells nothing
abbrev pub steps_by : List Arrival → ℕ → ℕ → ℕ → Phase → List Task → Option ℕ → ℕ
steps_by arrivals most until time phase tasks ran = (until - time) * (most + 4) + steps_in most phase tasks ran + length arrivals

abbrev pub steps_left : Snapshot → ℕ
steps_left s = steps_by s.arrivals (most_ends (system_at s)) s.until s.time s.phase s.tasks s.ran

-- what a step tells
pub data Told : Type 0 where
  Nothing : Told
  One : (event : Event) → Told
  Two : (first second : Event) → Told

-- its events
abbrev pub told_of : Told → List Event
told_of Nothing = []
told_of (One e) = e ∷ []
told_of (Two e f) = e ∷ f ∷ []

-- a step that tells nothing is followed by fewer such steps
abbrev pub IsNear : Told → Snapshot → Snapshot → Type 0
IsNear Nothing s s' = steps_left s' < steps_left s
IsNear (One e) s s' = ⊤
IsNear (Two e f) s s' = ⊤

-- an event of a run that goes on
abbrev pub GoesOn : Event → Type 0
GoesOn (event.Release time task value) = ⊤
GoesOn (event.Arrive time task value) = ⊤
GoesOn (event.End time task used) = ⊤
GoesOn (event.Print time task value) = ⊤
GoesOn (event.Enter time task unit op values) = ⊤
GoesOn (event.Leave time task unit op values) = ⊤
GoesOn (event.Request time task target value) = ⊤
GoesOn _ = ⊥

-- a run stops at the horizon, and not before
abbrev pub EndsAt : Event → Snapshot → Type 0
EndsAt (event.Horizon time) s = (time ≡ s.time) × (s.stopped ≡ true)
EndsAt (event.Stop time task unit priority ceiling) s = s.stopped ≡ true
EndsAt e s = GoesOn e × (s.stopped ≡ false)

abbrev pub Ends : Told → Snapshot → Type 0
Ends Nothing s = s.stopped ≡ false
Ends (One e) s = EndsAt e s
Ends (Two e f) s = GoesOn e × GoesOn f × (s.stopped ≡ false)

-- a task of this unit
pub record HasUnit (tasks : List Task) (unit : ℕ) : Type 0 where
  pub place : ℕ
  pub task : Task
  pub here : slice_get tasks place ≡ Some task
  pub is_unit : unit ≡ task.progress.stack.thread.unit

-- an operation of a protected object of this unit, and the unit alone: the object is one that the tasks' calls may lead to
pub record HasOp (tasks : List Task) (unit op : ℕ) : Type 0 where
  pub place : ℕ
  pub task : Task
  pub here : slice_get tasks place ≡ Some task
  pub object : ℕ
  pub entered : ProtectedUnit
  pub at : slice_get (system_of task.progress.stack.thread).objects object ≡ Some entered
  pub is_unit : unit ≡ entered.unit
  pub is_op : op < length entered.ops

pub record HasObject (tasks : List Task) (unit : ℕ) : Type 0 where
  pub place : ℕ
  pub task : Task
  pub here : slice_get tasks place ≡ Some task
  pub object : ℕ
  pub entered : ProtectedUnit
  pub at : slice_get (system_of task.progress.stack.thread).objects object ≡ Some entered
  pub is_unit : unit ≡ entered.unit

-- an event is of a task of the processor; the horizon is of none
abbrev pub IsOfTask : List Task → Event → Type 0
IsOfTask tasks (event.Horizon time) = ⊤
IsOfTask tasks (event.Release time task value) = HasUnit tasks task
IsOfTask tasks (event.Arrive time task value) = HasUnit tasks task
IsOfTask tasks (event.End time task used) = HasUnit tasks task
IsOfTask tasks (event.Print time task value) = HasUnit tasks task
IsOfTask tasks (event.Enter time task unit op values) = HasUnit tasks task × HasOp tasks unit op
IsOfTask tasks (event.Leave time task unit op values) = HasUnit tasks task × HasOp tasks unit op
IsOfTask tasks (event.Request time task target value) = HasUnit tasks task × HasUnit tasks target
IsOfTask tasks (event.Stop time task unit priority ceiling) = HasUnit tasks task × (HasObject tasks unit ⊎ HasUnit tasks unit)

abbrev pub AreOfTask : List Task → Told → Type 0
AreOfTask tasks Nothing = ⊤
AreOfTask tasks (One e) = IsOfTask tasks e
AreOfTask tasks (Two e f) = IsOfTask tasks e × IsOfTask tasks f

-- a machine that has stopped, and is else as it was
abbrev pub HasStopped : Machine → Machine → Type 0
HasStopped m m' = snapshot_of m' ≡ record (snapshot_of m) { stopped = true }

-- a step from a processor that runs to another, and what it tells
pub record Steps (s : Snapshot) (told : Told) (s' : Snapshot) : Type 0 where
  pub whole : s'.stopped ≡ false → IsWholeAt s'
  pub follows : Follows (running_at s) (told_of told) (running_at s')
  pub ends : Ends told s'
  pub nears : IsNear told s s'
  pub of : AreOfTask s.tasks told
  pub falls : Falls (running_at s) (told_of told) (running_at s')

-- the same, by the events that it tells
abbrev pub StepsTelling : Snapshot → List Event → Snapshot → Type 0
StepsTelling s events s' = (told : Told) × (events ≡ told_of told) × Steps s told s'

-- the same of machines
abbrev pub IsStep : Machine → List Event → Machine → Type 0
IsStep m events m' = StepsTelling (snapshot_of m) events (snapshot_of m')

-- a processor before an arrival was taken
abbrev pub before_arrival : Arrival → Snapshot → Snapshot
before_arrival a s = record s { arrivals = a ∷ s.arrivals }
