-- The processor over many tasks: what it stands for, and what always holds of it.
-- Order numbers are not kept: a ready task's number is its place in the order of dispatch, from 1, and that of any other task is 0.
use Rattle.std.specs.Prelude.{◌≡◌, ◌⊎◌, ℕ, ◌+◌, ◌<◌, ◌≤◌, ◌^◌, Bool, true, false, ◌++◌, List, [], ◌∷◌, map, length, min, Option, Some, None}
use Rattle.std.specs.Prelude.{slice_get, ⊤}
use Rattle.seq_tree.specs.Variables.{Variables}
use Rattle.seq_tree.specs.declared.tree.Costs.{Costs}
use Rattle.ada_tree.specs.Trees.{unit_of}
use Rattle.ada_tree.specs.declared.program.Unit as units
use Rattle.arrivals_tree.specs.declared.arrivals.Arrival.{Arrival}
use Rattle.trace_tree.specs.declared.event.Event.{Event}
use Rattle.link_queue.specs.Queues.{Entry, Each, Queues, at_head}
use Rattle.machine.specs.Systems.{System, libraries_from, objects_from}
use Rattle.machine.specs.States as states
use Rattle.machine.specs.Meanings.{Running, Rest}
use Rattle.law_dispatching.specs.Queueing.{AreQueued, AreSleeping, places}
use Rattle.task_runtime.specs.Libraries.{no_costs}
use Rattle.task_runtime.specs.Readies.{is_ready}
use Rattle.task_runtime.specs.Works.{IsNested}
use Rattle.task_runtime.specs.Tasks.{task_of}
use Rattle.task_runtime.specs.Written.{system_of, thread_of}
use Rattle.task_runtime.specs.declared.task.Task.{Task}
use Rattle.task_runtime.specs.declared.piece.Piece.{Piece}
use Rattle.ceil_runtime.specs.Reaching.{IsReached}
use Rattle.ceil_runtime.specs.declared.processor.Phase.{Phase}
use Rattle.ceil_runtime.specs.declared.processor.Phase.TheVariants.{Effects, Delays, Arriving, Use}

-- the part of an instant
abbrev pub phase_of : Phase → states.Phase
phase_of (Effects running) = states.Effects
phase_of Delays = states.Delays
phase_of Arriving = states.Arriving
phase_of Use = states.Use

-- what is told from here is this, and then what is told from there; both are runs of one system, and there is reached where here is
pub record Follows (r : Running) (told : List Event) (r' : Running) : Type 0 where
  pub system : r'.system ≡ r.system
  pub tells : (rest : List Event) → Rest r.system r'.state rest → Rest r.system r.state (told ++ rest)
  pub reaches : IsReached r.system r.state → IsReached r.system r'.state

-- what runs
abbrev pub system_by : ℕ → Costs → List units.Unit → List Task → System
system_by until costs us tasks = record {
  until = until;
  costs = costs;
  libraries = libraries_from 0 (map unit_of us);
  objects = objects_from 0 (map unit_of us);
  threads = map (λ t. thread_of t.progress.stack.thread) tasks;
}

-- a ready list with a task that is not in it: it goes before the others of its active priority
abbrev pub with_task : ℕ → Option Task → List Entry → List Entry
with_task i None ready = ready
with_task i (Some t) ready = at_head (i, (task_of t).active) ready

-- the ready tasks in order of dispatch; the task that has effects is not in the ready list
abbrev pub order_of : Phase → List Task → List Entry → List Entry
order_of (Effects None) tasks ready = ready
order_of (Effects (Some i)) tasks ready = with_task i (slice_get tasks i) ready
order_of Delays tasks ready = ready
order_of Arriving tasks ready = ready
order_of Use tasks ready = ready

-- where it stands
abbrev pub state_by : List Variables → List Arrival → ℕ → Phase → Option ℕ → Bool → List Task → List Entry → states.State
state_by stores arrivals time phase ran stopped tasks ready = record {
  time = time;
  phase = phase_of phase;
  ran = ran;
  arrivals = arrivals;
  stopped = stopped;
  tasks = map task_of tasks;
  orders = places (length tasks) (order_of phase tasks ready);
  stores = stores;
}

-- what is kept of each task: its counts are small, it is of these units, and it is inside so many sections as it is still to leave
pub record IsKept (until time : ℕ) (us : List units.Unit) (t : Task) : Type 0 where
  pub used : t.used ≤ time
  pub works : t.works ≤ time + min t.left 1
  pub next : t.next ≤ until + 2 ^ 33
  pub units : t.progress.stack.thread.units.now ≡ us
  pub idle : is_ready t.readiness ≡ false → t.left ≡ 0
  pub nested : IsNested (task_of t)

abbrev pub AllTasks : (Task → Type 0) → List Task → Type 0
AllTasks P tasks = (i : ℕ) (t : Task) → slice_get tasks i ≡ Some t → P t

-- the task that used the tick before has no effect any more: its activation has ended, or its piece has ticks left
abbrev pub HasNoEffect : Option ℕ → List Task → Type 0
HasNoEffect None tasks = ⊤
HasNoEffect (Some i) tasks = (i < length tasks) × ((t : Task) → slice_get tasks i ≡ Some t → is_ready t.readiness ≡ true → t.left ≡ 0 → ⊥)

-- the task that has effects is the one that used the tick before
abbrev pub IsRunning : Option ℕ → Option ℕ → List Task → Type 0
IsRunning None ran tasks = HasNoEffect ran tasks
IsRunning (Some i) ran tasks = (ran ≡ Some i) × (i < length tasks)

-- what holds in a part of an instant
abbrev pub HoldsIn : Phase → ℕ → ℕ → Option ℕ → List Task → Queues → Type 0
HoldsIn (Effects running) until time ran tasks q = IsRunning running ran tasks
HoldsIn Delays until time ran tasks q = ⊤
HoldsIn Arriving until time ran tasks q = Each (λ e. time < e.1) q.asleep
HoldsIn Use until time ran tasks q = (time < until) × Each (λ e. time < e.1) q.asleep

-- the units that each task's calls may lead to are those that run
abbrev pub AreAlike : List units.Unit → List Task → Type 0
AreAlike us tasks = AllTasks (λ t. system_of t.progress.stack.thread ≡ system_by 0 no_costs us tasks) tasks

-- what always holds of a processor's fields
pub record IsSound (until time : ℕ) (phase : Phase) (ran : Option ℕ) (us : List units.Unit) (tasks : List Task) (q : Queues) : Type 0 where
  pub size : q.size ≡ length tasks
  pub queued : AreQueued (map task_of tasks) (places (length tasks) (order_of phase tasks q.ready)) (order_of phase tasks q.ready)
  pub sleeping : AreSleeping (map task_of tasks) time q.asleep
  pub kept : AllTasks (IsKept until time us) tasks
  pub calls : AreAlike us tasks
  pub here : HoldsIn phase until time ran tasks q
  pub near : until < 2 ^ 32
  pub few : length tasks < 2 ^ 32
  pub in_time : time ≤ until

-- so many ticks are at most those left of the first ready task's piece, or one
abbrev pub IsWithin : List Task → List Entry → ℕ → Type 0
IsWithin tasks [] n = ⊤
IsWithin tasks (e ∷ es) n = (t : Task) → slice_get tasks e.0 ≡ Some t → (n ≡ 1) ⊎ (n ≤ t.left)

-- no task of a ready list goes before one of this active priority that is put before its equals
abbrev pub IsBelow : ℕ → List Entry → Type 0
IsBelow active [] = ⊤
IsBelow active (e ∷ es) = e.1 ≤ active

-- the task at this place is ready, and the ticks of its piece are used
abbrev pub HasPiece : List Task → ℕ → Piece → Type 0
HasPiece tasks i p = (t : Task) → slice_get tasks i ≡ Some t → (t.progress.piece ≡ Some p) × (is_ready t.readiness ≡ true) × (t.left ≡ 0)

-- the task at this place has no piece whose ticks are used
abbrev pub HasNoPiece : List Task → ℕ → Type 0
HasNoPiece tasks i = (t : Task) → slice_get tasks i ≡ Some t → (t.progress.piece ≡ None) ⊎ (t.left ≡ 0 → ⊥)

-- the piece of the task at this place, where its ticks are used
abbrev pub IsDue : List Task → ℕ → Option Piece → Type 0
IsDue tasks i None = HasNoPiece tasks i
IsDue tasks i (Some p) = HasPiece tasks i p
