-- The state of the processor between two steps.
-- Active priorities are those of ISO/IEC 8652:2012, D.1; a task holds an object from its entry to its exit (D.3).
use Rattle.std.specs.Prelude.{ℕ, Bool, false, List, [], map, length, replicate, Option, None, ℤ, pos}
use Rattle.seq_tree.specs.Variables.{Variables, written}
use Rattle.arrivals_tree.specs.declared.arrivals.Arrival.{Arrival}
use Rattle.machine.specs.Systems.{System, TaskUnit, ReleasePattern, Periodic, Requested}
use Rattle.machine.specs.Pieces.{Piece}

-- the parts of an instant, in order
pub data Phase : Type 0 where
  Effects Delays Arriving Use : Phase

-- whether a task can run
pub data Readiness : Type 0 where
  Asleep : (until : ℕ) → Readiness
  Waiting : Readiness
  Ready : Readiness

-- what a task is inside: a protected object, or the control structure of a task
pub data Resource : Type 0 where
  Object : (object : ℕ) → Resource
  Control : (task : ℕ) → Resource

-- a section that a task is inside, and its active priority before
pub record Held : Type 0 where
  pub section : Resource
  pub before : ℕ

-- the control structure of a sporadic task: the value kept, and whether it is open
pub record Gate : Type 0 where
  pub value : Option ℕ
  pub open' : Bool

-- a task
pub record Task : Type 0 where
  -- as it is written, with its base priority
  pub thread : TaskUnit
  pub readiness : Readiness
  -- the active priority
  pub active : ℕ
  -- the nominal time of the next release
  pub next : ℕ
  pub vars : Variables
  -- the pieces left, and the ticks left of the first of them
  pub pieces : List Piece
  pub left : ℕ
  -- the ticks used since the release
  pub used : ℕ
  -- the number of `work` statements started
  pub works : ℕ
  -- the sections that it is inside, the innermost first
  pub inside : List Held
  pub gate : Gate

-- the state
pub record State : Type 0 where
  pub time : ℕ
  pub phase : Phase
  -- the task that used the tick before
  pub ran : Option ℕ
  -- the arrivals left
  pub arrivals : List Arrival
  pub stopped : Bool
  pub tasks : List Task
  -- the order number of each task
  pub orders : List ℤ
  -- the data of each protected object; while a task is inside, it has them among its variables
  pub stores : List Variables

-- the control structure without a request
abbrev pub shut : Gate
shut = record { value = None; open' = false }

-- whether a task sleeps or waits first
abbrev pub first_wait : ReleasePattern → Readiness
first_wait (Periodic offset period) = Asleep offset
first_wait (Requested op ceiling separation jitter external) = Waiting

-- the first nominal time
abbrev pub first_time : ReleasePattern → ℕ
first_time (Periodic offset period) = offset
first_time (Requested op ceiling separation jitter external) = 0

-- a task at the opening
abbrev pub first_task : TaskUnit → Task
first_task t = record {
  thread = t;
  readiness = first_wait t.timing;
  active = t.priority;
  next = first_time t.timing;
  vars = written t.vars;
  pieces = [];
  left = 0;
  used = 0;
  works = 0;
  inside = [];
  gate = shut;
}

-- the opening
abbrev pub opening : System → List Arrival → State
opening y arrivals' = record {
  time = 0;
  phase = Effects;
  ran = None;
  arrivals = arrivals';
  stopped = false;
  tasks = map first_task y.threads;
  orders = replicate (length y.threads) (pos 0);
  stores = map (λ g. written g.vars) y.objects;
}
