-- A task at work over linked code: what it stands for, and what its first piece reaches.
use Rattle.std.specs.Prelude.{◌≡◌, ℕ, true, List, [], ◌∷◌}
use Rattle.seq_tree.specs.Variables.{Variables, written}
use Rattle.machine.specs.Systems.{System}
use Rattle.machine.specs.Pieces.{Piece}
use Rattle.machine.specs.Deeds as deeds
use Rattle.machine.specs.Deeds.{done}
use Rattle.machine.specs.States as states
use Rattle.machine.specs.States.{first_time, first_wait, shut}
use Rattle.task_runtime.specs.Callable.{CallsAlike}
use Rattle.task_runtime.specs.Doing.{is_own}
use Rattle.task_runtime.specs.Insides.{inside_of}
use Rattle.task_runtime.specs.Readies.{gate_of, readiness_of}
use Rattle.task_runtime.specs.Written.{thread_of, timing_of}
use Rattle.task_runtime.specs.declared.thread.Thread.{Thread}
use Rattle.task_runtime.specs.Lefts.{pieces_left, vars_left}
use Rattle.task_runtime.specs.declared.piece.Deed.{Deed}
use Rattle.task_runtime.specs.declared.piece.Deed.TheVariants as to
use Rattle.task_runtime.specs.declared.task.Task.{Task}

-- the task
abbrev pub task_of : Task → states.Task
task_of t = record {
  thread = thread_of t.progress.stack.thread;
  readiness = readiness_of t.readiness t.next;
  active = t.active;
  next = t.next;
  vars = vars_left t.progress;
  pieces = pieces_left t.progress;
  left = t.left;
  used = t.used;
  works = t.works;
  inside = inside_of t.inside.items;
  gate = gate_of t.gate;
}

-- a task before its first activation
pub record IsFresh (t : Task) (th : Thread) : Type 0 where
  pub thread : t.progress.stack.thread ≡ th
  pub vars : vars_left t.progress ≡ written th.«data».now
  pub pieces : pieces_left t.progress ≡ []
  pub rests : readiness_of t.readiness (first_time (timing_of th.timing)) ≡ first_wait (timing_of th.timing)
  pub next : t.next ≡ first_time (timing_of th.timing)
  pub left : t.left ≡ 0
  pub used : t.used ≡ 0
  pub works : t.works ≡ 0
  pub gate : gate_of t.gate ≡ shut
  pub active : t.active ≡ th.priority
  pub inside : t.inside.items ≡ []

-- the act of a piece, by what it reaches
abbrev pub IsActOf : Deed → deeds.Act → Type 0
IsActOf to.Own act = is_own act ≡ true
IsActOf (to.Enter e) act = (values : List ℕ) × (act ≡ deeds.Enter e.object e.place values)
IsActOf (to.Leave e) act = (values : List ℕ) × (data' : Variables) × (act ≡ deeds.Leave e.object e.place values data')
IsActOf (to.Ask task) act = act ≡ deeds.Ask task

-- the act of a task's first piece, by what the piece reaches
abbrev pub ActsAs : System → states.Task → Deed → Type 0
ActsAs z t reached = (p : Piece) (rest : List Piece) → t.pieces ≡ p ∷ rest → (y : System) → CallsAlike y z
    → IsActOf reached (done y p t.vars rest).act
