-- What is claimed of a state and of what is told from it on: each thread lives as its block says, and each object serves one by one.
use Rattle.std.specs.Prelude.{◌≡◌, ◌⊎◌, ℕ, zero, suc, ◌+◌, ◌≤◌, true, List, [], ◌∷◌, ◌++◌, map, Some, slice_get, unwrap_or}
use Rattle.seq_tree.specs.Names.{Name, same_name}
use Rattle.seq_tree.specs.Operations.{Operation}
use Rattle.seq_tree.specs.Variables.{Variables, kept}
use Rattle.seq_tree.specs.Runs.{Path}
use Rattle.seq_tree.specs.declared.tree.OpName.{OpName}
use Rattle.ada_tree.specs.Programs.{Program}
use Rattle.trace_tree.specs.Lines.{unit_name}
use Rattle.ods_tree.specs.Flats as flats
use Rattle.ods_tree.specs.Walk.{only_if}
use Rattle.machine.specs.Systems.{System, TaskUnit, ProtectedUnit, ReleasePattern, Periodic, Requested, Protected, callee, system}
use Rattle.machine.specs.Pieces.{Piece}
use Rattle.machine.specs.States.{Task, Resource, Object, Control}
use Rattle.guarantee.specs.Software.{Software, program_software}
use Rattle.guarantee.specs.Software as software
use Rattle.guarantee.specs.Events.{Deed, Event, By}
use Rattle.guarantee.specs.Events as names
use Rattle.guarantee.specs.Steps.{Moment, Step, steps_of}
use Rattle.guarantee.specs.Passages.{Passage, Out, passages, AreOneByOne, IsOpOf}
use Rattle.law_written.proofs.Groups.{Life}
use Rattle.arrivals_tree.specs.Arriving.{Arrivals}
use Rattle.law_tasks.proofs.Shared.Courses.{IsTicks}
use Rattle.law_tasks.proofs.Shared.Programs.{course, entry_name}
use Rattle.law_tasks.proofs.Shared.Ways.{Claim, Ahead, Within}
use Rattle.law_ceilings.specs.Sections.{sections}

-- the task of a thread, and the object of an object, as the texts have them
abbrev pub timing_at : ReleasePattern → flats.Timing
timing_at (Periodic offset period) = flats.Cyclic period offset
timing_at (Requested op ceiling separation jitter external) = flats.Sporadic op separation (only_if external jitter)

abbrev pub task_at : TaskUnit → software.Task
task_at th = record { name = th.name; timing = timing_at th.timing; vars = th.vars; block = th.block }

abbrev pub guarded_at : ProtectedUnit → flats.Guarded
guarded_at g = record { name = g.name; vars = g.vars; ops = g.ops }

-- names that tell tasks and objects apart, and are those of the software
pub record Naming (p : Program) (y : System) (w : Software) : Type 0 where
  pub finish : w.costs.finish ≡ y.costs.finish
  pub tasks : w.tasks ≡ map task_at y.threads
  pub shared : w.shared ≡ map guarded_at y.objects
  pub thread_name : (k : ℕ) (th : TaskUnit) → slice_get y.threads k ≡ Some th → unit_name p th.unit ≡ th.name
  pub object_name : (j : ℕ) (g : ProtectedUnit) → slice_get y.objects j ≡ Some g → unit_name p g.unit ≡ g.name
  pub threads_apart : (j k : ℕ) (th th' : TaskUnit) → slice_get y.threads j ≡ Some th → slice_get y.threads k ≡ Some th'
      → same_name th.name th'.name ≡ true → j ≡ k
  pub objects_apart : (j k : ℕ) (g g' : ProtectedUnit) → slice_get y.objects j ≡ Some g → slice_get y.objects k ≡ Some g'
      → same_name g.name g'.name ≡ true → j ≡ k
  pub callees : (unit name : Name) (object op : ℕ) (g : ProtectedUnit) (o : Operation) → callee y unit name ≡ Protected object op g o
      → (slice_get y.objects object ≡ Some g) × IsOpOf (guarded_at g) (entry_name p y object op).op o

-- a moment of a thread
abbrev pub did : ℕ → Name → Deed → Path → Moment
did time name deed body = record { event = By time name deed; body = body }

abbrev pub step_at : ℕ → Deed → Path → Step
step_at time deed body = record { time = time; deed = deed; body = body }

-- an end that is next, of an activation with this time used and at this time
abbrev pub Finishes : System → Software → TaskUnit → ℕ → ℕ → Claim
Finishes y w th used ending vars ss u =
    (u ≡ y.costs.finish) × (body : Path) × (more : List Step) × (ss ≡ step_at ending (names.End used) body ∷ more)
    × Life w (task_at th) (kept th.vars vars) more

-- a task inside an activation
pub record IsBusy (p : Program) (a : Arrivals) (now : ℕ) (t : Task) (x : Piece) (rest : List Piece) (ss : List Step) : Type 0 where
  pub used : ℕ
  pub ending : ℕ
  pub more : ℕ
  pub ahead : (n : ℕ) → IsTicks (system p a).costs x n
      → Ahead (course p a) (Finishes (system p a) (program_software p) t.thread used ending) t.vars (x ∷ rest) ss (n + more)
  pub sums : used ≡ t.used + (t.left + more)
  pub since : now + used ≤ ending + t.used

-- a task with these pieces left
abbrev pub Stands : Program → Arrivals → ℕ → Task → List Piece → List Step → Type 0
Stands p a now t [] ss = Life (program_software p) (task_at t.thread) t.vars ss
Stands p a now t (x ∷ rest) ss = IsBusy p a now t x rest ss

-- the tasks
abbrev pub Threads : Program → Arrivals → ℕ → List Task → List Moment → Type 0
Threads p a now ts ms = (k : ℕ) (t : Task) → slice_get ts k ≡ Some t → Stands p a now t t.pieces (steps_of t.thread.name ms)

-- an object among sections, with so many objects entered after it
abbrev pub Holds : ℕ → ℕ → List Resource → Type 0
Holds object d [] = ⊥
Holds object d (Control k ∷ cs) = Holds object d cs
Holds object zero (Object k ∷ cs) = k ≡ object
Holds object (suc d) (Object k ∷ cs) = Holds object d cs

-- the way out of an object that is held
pub record GoesOut (w : Software) (g : ProtectedUnit) (name : Name) (d : ℕ) (ms : List Moment) : Type 0 where
  pub op : OpName
  pub results : List ℕ
  pub more : List Passage
  pub inner : List Step
  pub leave : Step
  pub later : List Step
  pub next : passages g.name ms ≡ Out name op.op results ∷ more
  pub parts : steps_of name ms ≡ inner ++ leave ∷ later
  pub within : Within d 0 inner
  pub deed : leave.deed ≡ names.Leave op results
  pub after : AreOneByOne w (guarded_at g) (kept g.vars leave.body.vars) more

-- an object that is held is left next, or never again entered or left
abbrev pub HeldUntil : Software → ProtectedUnit → Name → ℕ → List Moment → Type 0
HeldUntil w g name d ms = (passages g.name ms ≡ []) ⊎ GoesOut w g name d ms

-- an object
pub record Serves (w : Software) (j : ℕ) (g : ProtectedUnit) (ts : List Task) (stores : List Variables) (ms : List Moment) : Type 0 where
  pub held : (k : ℕ) (t : Task) (d : ℕ) → slice_get ts k ≡ Some t → Holds j d (sections t) → HeldUntil w g t.thread.name d ms
  pub free : ((k : ℕ) (t : Task) (d : ℕ) → slice_get ts k ≡ Some t → Holds j d (sections t) → ⊥)
      → AreOneByOne w (guarded_at g) (unwrap_or (slice_get stores j) []) (passages g.name ms)

-- the objects
abbrev pub Objects : System → Software → List Task → List Variables → List Moment → Type 0
Objects y w ts stores ms = (j : ℕ) (g : ProtectedUnit) → slice_get y.objects j ≡ Some g → Serves w j g ts stores ms

-- a state, and what is told from it on
pub record Conducts (p : Program) (a : Arrivals) (now : ℕ) (ts : List Task) (stores : List Variables) (told : List Event) : Type 0 where
  pub moments' : List Moment
  pub tells : map (λ m. m.event) moments' ≡ told
  pub threads : Threads p a now ts moments'
  pub objects : Objects (system p a) (program_software p) ts stores moments'
