-- The effect of a piece: the deed of the task, and what it does to the others.
-- Ceilings are those of ISO/IEC 8652:2012, D.3: a caller above the ceiling is stopped, a task inside has the ceiling as its priority.
use Rattle.std.specs.Prelude.{ℕ, true, List, [], ◌∷◌, ◌++◌, set, nat_lt, Option, slice_get, unwrap_or, option_map, if◌then◌else◌}
use Rattle.seq_tree.specs.Variables.{Variables, kept}
use Rattle.trace_tree.specs.declared.event.Event.{Event}
use Rattle.trace_tree.specs.declared.event.Event.TheVariants as event
use Rattle.seq_tree.specs.Lists.{change}
use Rattle.machine.specs.Systems.{System, ReleasePattern, Periodic, Requested}
use Rattle.machine.specs.Pieces.{Piece}
use Rattle.machine.specs.Deeds.{PieceOutcome, Act, Silent, Print, Enter, Leave, Ask, Keep, Open, Ended, Finish}
use Rattle.machine.specs.States.{State, Task, Resource, Object, Control, Held, Asleep, Waiting, Readiness}
use Rattle.machine.specs.Dispatch.{put_first}
use Rattle.machine.specs.Releases.{Next, after, going, serve}

-- the unit of an object
abbrev pub object_unit : System → ℕ → ℕ
object_unit y object = unwrap_or (option_map (λ g. g.unit) (slice_get y.objects object)) 0

-- the unit of a task
abbrev pub task_unit : System → ℕ → ℕ
task_unit y task = unwrap_or (option_map (λ t. t.unit) (slice_get y.threads task)) 0

-- the unit of a section
abbrev pub section_unit : System → Resource → ℕ
section_unit y (Object object) = object_unit y object
section_unit y (Control task) = task_unit y task

-- the ceiling of a task's control structure
abbrev pub ceiling_by : ReleasePattern → ℕ
ceiling_by (Periodic offset period) = 0
ceiling_by (Requested op ceiling separation jitter external) = ceiling

-- the ceiling of a section
abbrev pub ceiling_of : System → Resource → ℕ
ceiling_of y (Object object) = unwrap_or (option_map (λ g. g.ceiling) (slice_get y.objects object)) 0
ceiling_of y (Control task) = unwrap_or (option_map (λ t. ceiling_by t.timing) (slice_get y.threads task)) 0

-- a task as it enters a section
abbrev pub inside_now : Resource → ℕ → Task → Task
inside_now section ceiling t = record t { active = ceiling; inside = record { section = section; before = t.active } ∷ t.inside }

-- a task as it leaves the innermost of these sections
abbrev pub outside_by : List Held → Task → Task
outside_by [] t = t
outside_by (h ∷ hs) t = record t { active = h.before; inside = hs }

-- a task as it leaves the innermost section
abbrev pub outside_now : Task → Task
outside_now t = outside_by t.inside t

-- the variables of a task inside a section: a protected object lends its data
abbrev pub lent : Resource → State → Variables → Variables
lent (Object object) s vars = vars ++ unwrap_or (slice_get s.stores object) []
lent (Control task) s vars = vars

-- the state without the data that a section lends
abbrev pub lending : Resource → State → State
lending (Object object) s = record s { stores = set s.stores object [] }
lending (Control task) s = s

-- the stop of the run at a section
abbrev pub stopped_at : System → Task → Resource → State → Next
stopped_at y t section s =
    (record s { stopped = true }, event.Stop s.time t.thread.unit (section_unit y section) t.active (ceiling_of y section) ∷ [])

-- the entry of a task into a section
abbrev pub entered_at : System → ℕ → Resource → List Event → Variables → List Piece → State → Next
entered_at y i section told vars ps s = (
  record (lending section s) {
    tasks = change i (λ u. going y.costs (lent section s vars) ps (inside_now section (ceiling_of y section) u)) s.tasks;
    orders = put_first i s.orders;
  },
  told,
)

-- the entry of a task into a section, unless its active priority is above the ceiling
abbrev pub entry : System → ℕ → Task → Resource → List Event → Variables → List Piece → State → Next
entry y i t section told vars ps s = if nat_lt (ceiling_of y section) t.active then stopped_at y t section s else entered_at y i section
    told vars ps s

-- the exit from the innermost section
abbrev pub exit : System → ℕ → Variables → List Piece → State → State
exit y i vars ps s = record s { tasks = change i (λ u. going y.costs vars ps (outside_now u)) s.tasks; orders = put_first i s.orders }

-- a task that goes on
abbrev pub go : System → ℕ → Variables → List Piece → State → State
go y i vars ps s = record s { tasks = change i (going y.costs vars ps) s.tasks }

-- a value kept in a task's control structure
abbrev pub keep : ℕ → Option ℕ → State → State
keep k v s = record s { tasks = change k (λ u. record u { gate = record u.gate { value = v } }) s.tasks }

-- a task's control structure as it opens
abbrev pub open_gate : ℕ → State → State
open_gate k s = record s { tasks = change k (λ u. record u { gate = record u.gate { open' = true } }) s.tasks }

-- whether a task sleeps or waits after its activation
abbrev pub resting : ReleasePattern → ℕ → Readiness
resting (Periodic offset period) next = Asleep next
resting (Requested op ceiling separation jitter external) next = Waiting

-- a task whose activation has ended
abbrev pub ended : Variables → Task → Task
ended vars t = record t { readiness = resting t.thread.timing t.next; vars = kept t.thread.vars vars; pieces = []; left = 0 }

-- what a deed of the task at this place does
abbrev pub acted : System → ℕ → Task → Act → Variables → List Piece → State → Next
acted y i t Silent vars ps s = (go y i vars ps s, [])
acted y i t (Print v) vars ps s = (go y i vars ps s, event.Print s.time t.thread.unit v ∷ [])
acted y i t (Enter object op values) vars ps s =
    entry y i t (Object object) (event.Enter s.time t.thread.unit (object_unit y object) op values ∷ []) vars ps s
acted y i t (Leave object op values data') vars ps s =
    (exit y i vars ps (record s { stores = set s.stores object data' }), event.Leave s.time t.thread.unit (object_unit y object) op values ∷ [])
acted y i t (Ask task) vars ps s = entry y i t (Control task) [] vars ps s
acted y i t (Keep task v) vars ps s = (keep task v (go y i vars ps s), [])
acted y i t (Open task) vars ps s = (open_gate task (go y i vars ps s), [])
acted y i t (Ended task v) vars ps s =
    after (event.Request s.time t.thread.unit (task_unit y task) v ∷ []) (serve y task (exit y i vars ps s))
acted y i t Finish vars ps s =
    after (event.End s.time t.thread.unit t.used ∷ []) (serve y i (record s { tasks = change i (ended vars) s.tasks }))

-- the effect of the first piece of the task at this place
abbrev pub takes_effect : System → ℕ → Task → PieceOutcome → State → Next
takes_effect y i t d s = acted y i t d.act d.vars d.pieces s
