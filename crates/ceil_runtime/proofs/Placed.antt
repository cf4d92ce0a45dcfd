-- The events of a run are of the program that runs, whichever task they are of.
use Rattle.std.specs.Prelude.{◌≡◌, ◌⊎◌, ℕ, zero, suc, ◌+◌, ◌<◌, List, [], ◌∷◌, length, map, filter_map, Option, Some, None, option_map}
use Rattle.std.specs.Prelude.{slice_get, unwrap_or}
use Rattle.std.specs.List.{enumerate_from}
use Rattle.std.proofs.Common.{sym, ◌∙◌, ap, subst, arith, inl, inr}
use Rattle.std.proofs.lemmas.List.{length-map}
use Rattle.std.proofs.lemmas.Option.{same_Some, slice_get-map}
use Rattle.seq_tree.specs.Lists.{Each}
use Rattle.seq_tree.specs.Names.{Name}
use Rattle.seq_tree.specs.Operations.{Signature}
use Rattle.ada_tree.specs.Bodies.{heads}
use Rattle.ada_tree.specs.Trees.{unit_of}
use Rattle.ada_tree.specs.declared.program.Unit as units
use Rattle.ada_tree.specs.Programs.{Unit, Form, Program, Passive, Shared, Cyclic, Sporadic}
use Rattle.arrivals_tree.specs.Arriving.{Arrivals, durations}
use Rattle.trace_tree.specs.declared.event.Event.{Event}
use Rattle.trace_tree.specs.declared.event.Event.TheVariants as event
use Rattle.trace_tree.specs.Lines.{unit_ops}
use Rattle.trace_tree.specs.Placed.{IsOp, IsPlaced, IsUnit}
use Rattle.machine.specs.Systems.{ProtectedUnit, TaskUnit, thread_by, system, objects_from}
use Rattle.ceil_runtime.specs.Processing.{AllTasks, IsKept}
use Rattle.ceil_runtime.specs.Stepping.{AreOfTask, HasObject, HasOp, HasUnit, IsOfTask, Nothing, One, Told, Two, told_of}
use Rattle.task_runtime.specs.Written.{system_of, thread_of}
use Rattle.task_runtime.specs.declared.task.Task.{Task}

-- the unit of a task, where there is one
abbrev unit_or : ℕ → Option TaskUnit → ℕ
unit_or n None = n
unit_or n (Some t) = t.unit

-- each task of units is one of them
member-unit : (a : Arrivals) (n : ℕ) (us : List Unit) (i : ℕ) (t : TaskUnit)
    → slice_get (filter_map (λ u. thread_by (durations a u.0) u.0 u.1.name u.1.form) (enumerate_from n us)) i ≡ Some t → t.unit < n + length us
member-unit a n [] i t e = absurd (cc e)
member-unit a n (u ∷ us) i t e = by_form u.name u.form i (member-unit a (n + 1) us) e where
  by_form : (name : Name) (f : Form) (i : ℕ)
      → ((j : ℕ) (s : TaskUnit) → slice_get (filter_map (λ u. thread_by (durations a u.0) u.0 u.1.name u.1.form) (enumerate_from (n + 1) us)) j
      ≡ Some s → s.unit < n + 1 + length us)
      → slice_get (filter_map (λ u. thread_by (durations a u.0) u.0 u.1.name u.1.form) (enumerate_from n (record { name = name; form = f } ∷ us))) i
      ≡ Some t → t.unit < n + length (u ∷ us)
  by_form name (Passive ops) i more k = let less = more i t k in omega (arith, less)
  by_form name (Shared ceiling vars ops) i more k = let less = more i t k in omega (arith, less)
  by_form name (Cyclic priority offset period vars block) zero more k = let same : n ≡ t.unit = ap (unit_or t.unit) k in omega (arith, same)
  by_form name (Cyclic priority offset period vars block) (suc i) more k = let less = more i t k in omega (arith, less)
  by_form name (Sporadic priority ceiling op separation jitter external vars block) zero more k = let same : n ≡ t.unit = ap (unit_or t.unit) k
      in omega (arith, same)
  by_form name (Sporadic priority ceiling op separation jitter external vars block) (suc i) more k = let less = more i t k in omega (arith, less)

has-unit : (p : Program) (a : Arrivals) (tasks : List Task) (unit : ℕ) → (system p a).threads ≡ map (λ t. thread_of t.progress.stack.thread) tasks
    → HasUnit tasks unit → unit < length p.units
has-unit p a tasks unit threads h =
    let at : slice_get (system p a).threads h.place ≡ Some (thread_of h.task.progress.stack.thread) =
    ap (λ ts. slice_get ts h.place) threads ∙ slice_get-map (λ t. thread_of t.progress.stack.thread) tasks h.place ∙ ap
    (option_map (λ t. thread_of t.progress.stack.thread)) h.here in
    let less : h.task.progress.stack.thread.unit < 0 + length p.units = member-unit a 0 p.units h.place (thread_of h.task.progress.stack.thread) at in
    omega (arith, less, h.is_unit)

-- an object of a program stands in one of its units, with its operations
member-object : (n : ℕ) (us : List Unit) (i : ℕ) (g : ProtectedUnit) → slice_get (objects_from n us) i ≡ Some g
    → (k : ℕ) × (g.unit ≡ n + k) × (k < length us) × (unwrap_or (option_map (λ u. heads u.form) (slice_get us k)) [] ≡ map (λ o. o.sig) g.ops)
member-object n [] i g e = absurd (cc e)
member-object n (u ∷ us) i g e = by_form u.name u.form i (member-object (n + 1) us) e where
  later : (name : Name) (f : Form) → (k : ℕ) × (g.unit ≡ n + 1 + k) × (k < length us)
      × (unwrap_or (option_map (λ v. heads v.form) (slice_get us k)) [] ≡ map (λ o. o.sig) g.ops)
      → (k : ℕ) × (g.unit ≡ n + k) × (k < length (record { name = name; form = f } ∷ us))
      × (unwrap_or (option_map (λ v. heads v.form) (slice_get (record { name = name; form = f } ∷ us) k)) [] ≡ map (λ o. o.sig) g.ops)
  later name f more = (suc more.0, (let at = more.1 in omega (arith, at)), (let less = more.2 in omega (arith, less)), more.3)

  by_form : (name : Name) (f : Form) (i : ℕ)
      → ((j : ℕ) (h : ProtectedUnit) → slice_get (objects_from (n + 1) us) j ≡ Some h → (k : ℕ) × (h.unit ≡ n + 1 + k) × (k < length us)
      × (unwrap_or (option_map (λ v. heads v.form) (slice_get us k)) [] ≡ map (λ o. o.sig) h.ops))
      → slice_get (objects_from n (record { name = name; form = f } ∷ us)) i ≡ Some g
      → (k : ℕ) × (g.unit ≡ n + k) × (k < length (record { name = name; form = f } ∷ us))
      × (unwrap_or (option_map (λ v. heads v.form) (slice_get (record { name = name; form = f } ∷ us) k)) [] ≡ map (λ o. o.sig) g.ops)
  by_form name (Passive ops) i more k = later name (Passive ops) (more i g k)
  by_form name (Shared ceiling vars ops) zero more k =
      let same : record { unit = n; name = name; ceiling = ceiling; vars = vars; ops = ops } ≡ g = same_Some _ g k in
      let unit : n ≡ g.unit = ap (λ (h : ProtectedUnit). h.unit) same in
      (0, omega (arith, unit), omega arith, ap (λ (h : ProtectedUnit). map (λ o. o.sig) h.ops) same)
  by_form name (Shared ceiling vars ops) (suc i) more k = later name (Shared ceiling vars ops) (more i g k)
  by_form name (Cyclic priority offset period vars block) i more k = later name (Cyclic priority offset period vars block) (more i g k)
  by_form name (Sporadic priority ceiling op separation jitter external vars block) i more k
      = later name (Sporadic priority ceiling op separation jitter external vars block) (more i g k)

-- the tasks are of the units of a program
abbrev pub AreOfUnits : Program → List Task → Type 0
AreOfUnits p tasks = AllTasks (λ t. (system_of t.progress.stack.thread).objects ≡ objects_from 0 p.units) tasks

ops_at : (p : Program) (k : ℕ) (hs : List Signature) → unwrap_or (option_map (λ u. heads u.form) (slice_get p.units k)) [] ≡ hs → unit_ops p k ≡ hs
unfolding unit_ops
ops_at p k hs h = h

has-op : (p : Program) (tasks : List Task) (unit op : ℕ) → AreOfUnits p tasks → HasOp tasks unit op → IsUnit p unit × IsOp p unit op
has-op p tasks unit op objects h =
    let at : slice_get (objects_from 0 p.units) h.object ≡ Some h.entered
    = ap (λ gs. slice_get gs h.object) (sym (objects h.place h.task h.here)) ∙ h.at in
    let m = member-object 0 p.units h.object h.entered at in
    let index : unit ≡ m.0 = let i = m.1 in omega (arith, i, h.is_unit) in
    let less = m.2 in
    let ops : unit_ops p unit ≡ map (λ o. o.sig) h.entered.ops = rw index (ops_at p m.0 (map (λ o. o.sig) h.entered.ops) m.3) in (
      omega (arith, less, index),
      (let long = ap length ops in let count = length-map h.entered.ops (λ o. o.sig)
          in omega (arith, long, count, h.is_op)),
    )

has-object : (p : Program) (tasks : List Task) (unit : ℕ) → AreOfUnits p tasks → HasObject tasks unit → IsUnit p unit
has-object p tasks unit objects h =
    let at : slice_get (objects_from 0 p.units) h.object ≡ Some h.entered
    = ap (λ gs. slice_get gs h.object) (sym (objects h.place h.task h.here)) ∙ h.at in
    let m = member-object 0 p.units h.object h.entered at in
    let i = m.1 in let less = m.2 in omega (arith, i, less, h.is_unit)

event-placed : (p : Program) (a : Arrivals) (tasks : List Task) (e : Event) → AreOfUnits p tasks
    → (system p a).threads ≡ map (λ t. thread_of t.progress.stack.thread) tasks → IsOfTask tasks e → IsPlaced p e
event-placed p a tasks (event.Horizon time) objects threads of = tt
event-placed p a tasks (event.Release time task value) objects threads of = has-unit p a tasks task threads of
event-placed p a tasks (event.End time task used) objects threads of = has-unit p a tasks task threads of
event-placed p a tasks (event.Print time task value) objects threads of = has-unit p a tasks task threads of
event-placed p a tasks (event.Arrive time task value) objects threads of = has-unit p a tasks task threads of
event-placed p a tasks (event.Enter time task unit op values) objects threads of = (let h = has-op p tasks unit op objects of.1
    in (has-unit p a tasks task threads of.0, h.0, h.1))
event-placed p a tasks (event.Leave time task unit op values) objects threads of = (let h = has-op p tasks unit op objects of.1
    in (has-unit p a tasks task threads of.0, h.0, h.1))
event-placed p a tasks (event.Request time task target value) objects threads
    of = (has-unit p a tasks task threads of.0, has-unit p a tasks target threads of.1)
event-placed p a tasks (event.Stop time task unit priority ceiling) objects threads of = (has-unit p a tasks task threads of.0, by_unit of.1) where
  by_unit : HasObject tasks unit ⊎ HasUnit tasks unit → IsUnit p unit
  by_unit (inl h) = has-object p tasks unit objects h
  by_unit (inr h) = has-unit p a tasks unit threads h

-- the events that a step told
pub told-placed : (p : Program) (a : Arrivals) (tasks : List Task) (t : Told) (now : List Event) → now ≡ told_of t → AreOfUnits p tasks
    → (system p a).threads ≡ map (λ t. thread_of t.progress.stack.thread) tasks → AreOfTask tasks t → Each (IsPlaced p) now
told-placed p a tasks Nothing now is objects threads of = subst (Each (IsPlaced p)) (sym is) tt
told-placed p a tasks (One e) now is objects threads of = subst (Each (IsPlaced p)) (sym is) (event-placed p a tasks e objects threads of, tt)
told-placed p a tasks (Two e f) now is objects threads of =
    subst (Each (IsPlaced p)) (sym is)
    (event-placed p a tasks e objects threads of.0, (event-placed p a tasks f objects threads of.1, tt))

-- the tasks of a processor are of its units
pub of-units : (p : Program) (tasks : List Task) (us : List units.Unit) (until time : ℕ) → AllTasks (IsKept until time us) tasks
    → objects_from 0 (map unit_of us) ≡ objects_from 0 p.units → AreOfUnits p tasks
of-units p tasks us until time kept same = λ i t at. ap (λ vs. objects_from 0 (map unit_of vs)) (kept i t at).units ∙ same
