-- The tasks and the objects of a program's software are those of its system.
use Rattle.std.specs.Prelude.{◌≡◌, ℕ, ◌+◌, true, List, [], ◌∷◌, map, filter_map, slice_get, Some, refl}
use Rattle.std.specs.List.{cons_option, enumerate_from}
use Rattle.std.proofs.Common.{sym, ◌∙◌, ap}
use Rattle.seq_tree.specs.Names.{same_name}
use Rattle.ada_tree.specs.Programs.{Form, Unit, Program, Passive, Shared, Cyclic, Sporadic}
use Rattle.arrivals_tree.specs.Arriving.{Arrivals, durations}
use Rattle.trace_tree.specs.Lines.{unit_name}
use Rattle.machine.specs.Systems.{TaskUnit, ProtectedUnit, Periodic, Requested, system, thread_by, object_by}
use Rattle.guarantee.specs.Software.{program_software, task_by, guarded_by}
use Rattle.guarantee.specs.Order.{is_task_name}
use Rattle.law_written.proofs.Shared.Moves.{HasUnit}
use Rattle.law_written.proofs.Shared.Claims.{task_at, guarded_at}
use Rattle.law_calls.proofs.Shared.Threads.{thread_name}
use Rattle.law_lists.proofs.Shared.Lists.{at-in, in-map, any-in}
use Rattle.law_lists.proofs.Shared.Facts.{same-self}

-- a unit by whose name a task of the software goes
abbrev pub IsTask : Program → ℕ → Type 0
IsTask p unit = is_task_name (program_software p).tasks (unit_name p unit) ≡ true

abbrev pub ths_of : (ℕ → List ℕ) → ℕ → List Unit → List TaskUnit
ths_of ds n us = filter_map (λ u. thread_by (ds u.0) u.0 u.1.name u.1.form) (enumerate_from n us)

abbrev pub objects_of : ℕ → List Unit → List ProtectedUnit
objects_of n us = filter_map (λ u. object_by u.0 u.1.name u.1.form) (enumerate_from n us)

-- the tasks of the software are those of the threads
pub tasks_are : (ds : ℕ → List ℕ) (n : ℕ) (us : List Unit) → filter_map (λ u. task_by u.name u.form) us ≡ map task_at (ths_of ds n us)
tasks_are ds n [] = refl
tasks_are ds n (u ∷ us) = by u.form (tasks_are ds (n + 1) us)
  where
    by : (form : Form) → filter_map (λ v. task_by v.name v.form) us ≡ map task_at (ths_of ds (n + 1) us)
        → cons_option (task_by u.name form) (filter_map (λ v. task_by v.name v.form) us)
        ≡ map task_at (cons_option (thread_by (ds n) n u.name form) (ths_of ds (n + 1) us))
    by (Passive ops) rest = rest
    by (Shared ceiling vars ops) rest = rest
    by (Cyclic priority offset period vars block) rest = ap (λ ts. task_at (record {
      unit = n;
      name = u.name;
      priority = priority;
      timing = Periodic offset period;
      vars = vars;
      block = block;
      durations = ds n;
    }) ∷ ts) rest
    by (Sporadic priority ceiling op separation jitter external vars block) rest = ap (λ ts. task_at (record {
      unit = n;
      name = u.name;
      priority = priority;
      timing = Requested op ceiling separation jitter external;
      vars = vars;
      block = block;
      durations = ds n;
    }) ∷ ts) rest

-- the objects of the software are those of the system
pub objects_are : (n : ℕ) (us : List Unit) → filter_map (λ u. guarded_by u.name u.form) us ≡ map guarded_at (objects_of n us)
objects_are n [] = refl
objects_are n (u ∷ us) = by u.form (objects_are (n + 1) us)
  where
    by : (form : Form) → filter_map (λ v. guarded_by v.name v.form) us ≡ map guarded_at (objects_of (n + 1) us)
        → cons_option (guarded_by u.name form) (filter_map (λ v. guarded_by v.name v.form) us)
        ≡ map guarded_at (cons_option (object_by n u.name form) (objects_of (n + 1) us))
    by (Passive ops) rest = rest
    by (Shared ceiling vars ops) rest
        = ap (λ gs. guarded_at (record { unit = n; name = u.name; ceiling = ceiling; vars = vars; ops = ops }) ∷ gs) rest
    by (Cyclic priority offset period vars block) rest = rest
    by (Sporadic priority ceiling op separation jitter external vars block) rest = rest

pub tasks_of : (p : Program) (r : Arrivals) → (program_software p).tasks ≡ map task_at (system p r).threads
tasks_of p r = tasks_are (durations r) 0 p.units

pub shared_of : (p : Program) (r : Arrivals) → (program_software p).shared ≡ map guarded_at (system p r).objects
shared_of p r = objects_are 0 p.units

-- a thread's name is that of a task
among : (ths : List TaskUnit) (k : ℕ) (th : TaskUnit) → slice_get ths k ≡ Some th → is_task_name (map task_at ths) th.name ≡ true
among ths k th e = any-in (λ t. same_name t.name th.name) (task_at th) (map task_at ths) (in-map task_at th ths (at-in ths k th e))
    (same-self th.name)

pub is_task : (p : Program) (r : Arrivals) (unit : ℕ) → HasUnit (system p r).threads unit → IsTask p unit
is_task p r unit has =
    let name : unit_name p unit ≡ has.1.name = ap (unit_name p) (sym has.3) ∙ thread_name p r has.0 has.1 has.2 in
    ap (λ n. is_task_name (program_software p).tasks n) name ∙ ap (λ ts. is_task_name ts has.1.name) (tasks_of p r) ∙ among
    (system p r).threads has.0 has.1 has.2
