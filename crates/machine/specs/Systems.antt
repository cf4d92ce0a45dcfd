-- What runs on the processor: the tasks, protected objects and passive units of a program, each with its place among the units.
-- Priorities and ceilings are those of ISO/IEC 8652:2012, D.1 and D.3.
use Rattle.std.specs.Prelude.{ℕ, Bool, List, [], Option, Some, None, filter_map, if◌then◌else◌}
use Rattle.std.specs.List.{enumerate_from}
use Rattle.seq_tree.specs.Names.{Name, same_name}
use Rattle.seq_tree.specs.Statements.{Statements}
use Rattle.seq_tree.specs.Operations.{Signature, Operation}
use Rattle.seq_tree.specs.declared.tree.Datum.{Datum}
use Rattle.seq_tree.specs.declared.tree.Param.{Param}
use Rattle.seq_tree.specs.declared.tree.Costs.{Costs}
use Rattle.ada_tree.specs.Programs.{Form, Unit, Program, Passive, Shared, Cyclic, Sporadic}
use Rattle.arrivals_tree.specs.Arriving.{Arrivals, durations}
use Rattle.seq_tree.specs.Lists.{first_where}

-- when a task is released: at its own times, or at requests of an operation
pub data ReleasePattern : Type 0 where
  Periodic : (offset period : ℕ) → ReleasePattern
  Requested : (op : Signature) (ceiling separation jitter : ℕ) (external : Bool) → ReleasePattern

-- the parameters of the requests that release a task
abbrev pub request_params : ReleasePattern → List Param
request_params (Periodic offset period) = []
request_params (Requested op ceiling separation jitter external) = op.params

-- a task as it is written, and how long its `work` statements take
pub record TaskUnit : Type 0 where
  pub unit : ℕ
  pub name : Name
  pub priority : ℕ
  pub timing : ReleasePattern
  pub vars : List Datum
  pub block : Statements
  pub durations : List ℕ

-- a protected object as it is written
pub record ProtectedUnit : Type 0 where
  pub unit : ℕ
  pub name : Name
  pub ceiling : ℕ
  pub vars : List Datum
  pub ops : List Operation

-- a passive unit as it is written
pub record PassiveUnit : Type 0 where
  pub unit : ℕ
  pub name : Name
  pub ops : List Operation

-- what runs, up to the horizon
pub record System : Type 0 where
  pub until : ℕ
  pub costs : Costs
  pub libraries : List PassiveUnit
  pub objects : List ProtectedUnit
  pub threads : List TaskUnit

-- a passive unit
abbrev pub library_by : ℕ → Name → Form → Option PassiveUnit
library_by unit name (Passive ops) = Some (record { unit = unit; name = name; ops = ops })
library_by unit name (Shared ceiling vars ops) = None
library_by unit name (Cyclic priority offset period vars block) = None
library_by unit name (Sporadic priority ceiling op separation jitter external vars block) = None

-- a protected object
abbrev pub object_by : ℕ → Name → Form → Option ProtectedUnit
object_by unit name (Passive ops) = None
object_by unit name (Shared ceiling vars ops) = Some (record { unit = unit; name = name; ceiling = ceiling; vars = vars; ops = ops })
object_by unit name (Cyclic priority offset period vars block) = None
object_by unit name (Sporadic priority ceiling op separation jitter external vars block) = None

-- a task
abbrev pub thread_by : List ℕ → ℕ → Name → Form → Option TaskUnit
thread_by durations' unit name (Passive ops) = None
thread_by durations' unit name (Shared ceiling vars ops) = None
thread_by durations' unit name (Cyclic priority offset period vars block) = Some (record {
  unit = unit;
  name = name;
  priority = priority;
  timing = Periodic offset period;
  vars = vars;
  block = block;
  durations = durations';
})
thread_by durations' unit name (Sporadic priority ceiling op separation jitter external vars block) = Some (record {
  unit = unit;
  name = name;
  priority = priority;
  timing = Requested op ceiling separation jitter external;
  vars = vars;
  block = block;
  durations = durations';
})

-- the passive units, the protected objects and the tasks among units, which are counted from this number on
abbrev pub libraries_from : ℕ → List Unit → List PassiveUnit
libraries_from n us = filter_map (λ u. library_by u.0 u.1.name u.1.form) (enumerate_from n us)

abbrev pub objects_from : ℕ → List Unit → List ProtectedUnit
objects_from n us = filter_map (λ u. object_by u.0 u.1.name u.1.form) (enumerate_from n us)

abbrev pub threads_from : (ℕ → List ℕ) → ℕ → List Unit → List TaskUnit
threads_from durations' n us = filter_map (λ u. thread_by (durations' u.0) u.0 u.1.name u.1.form) (enumerate_from n us)

-- what runs of a program under these arrivals
abbrev pub system : Program → Arrivals → System
system p a = record {
  until = a.until;
  costs = p.costs;
  libraries = libraries_from 0 p.units;
  objects = objects_from 0 p.units;
  threads = threads_from (durations a) 0 p.units;
}

-- what a call leads to
pub data CallTarget : Type 0 where
  -- an operation of a passive unit
  Plain : Operation → CallTarget
  -- an operation of a protected object, both by their places
  Protected : (object op : ℕ) → ProtectedUnit → Operation → CallTarget
  -- the request of a task, by the task's place among the tasks
  Request : (task : ℕ) → CallTarget
  Unknown : CallTarget

-- the operation of this name, with its place
abbrev pub op_named : Name → List Operation → Option (ℕ × Operation)
op_named name = first_where (λ o. same_name o.sig.name name)

-- a call of a passive operation
abbrev pub plain_by : Option (ℕ × Operation) → CallTarget
plain_by None = Unknown
plain_by (Some o) = Plain o.1

-- a call of a protected operation
abbrev pub protected_by : ℕ × ProtectedUnit → Option (ℕ × Operation) → CallTarget
protected_by object None = Unknown
protected_by object (Some o) = Protected object.0 o.0 object.1 o.1

-- a request, where the task is released by requests of this operation
abbrev pub request_if : Name → ℕ → ReleasePattern → CallTarget
request_if op task (Periodic offset period) = Unknown
request_if op task (Requested sig ceiling separation jitter external) = if same_name sig.name op then Request task else Unknown

-- a request of a task
abbrev pub request_by : Name → Option (ℕ × TaskUnit) → CallTarget
request_by op None = Unknown
request_by op (Some t) = request_if op t.0 t.1.timing

-- a call of a protected object, or what else it may be
abbrev pub object_or : Name → Option (ℕ × ProtectedUnit) → CallTarget → CallTarget
object_or op None others = others
object_or op (Some o) others = protected_by o (op_named op o.1.ops)

-- a call of a passive unit, or what else it may be
abbrev pub library_or : Name → Option (ℕ × PassiveUnit) → CallTarget → CallTarget
library_or op None others = others
library_or op (Some l) others = plain_by (op_named op l.1.ops)

-- what a call of this operation of this unit leads to
abbrev pub callee : System → Name → Name → CallTarget
callee y unit op =
    library_or op (first_where (λ l. same_name l.name unit) y.libraries)
    (object_or op (first_where (λ o. same_name o.name unit) y.objects)
    (request_by op (first_where (λ t. same_name t.name unit) y.threads)))
