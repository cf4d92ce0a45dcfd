-- What a task of the machine is written as, and what is known of it and of the operations that it may call.
-- It is released at its own times, or at requests.
use Rattle.std.specs.Prelude.{◌≡◌, ℕ, ◌+◌, ◌≤◌, true, [], ◌∷◌, ◌++◌, List, map, length, Some}
use Rattle.seq_tree.specs.Names.{Name, are_distinct}
use Rattle.seq_tree.specs.Statements.{Statements}
use Rattle.seq_tree.specs.Operations.{Operation}
use Rattle.seq_tree.specs.Trees.{signature_of, statement_of, statements_of}
use Rattle.seq_tree.specs.declared.tree.Datum.{Datum}
use Rattle.seq_tree.specs.declared.tree.Param.{Param}
use Rattle.seq_tree.specs.declared.tree.OpName.{OpName}
use Rattle.ada_tree.specs.Programs.{Form, Unit, Cyclic, Sporadic}
use Rattle.ada_tree.specs.Trees.{unit_of}
use Rattle.arrivals_tree.specs.Arriving.{durations}
use Rattle.machine.specs.Systems as systems
use Rattle.machine.specs.Systems.{System, request_params}
use Rattle.task_runtime.specs.Callable.{IsClear, call_room, calls_room, data_by, op_in, target_in}
use Rattle.task_runtime.specs.Fitting.{FitsBlock, spot_of}
use Rattle.task_runtime.specs.Libraries.{handed, system_from}
use Rattle.task_runtime.specs.declared.thread.Thread.{Thread}
use Rattle.task_runtime.specs.declared.thread.Timing.{Timing}
use Rattle.task_runtime.specs.declared.thread.Timing.TheVariants.{Periodic, Requested}

-- the block of a task
abbrev pub block_of_thread : Thread → Statements
block_of_thread t = statements_of (map statement_of t.stmts.now)

-- the names of its data
abbrev pub data_names : Thread → List Name
data_names t = map (λ d. d.name) t.data.now

-- when it is released
abbrev pub timing_of : Timing → systems.ReleasePattern
timing_of (Periodic offset period) = systems.Periodic offset period
timing_of (Requested op ceiling separation jitter external) = systems.Requested (signature_of op.now) ceiling separation jitter external

-- the parameters of its requests
abbrev pub params_of : Thread → List Param
params_of t = request_params (timing_of t.timing)

-- their names
abbrev pub param_names : Thread → List Name
param_names t = map (λ q. q.name) (params_of t)

-- the units of its program, which its calls lead to
abbrev pub system_of : Thread → System
system_of t = system_from t.work.now (map unit_of t.units.now)

-- its durations
abbrev pub durations_of : Thread → List ℕ
durations_of t = durations (handed t.work.now) t.unit

-- the task as it is written
abbrev pub thread_of : Thread → systems.TaskUnit
thread_of t = record {
  unit = t.unit;
  name = t.name.now;
  priority = t.priority;
  timing = timing_of t.timing;
  vars = t.data.now;
  block = block_of_thread t;
  durations = durations_of t;
}

-- what its unit is
abbrev pub form_by : Timing → ℕ → List Datum → Statements → Form
form_by (Periodic offset period) priority vars block = Cyclic priority offset period vars block
form_by (Requested op ceiling separation jitter external) priority vars block =
    Sporadic priority ceiling (signature_of op.now) separation jitter external vars block

-- its unit
abbrev pub written_as : Thread → Unit
written_as t = record { name = t.name.now; form = form_by t.timing t.priority t.data.now (block_of_thread t) }

-- the room that is enough for every run of a task: for each of its data, for the parameters of a request, for what is nested in its block,
-- and for a call of each operation
abbrev pub reserve : Thread → ℕ
reserve t = length t.data.now + length (param_names t) + 196 + calls_room [] (system_of t)

-- an operation that can be called where it is clear, inside the calls that are under way: its body does with its room, and there is room for
-- the call and for the data that come with it
pub record IsReady (y : System) (chain : List OpName) (c : OpName) (o : Operation) : Type 0 where
  pub block : FitsBlock (spot_of y (c ∷ chain)) o.block
  pub few : length o.sig.params ≤ 8
  pub room : calls_room (c ∷ chain) y + call_room (length (data_by (target_in y c))) o ≤ calls_room chain y

-- units whose operations can all be called
abbrev pub CanCall : System → Type 0
CanCall y = (chain : List OpName) (c : OpName) (o : Operation) → op_in y c ≡ Some o → IsClear y chain c → IsReady y chain c o

-- a task that can be run
pub record CanRun (t : Thread) : Type 0 where
  pub block : FitsBlock (spot_of (system_of t) []) (block_of_thread t)
  pub distinct : are_distinct (data_names t ++ param_names t) ≡ true
  pub calls : CanCall (system_of t)
