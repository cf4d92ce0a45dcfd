-- The setting of the tasks of a program: its system, its calls and its names.
use Rattle.std.specs.Prelude.{ℕ, [], option_map, slice_get, unwrap_or, ⊤}
use Rattle.seq_tree.specs.Names.{Name}
use Rattle.seq_tree.specs.declared.tree.OpName.{OpName}
use Rattle.ada_tree.specs.Programs.{Program}
use Rattle.arrivals_tree.specs.Arriving.{Arrivals}
use Rattle.trace_tree.specs.Lines.{unit_name}
use Rattle.machine.specs.Systems.{System, system, CallTarget, Unknown, callee}
use Rattle.machine.specs.Effects.{object_unit, task_unit}
use Rattle.guarantee.specs.Software.{program_software, leads_to}
use Rattle.guarantee.specs.Events.{op_at}
use Rattle.law_tasks.proofs.Shared.Courses.{Course}
use Rattle.law_calls.proofs.Shared.Resolved.{asked_by}

-- an operation by the place of its object and its own
abbrev pub entry_name : Program → System → ℕ → ℕ → OpName
entry_name p y object op = op_at p (object_unit y object) op

abbrev pub asked_op : System → ℕ → Name
asked_op y task = unwrap_or (option_map (λ t. asked_by t.timing) (slice_get y.threads task)) []

abbrev pub request_name : Program → System → ℕ → OpName
request_name p y task = record { object = unit_name p (task_unit y task); op = asked_op y task }

-- a call that leads somewhere
abbrev pub IsKnown : CallTarget → Type 0
IsKnown Unknown = ⊥
IsKnown _ = ⊤

abbrev pub Leads : System → Name → Name → Type 0
Leads y unit op = IsKnown (callee y unit op)

-- the setting of a program's tasks
abbrev pub course : Program → Arrivals → Course
course p a = record {
  system = system p a;
  calls = leads_to (program_software p);
  op_name = entry_name p (system p a);
  request_name = request_name p (system p a);
  Good = Leads (system p a);
  MayCut = ⊤;
}
