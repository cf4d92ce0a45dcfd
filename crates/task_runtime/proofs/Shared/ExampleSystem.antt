-- A system of a passive unit, a protected object and a task, for examples.
use Rattle.std.specs.Prelude.{false, [], ◌∷◌}
use Rattle.seq_tree.specs.Names.{Name}
use Rattle.seq_tree.specs.Operations.{Operation}
use Rattle.seq_tree.specs.Statements.{Call, End, Statements, Then}
use Rattle.machine.specs.Systems.{System, ProtectedUnit, TaskUnit, Requested}
use Rattle.task_runtime.specs.Libraries.{no_costs}

-- a passive unit 1 with an operation 11, a protected object 2 with an operation 21 that calls it, and a sporadic task 3 that is
-- requested by 31
abbrev pub body : Name → Statements → Operation
body name block = record { sig = record { name = name; params = [] }; locals = []; block = block }

abbrev pub object : ProtectedUnit
object = record {
  unit = 1;
  name = 2 ∷ [];
  ceiling = 5;
  vars = record { name = 9 ∷ []; value = 0 } ∷ [];
  ops = body (21 ∷ []) (Then (Call (1 ∷ []) (11 ∷ []) []) End) ∷ [];
}

abbrev pub task : TaskUnit
task = record {
  unit = 2;
  name = 3 ∷ [];
  priority = 4;
  timing = Requested (record { name = 31 ∷ []; params = [] }) 5 10 0 false;
  vars = [];
  block = End;
  durations = [];
}

abbrev pub three : System
three = record {
  until = 0;
  costs = no_costs;
  libraries = record { unit = 0; name = 1 ∷ []; ops = body (11 ∷ []) End ∷ [] } ∷ [];
  objects = object ∷ [];
  threads = task ∷ [];
}
