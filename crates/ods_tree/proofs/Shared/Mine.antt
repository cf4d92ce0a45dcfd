-- The mine pump: twelve objects on three levels, six threads.
use Rattle.std.specs.Prelude.{List, [], ◌∷◌, Some, None, codes}
use Prim.Native.String.{String}
use Rattle.seq_tree.specs.Expressions.{Expression, Number, Variable, Paren, Binary}
use Rattle.seq_tree.specs.Statements.{Statement, Assign, If, Call, Work, Put, Nothing, Else, When}
use Rattle.seq_tree.specs.declared.tree.OpName.{OpName}
use Rattle.seq_tree.specs.declared.tree.Mode.{Mode}
use Rattle.seq_tree.specs.declared.tree.Mode.TheVariants.{In, Out}
use Rattle.seq_tree.specs.declared.tree.BinOp.TheVariants as op
use Rattle.ods_tree.specs.Designs.{Provided, Body, Tree, Node, Empty, Design}
use Rattle.ods_tree.specs.declared.design.Constraint.{Constraint}
use Rattle.ods_tree.specs.declared.design.Constraint.TheVariants.{Aser, Pser, Paer}
use Rattle.ods_tree.specs.declared.design.Kind.TheVariants.{Active, Protected, Cyclic, Sporadic}
use Rattle.ods_tree.specs.declared.design.AttrKey.TheVariants.{Period, Separation, Deadline, ThreadBudget, ArrivalJitter}
use Rattle.ods_tree.proofs.Shared.Short.{row_costs, block, zeros, attr, trees}

abbrev pub var : String → Expression
var s = Variable (codes s)

abbrev pub op_name : String → String → OpName
op_name object op' = record { object = codes object; op = codes op' }

abbrev pub provided : String → String → Mode → Constraint → Provided
provided name param mode constraint =
    record { sig = record { name = codes name; params = record { name = codes param; mode = mode } ∷ [] }; constraint = Some constraint }

abbrev pub body : String → List Statement → Body
body name ss = record { name = codes name; locals = []; block = block ss }

abbrev pub set : String → Expression → Statement
set name e = Assign (codes name) e

abbrev pub do_call : String → String → List Expression → Statement
do_call object op' actuals = Call (codes object) (codes op') actuals

abbrev pub motor : Tree
motor = Node (record {
  name = codes "motor";
  kind = Protected;
  attrs = [];
  provides = provided "set_pump" "want" In Paer ∷ provided "set_safety" "s" In Paer ∷ provided "state" "v" Out Pser ∷ [];
  needs = [];
  vars = zeros (codes "pump" ∷ codes "unsafe" ∷ []);
  bodies =
      body "set_pump" (If (When (Binary op.Eq (var "unsafe") (Number 0)) (block (set "pump" (var "want") ∷ []))
      (Else (block (set "pump" (Number 0) ∷ [])))) ∷ [])
      ∷ body "set_safety" (set "unsafe" (var "s") ∷ If (When (Binary op.Eq (var "s") (Number 1)) (block (set "pump" (Number 0) ∷ [])) Nothing) ∷ [])
      ∷ body "state" (set "v" (var "pump") ∷ []) ∷ [];
  thread = None;
  links = [];
}) Empty

abbrev pub water_handler : Tree
water_handler = Node (record {
  name = codes "water_handler";
  kind = Sporadic;
  attrs = attr Separation 6000 ∷ attr Deadline 200 ∷ attr ThreadBudget 20 ∷ attr ArrivalJitter 5 ∷ [];
  provides = provided "water" "high" In Aser ∷ [];
  needs = op_name "motor" "set_pump" ∷ op_name "data_logger" "log" ∷ [];
  vars = [];
  bodies = [];
  thread = Some (block (do_call "motor" "set_pump" (var "high" ∷ []) ∷ do_call "data_logger" "log" (var "high" ∷ []) ∷ []));
  links = [];
}) Empty

abbrev pub flow_sensor : Tree
flow_sensor = Node (record {
  name = codes "flow_sensor";
  kind = Cyclic;
  attrs = attr Period 1000 ∷ attr Deadline 900 ∷ attr ThreadBudget 20 ∷ [];
  provides = [];
  needs = op_name "motor" "state" ∷ op_name "data_logger" "log" ∷ [];
  vars = zeros (codes "p" ∷ []);
  bodies = [];
  thread = Some (block (Work 5 ∷ do_call "motor" "state" (var "p" ∷ []) ∷ do_call "data_logger" "log" (var "p" ∷ []) ∷ []));
  links = [];
}) Empty

abbrev pub pump_controller : Tree
pump_controller = Node (record {
  name = codes "pump_controller";
  kind = Active;
  attrs = [];
  provides = provided "set_safety" "s" In Paer ∷ [];
  needs = op_name "data_logger" "log" ∷ [];
  vars = [];
  bodies = [];
  thread = None;
  links = record { op = codes "set_safety"; to = op_name "motor" "set_safety" } ∷ [];
}) (trees (motor ∷ water_handler ∷ flow_sensor ∷ []))

abbrev pub ch4_status : Tree
ch4_status = Node (record {
  name = codes "ch4_status";
  kind = Protected;
  attrs = [];
  provides = provided "write" "v" In Paer ∷ provided "read" "v" Out Pser ∷ [];
  needs = [];
  vars = zeros (codes "level" ∷ []);
  bodies = body "write" (set "level" (var "v") ∷ []) ∷ body "read" (set "v" (var "level") ∷ []) ∷ [];
  thread = None;
  links = [];
}) Empty

abbrev pub ch4_sensor : Tree
ch4_sensor = Node (record {
  name = codes "ch4_sensor";
  kind = Cyclic;
  attrs = attr Period 80 ∷ attr Deadline 30 ∷ attr ThreadBudget 25 ∷ [];
  provides = [];
  needs = op_name "ch4_status" "write" ∷ op_name "pump_controller" "set_safety" ∷ op_name "alarm_console" "alert" ∷ [];
  vars = zeros (codes "reading" ∷ []);
  bodies = [];
  thread = Some (block (
      Work 6 ∷ set "reading" (Binary op.Mod (Paren (Binary op.Add (var "reading") (Number 7))) (Number 50))
      ∷ do_call "ch4_status" "write" (var "reading" ∷ [])
      ∷ If (When (Binary op.Ge (var "reading") (Number 40))
      (block (do_call "pump_controller" "set_safety" (Number 1 ∷ []) ∷ do_call "alarm_console" "alert" (var "reading" ∷ []) ∷ []))
      (Else (block (do_call "pump_controller" "set_safety" (Number 0 ∷ []) ∷ [])))) ∷ []));
  links = [];
}) Empty

abbrev pub co_sensor : Tree
co_sensor = Node (record {
  name = codes "co_sensor";
  kind = Cyclic;
  attrs = attr Period 100 ∷ attr Deadline 60 ∷ attr ThreadBudget 20 ∷ [];
  provides = [];
  needs = op_name "data_logger" "log" ∷ [];
  vars = zeros (codes "reading" ∷ []);
  bodies = [];
  thread = Some (block (
      Work 6 ∷ set "reading" (Binary op.Mod (Paren (Binary op.Add (var "reading") (Number 3))) (Number 20))
      ∷ do_call "data_logger" "log" (var "reading" ∷ []) ∷ []));
  links = [];
}) Empty

abbrev pub air_flow : Tree
air_flow = Node (record {
  name = codes "air_flow";
  kind = Cyclic;
  attrs = attr Period 100 ∷ attr Deadline 100 ∷ attr ThreadBudget 20 ∷ [];
  provides = [];
  needs = op_name "ch4_status" "read" ∷ [];
  vars = zeros (codes "level" ∷ []);
  bodies = [];
  thread = Some (block (
      Work 4 ∷ do_call "ch4_status" "read" (var "level" ∷ [])
      ∷ If (When (Binary op.Ge (var "level") (Number 40)) (block (Put (var "level") ∷ [])) Nothing) ∷ []));
  links = [];
}) Empty

abbrev pub environment_monitor : Tree
environment_monitor = Node (record {
  name = codes "environment_monitor";
  kind = Active;
  attrs = [];
  provides = [];
  needs = op_name "pump_controller" "set_safety" ∷ op_name "data_logger" "log" ∷ op_name "alarm_console" "alert" ∷ [];
  vars = [];
  bodies = [];
  thread = None;
  links = [];
}) (trees (ch4_status ∷ ch4_sensor ∷ co_sensor ∷ air_flow ∷ []))

abbrev pub data_logger : Tree
data_logger = Node (record {
  name = codes "data_logger";
  kind = Protected;
  attrs = [];
  provides = provided "log" "v" In Paer ∷ [];
  needs = [];
  vars = zeros (codes "count" ∷ codes "last" ∷ []);
  bodies = body "log" (set "count" (Binary op.Add (var "count") (Number 1)) ∷ set "last" (var "v") ∷ Work 2 ∷ []) ∷ [];
  thread = None;
  links = [];
}) Empty

abbrev pub alarm_console : Tree
alarm_console = Node (record {
  name = codes "alarm_console";
  kind = Sporadic;
  attrs = attr Separation 80 ∷ attr Deadline 50 ∷ attr ThreadBudget 10 ∷ [];
  provides = provided "alert" "v" In Aser ∷ [];
  needs = [];
  vars = [];
  bodies = [];
  thread = Some (block (Put (var "v") ∷ Work 4 ∷ []));
  links = [];
}) Empty

abbrev pub mine : Design
mine = record {
  name = codes "mine";
  version = None;
  costs = row_costs;
  root = Node (record {
    name = codes "mine_control";
    kind = Active;
    attrs = [];
    provides = [];
    needs = [];
    vars = [];
    bodies = [];
    thread = None;
    links = [];
  }) (trees (pump_controller ∷ environment_monitor ∷ data_logger ∷ alarm_console ∷ []));
}
