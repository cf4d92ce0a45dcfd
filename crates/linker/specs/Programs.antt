-- What linking a program does: the body of each operation to which calls lead, and the block of each task, stand in its code.
-- Data stand lowest among the slots, then locals, then parameters.
use Rattle.std.specs.Prelude.{ℕ, List, [], ◌∷◌, ◌++◌, map, ⊤}
use Rattle.seq_tree.specs.Names.{Name}
use Rattle.seq_tree.specs.Statements.{Statements}
use Rattle.seq_tree.specs.Variables.{Variables}
use Rattle.seq_tree.specs.declared.tree.Datum.{Datum}
use Rattle.seq_tree.specs.declared.tree.Param.{Param}
use Rattle.ada_tree.specs.Programs.{Unit}
use Rattle.machine.specs.Systems.{System, TaskUnit, callee, request_params}
use Rattle.linker.specs.Nodes.{AreOrdered}
use Rattle.law_flat_code.specs.Codes.{BodyStands, TaskStands}
use Rattle.linker.specs.Callees.{IsLed, IsSystemOf, OpBody, body_of}
use Rattle.linker.specs.Leads.{Leads}
use Rattle.linker.specs.Scopes.{slots_of}
use Rattle.linker.specs.Standing.{Has, lists_of}
use Rattle.linker.specs.declared.program.LinkedUnits.{LinkedUnits}

-- a block, with the names that are known as it begins, the innermost first
pub record Part : Type 0 where
  pub names : List Name
  pub block : Statements

-- the names of parameters, and of data
abbrev pub param_names : List Param → List Name
param_names params = map (λ p. p.name) params

abbrev pub datum_names : List Datum → List Name
datum_names vars = map (λ d. d.name) vars

-- the body of an operation, which knows its parameters, its locals and the data of its object
abbrev pub op_part : OpBody → Part
op_part b = record { names = param_names b.op.sig.params ++ (datum_names b.op.locals ++ datum_names b.vars); block = b.op.block }

-- the block of a task, which knows the parameter of its request and its data
abbrev pub task_part : TaskUnit → Part
task_part t = record { names = param_names (request_params t.timing) ++ datum_names t.vars; block = t.block }

-- each of these stands at its start
abbrev pub AllStand : (Variables → ℕ → Statements → Type 0) → List Part → List ℕ → Type 0
AllStand Stands [] [] = ⊤
AllStand Stands (p ∷ ps) (s ∷ ss) = Stands (slots_of p.names) s p.block × AllStand Stands ps ss
AllStand Stands [] (s ∷ ss) = ⊥
AllStand Stands (p ∷ ps) [] = ⊥

-- units are linked: calls lead to what the definitions say, by the places of operations, and all that runs stands in the code
pub record AreLinked (us : List Unit) (c : LinkedUnits) : Type 0 where
  pub leads : Name → Name → Leads
  pub calls : (y : System) → IsSystemOf us y → (unit op : Name) → IsLed (map body_of c.ops.items) (callee y unit op) (leads unit op)
  pub bodies : AllStand (BodyStands (Has leads (lists_of c.code))) (map op_part (map body_of c.ops.items)) c.starts.items
  pub tasks : (y : System) → IsSystemOf us y → AllStand (TaskStands (Has leads (lists_of c.code))) (map task_part y.threads) c.tasks.items
  pub ordered : AreOrdered c.code.nodes.items
