-- Statements whose calls are read by links, in the shapes in which the code makes them.
-- A call of what it means keeps its actuals.
use Rattle.std.specs.Prelude.{List}
use Rattle.seq_tree.specs.Expressions.{Expression}
use Rattle.seq_tree.specs.Statements.{Statement, Statements, Call}
use Rattle.seq_tree.specs.declared.tree.OpName.{OpName}
use Rattle.ods_tree.specs.Links.{renamed}

-- a call of an operation
abbrev pub call_by : OpName → List Expression → Statement
call_by to actuals = Call to.object to.op actuals

-- an arm with each call by what it means
abbrev pub renamed_arm : (OpName → OpName) → Expression × Statements → Expression × Statements
renamed_arm means a = (a.0, renamed means a.1)
