-- What a call leads to, by the table of operations.
-- Of passive operations, protected operations and requests the first that is named counts.
use Rattle.std.specs.Prelude.{Option, Some, None}
use Rattle.seq_tree.specs.Names.{Name}
use Rattle.seq_tree.specs.Runs.{Callee}
use Rattle.seq_tree.specs.Runs as runs
use Rattle.seq_tree.specs.Trees.{operation_of}
use Rattle.seq_tree.specs.declared.tree.OpName.{OpName}
use Rattle.name_sets.specs.Tables.{at}
use Rattle.seq_eval.specs.declared.calls.Target.{Target}
use Rattle.seq_eval.specs.declared.calls.Target.TheVariants.{Plain, Protected, Asked}
use Rattle.seq_eval.specs.declared.calls.Calls.{Calls}

-- what stands in the table under the names of an operation
unfoldable pub found_in : Calls → OpName → Option Target
found_in t name = at t.table name

-- what that is in the definitions
abbrev pub callee_of : Option Target → Callee
callee_of None = runs.Unknown
callee_of (Some (Plain op)) = runs.Plain (operation_of op.now)
callee_of (Some (Protected params)) = runs.Protected params.now
callee_of (Some Asked) = runs.Asked

-- what calls lead to
abbrev pub calls_in : Calls → Name → Name → Callee
calls_in t object op = callee_of (found_in t (record { object = object; op = op }))

-- what the first of some leads to, where there is one
abbrev pub first_callee : {A : Type 0} → (A → Callee) → Option A → Callee → Callee
first_callee f None others = others
first_callee f (Some a) others = f a
