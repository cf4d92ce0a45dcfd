-- The different calls among those of a block, in the order in which they are written first.
-- A call is kept by reference to its names.
use Rattle.std.specs.Prelude.{not, List, [], ◌∷◌, filter}
use Rattle.seq_tree.specs.Calls.{same_op}
use Rattle.seq_tree.specs.declared.tree.OpName.{OpName}
use Rattle.seq_cost.specs.declared.written.Call.{Call}

-- each call once, where it is written first
abbrev pub different : List OpName → List OpName
different [] = []
different (c ∷ cs) = c ∷ filter (λ other. not (same_op c other)) (different cs)

-- the operation that is called
abbrev pub call_of : Call → OpName
call_of c = record { object = c.object.now; op = c.op.now }
