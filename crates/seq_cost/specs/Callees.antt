-- What is known of the operations that a block calls.
-- Where two entries have one name, the first counts; a call of an operation without an entry counts nothing besides the call.
use Rattle.std.specs.Prelude.{ℕ, List, [], ◌∷◌, if◌then◌else◌}
use Rattle.seq_tree.specs.Names.{Name}
use Rattle.seq_tree.specs.Dearest.{is_call_of}
use Rattle.seq_cost.specs.declared.accounts.Callee.{Callee}
use Rattle.seq_cost.specs.declared.accounts.Started.{Started}

-- the cost of the first callee of this name
abbrev pub callee_cost : List Callee → Name → Name → ℕ
callee_cost [] object op = 0
callee_cost (c ∷ cs) object op = if is_call_of c.name object op then c.cost else callee_cost cs object op

-- the number of the first callee of this name
abbrev pub callee_starts : List Started → Name → Name → ℕ
callee_starts [] object op = 0
callee_starts (c ∷ cs) object op = if is_call_of c.name object op then c.starts else callee_starts cs object op
