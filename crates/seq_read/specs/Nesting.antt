-- What is read where an `if` or a loop begins, by how much further constructs may nest.
-- Where nothing more may nest, the token that opens is the one that is told.
use Rattle.std.specs.Prelude.{ℕ, zero, suc, Bool}
use Rattle.grammar.specs.Reading.{deep_at}
use Rattle.seq_tree.specs.Names.{Name}
use Rattle.seq_read.specs.Expressions.{expression_at}
use Rattle.seq_read.specs.Statements.{StatementReader, if_at, for_at, block_at}

-- an `if` inside which they nest less deep than so
abbrev pub branching_at : (Name → Bool) → ℕ → ℕ → StatementReader
branching_at is_name most zero = deep_at
branching_at is_name most (suc deeper) = if_at (expression_at is_name most deeper) (block_at is_name most deeper)

-- a loop inside which they nest so
abbrev pub looping_at : (Name → Bool) → ℕ → ℕ → StatementReader
looping_at is_name most zero = deep_at
looping_at is_name most (suc deeper) = for_at is_name (block_at is_name most deeper)
