-- The variables among actuals, by a test of names.
-- An actual that is no variable passes none.
use Rattle.std.specs.Prelude.{Bool, false}
use Rattle.seq_tree.specs.Names.{Name}
use Rattle.seq_tree.specs.Expressions.{Expression, Variable}
use Rattle.seq_tree.specs.Faults.{is_variable}

-- whether an actual is a variable whose name passes the test
abbrev pub is_seen : (Name → Bool) → Expression → Bool
is_seen test (Variable name) = test name
is_seen test _ = false

-- whether two actuals are one variable
abbrev pub is_same : Expression → Expression → Bool
is_same (Variable name) other = is_variable name other
is_same _ other = false
