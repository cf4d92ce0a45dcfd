-- The levels of operators in the program and in the definitions.
-- A sum and a product are apart in the grammar and one in what may stand beside a relation.
use Rattle.seq_tree.specs.Levels as levels
use Rattle.seq_check.specs.declared.sorts.Level.{Level}
use Rattle.seq_check.specs.declared.sorts.Level.TheVariants.{Logical, Relational, Arithmetic}

-- the level of the program that a level stands for: both arithmetic levels are one
abbrev pub level_view : levels.Level → Level
level_view levels.Logical = Logical
level_view levels.Relational = Relational
level_view levels.Adding = Arithmetic
level_view levels.Multiplying = Arithmetic
