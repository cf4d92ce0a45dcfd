-- What a list of variables stands for: the innermost stands last in the list, and first in the definitions.
-- Values are whole numbers below 2^32.
use Rattle.std.specs.Prelude.{List, [], ◌∷◌, fold}
use Rattle.seq_tree.specs.Variables.{Variables}
use Rattle.task_runtime.specs.declared.values.Var.{Var}

-- variables with one more inside them
abbrev pub with_var : Variables → Var → Variables
with_var rest v = (v.name.now, v.value) ∷ rest

-- the variables of a list
abbrev pub vars_of : List Var → Variables
vars_of vs = fold with_var [] vs
