-- The place of the first item of a list that passes a test, and so that of the first of a name, and of an operation.
-- Places count from 0. A table of places has such a place for each name.
use Rattle.std.specs.Prelude.{ℕ, suc, Bool, List, [], ◌∷◌, Option, Some, None, if◌then◌else◌}
use Rattle.seq_tree.specs.Calls.{same_op}
use Rattle.seq_tree.specs.Names.{Name, same_name}
use Rattle.seq_tree.specs.declared.tree.OpName.{OpName}

-- the place of the first item that passes a test, where the places begin with this one
abbrev pub place_where : {A : Type 0} → (A → Bool) → ℕ → List A → Option ℕ
place_where test place [] = None
place_where test place (x ∷ xs) = if test x then Some place else place_where test (suc place) xs

-- the place of the first of a name
abbrev pub place_from : ℕ → Name → List Name → Option ℕ
place_from place name = place_where (λ n. same_name n name) place

-- the place of the first of an operation
abbrev pub op_place_from : ℕ → List OpName → OpName → Option ℕ
op_place_from place ops op = place_where (λ o. same_op o op) place ops
