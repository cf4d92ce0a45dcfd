-- Lookups: what is found under a name.
-- Names are those of the lexical grammar; the first variable of a name hides later ones.
use Rattle.std.specs.Prelude.{ℕ, Bool, find, Option, option_map}
use Rattle.seq_tree.specs.Names.{Name, same_name}
use Rattle.seq_tree.specs.Variables.{Variables}

-- whether a variable has this name
abbrev pub has_name : Name → Name × ℕ → Bool
has_name name v = same_name name v.0

-- the value of the first variable of that name, where there is one
abbrev pub found : Name → Variables → Option ℕ
found name vs = option_map (λ v. v.1) (find (has_name name) vs)
