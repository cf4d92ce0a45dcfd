-- A variable reads as what is found under its name, and as 0 where nothing is.
use Rattle.std.proofs.Common.{◌≡◌, ℕ, Bool, true, false, [], ◌∷◌, refl}
use Rattle.std.specs.Option.{unwrap_or}
use Rattle.std.specs.Bool.{Decides}
use Rattle.std.proofs.lemmas.Bool.Decides.{same_from_decides}
use Rattle.std.proofs.lemmas.Slice.Eq.{bytes_eq-Decides}
use Rattle.seq_tree.specs.Names.{Name, same_name}
use Rattle.seq_tree.specs.Variables.{Variables, read}
use Rattle.seq_eval.specs.Lookups.{found}

-- what says whether two names are equal is the test of the definitions
pub same-names : (b : Bool) (x y : Name) → Decides b (x ≡ y) → b ≡ same_name x y
same-names b x y h = same_from_decides b (same_name x y) h (bytes_eq-Decides x y)

pub ruleset names = (same-names)

-- by whether the first variable has the name
found_first : (b : Bool) (name : Name) (v : Name × ℕ) (vs : Variables) → same_name name v.0 ≡ b → unwrap_or (found name vs) 0 ≡ read name vs
    → unwrap_or (found name (v ∷ vs)) 0 ≡ read name (v ∷ vs)
found_first true name v vs e rest = simp e refl
found_first false name v vs e rest = simp (e, rest) refl

pub found_read : (name : Name) (vs : Variables) → unwrap_or (found name vs) 0 ≡ read name vs
found_read name [] = refl
found_read name (v ∷ vs) = found_first (same_name name v.0) name v vs refl (found_read name vs)
