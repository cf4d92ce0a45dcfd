-- Words of different lengths are no same words.
use Rattle.std.proofs.Common.{◌≡◌, ℕ, suc, Bool, true, false, ◌&&◌, List, [], ◌∷◌, length, refl, ap}
use Rattle.std.specs.Str.{bytes_eq, str_to_ascii_lowercase}

neither : (a b : Bool) → false ≡ b → false ≡ (a && b)
neither true b e = e
neither false b e = refl

pub other-length : (xs ys : List ℕ) → (length xs ≡ length ys → ⊥) → false ≡ bytes_eq (str_to_ascii_lowercase xs) ys
other-length [] [] h = absurd (h refl)
other-length [] (y ∷ ys) h = refl
other-length (x ∷ xs) [] h = refl
other-length (x ∷ xs) (y ∷ ys) h = neither _ _ (other-length xs ys (λ e. h (ap suc e)))

pub ruleset word_steps = (other-length)
