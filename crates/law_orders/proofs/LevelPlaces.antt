-- Threads beside what a function gives their places.
use Rattle.std.specs.Prelude.{◌≡◌, ℕ, zero, suc, ◌+◌, List, [], ◌∷◌, map, zip, length, slice_get, Some}
use Rattle.std.specs.List.{range_with_len}
use Rattle.std.proofs.Common.{sym, ◌∙◌, ap, arith, inl, inr}
use Rattle.law_lists.proofs.Shared.Lists.{IsIn}
use Rattle.std.proofs.lemmas.Option.{none-some, same_Some}

pub zip-in : {A : Type 0} (g : ℕ → ℕ) (m : ℕ) (xs : List A) (u : A × ℕ) → IsIn u (zip xs (map g (range_with_len m (length xs))))
    → (k : ℕ) × (slice_get xs k ≡ Some u.0) × (u.1 ≡ g (m + k))
zip-in g m [] u h = absurd h
zip-in g m (x ∷ xs) u (inl e) = (0, ap (λ p. Some p.0) e, sym (ap (λ p. p.1) e) ∙ (let z : m ≡ m + 0 = omega arith in ap g z))
zip-in g m (x ∷ xs) u (inr h) = let r = zip-in g (m + 1) xs u h in (suc r.0, r.1, r.2 ∙ (let z : m + 1 + r.0 ≡ m + suc r.0 = omega arith in ap g z))

pub in-zip : {A : Type 0} (g : ℕ → ℕ) (m : ℕ) (xs : List A) (k : ℕ) (x : A) → slice_get xs k ≡ Some x
    → IsIn (x, g (m + k)) (zip xs (map g (range_with_len m (length xs))))
in-zip g m [] k x e = absurd (none-some x e)
in-zip {A} g m (y ∷ xs) zero x e =
    let z : m ≡ m + 0 = omega arith in inl (ap (λ a. (a, g m)) (same_Some y x e) ∙ ap (λ n. (x, g n)) z)
in-zip {A} g m (y ∷ xs) (suc k) x e =
    let z : m + 1 + k ≡ m + suc k = omega arith in
    inr (Rattle.std.proofs.Common.subst (λ n. IsIn (x, g n) (zip xs (map g (range_with_len (m + 1) (length xs))))) z (in-zip g (m + 1) xs k x e))
