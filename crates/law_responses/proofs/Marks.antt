-- The ticks that an activation uses (its marks in the list of ticks), as that list grows.
use Rattle.std.specs.Prelude.{◌≡◌, ◌≢◌, ℕ, zero, suc, slice_get, ◌+◌, ◌==◌, Bool, true, false, List, [], ◌∷◌, ◌++◌, length, Option, Some, None, refl}
use Rattle.std.specs.List.{cons_option}
use Rattle.std.proofs.lemmas.Option.{none-some, same_Some}
use Rattle.std.proofs.Common.{subst, sym, ◌∙◌, ap, arith, append-nil}
use Rattle.rt_response.specs.Tables.{Each}
use Rattle.law_schedules.specs.Schedules.{is_by, only_if, ticks_from, ticks_of}

-- what holds of each, as tables and schedules say it, holds of one
pub each-at : {A : Type 0} (P : A → Type 0) (xs : List A) (i : ℕ) (x : A) → Each P xs → slice_get xs i ≡ Some x → P x
each-at P [] i x h e = absurd (none-some x e)
each-at P (y ∷ xs) zero x h e = subst P (same_Some y x e) h.0
each-at P (y ∷ xs) (suc i) x h e = each-at P xs i x h.1 e

-- a tick of this number, where this activation uses it
abbrev pub mark : ℕ → ℕ → Option ℕ → List ℕ
mark m k o = cons_option (only_if (is_by k o) m) []

cons-append : (x : Option ℕ) (xs ys : List ℕ) → cons_option x (xs ++ ys) ≡ cons_option x xs ++ ys
cons-append None xs ys = refl
cons-append (Some x) xs ys = refl

pub marks-grown : (m k : ℕ) (o : Option ℕ) (ticks : List (Option ℕ)) → ticks_from m k (ticks ++ o ∷ [])
    ≡ ticks_from m k ticks ++ mark (m + length ticks) k o
marks-grown m k o [] = let e : m ≡ m + 0 = omega arith in ap (λ n. mark n k o) e
marks-grown m k o (x ∷ xs) =
    let e : m + 1 + length xs ≡ m + length (x ∷ xs) = omega arith in
    ap (cons_option (only_if (is_by k x) m)) (marks-grown (m + 1) k o xs)
    ∙ cons-append (only_if (is_by k x) m) (ticks_from (m + 1) k xs) (mark (m + 1 + length xs) k o)
    ∙ ap (λ n. ticks_from m k (x ∷ xs) ++ mark n k o) e

-- a tick that another uses, or none
pub marks-other : (k : ℕ) (o : Option ℕ) (ticks : List (Option ℕ)) → is_by k o ≡ false → ticks_of k (ticks ++ o ∷ []) ≡ ticks_of k ticks
marks-other k o ticks e =
    marks-grown 0 k o ticks ∙ ap (λ b. ticks_of k ticks ++ cons_option (only_if b (0 + length ticks)) []) e ∙ append-nil (ticks_of k ticks)

-- a tick that it uses
pub marks-own : (k : ℕ) (o : Option ℕ) (ticks : List (Option ℕ)) → is_by k o ≡ true
    → ticks_of k (ticks ++ o ∷ []) ≡ ticks_of k ticks ++ length ticks ∷ []
marks-own k o ticks e =
    let n : 0 + length ticks ≡ length ticks = omega arith in
    marks-grown 0 k o ticks ∙ ap (λ b. ticks_of k ticks ++ cons_option (only_if b (0 + length ticks)) []) e ∙ ap (λ i. ticks_of k ticks ++ i ∷ []) n

pub by-own : (k : ℕ) → is_by k (Some k) ≡ true
by-own k = grind arith

pub by-other : (j k : ℕ) → j ≢ k → is_by j (Some k) ≡ false
by-other j k differ = go (k == j) refl
  where
    go : (b : Bool) → (k == j) ≡ b → b ≡ false
    go true e = let same : k ≡ j = grind arith in absurd (differ (sym same))
    go false e = refl
