-- Two numbers, one of which is less or not, and what holds of both sides of a choice.
use Rattle.std.proofs.Common.{◌≡◌, ◌⊎◌, inl, inr, ◌<◌, ◌≤◌, ℕ, Bool, true, false, refl}
use Rattle.std.specs.Prelude.{nat_lt, if◌then◌else◌}
use Rattle.std.proofs.lemmas.Bool.{ltb-false, ltb-true}

pub order : (n m : ℕ) → (n < m) ⊎ (m ≤ n)
order n m = by (nat_lt n m) refl
  where
    by : (b : Bool) → nat_lt n m ≡ b → (n < m) ⊎ (m ≤ n)
    by true e = inl (ltb-true n m e)
    by false e = inr (ltb-false n m e)

pub by_choice : {A : Type 0} (P : A → Type 0) (b : Bool) (x y : A) → P x → P y → P (if b then x else y)
by_choice P true x y h k = h
by_choice P false x y h k = k

-- and of two choices
pub by_both : {A B : Type 0} (P : A → B → Type 0) (b : Bool) (x y : A) (x' y' : B) → P x x' → P y y'
    → P (if b then x else y) (if b then x' else y')
by_both P true x y x' y' h k = h
by_both P false x y x' y' h k = k

-- and of the four sides of three choices, one inside the other
pub by_four : {A B : Type 0} (P : A → B → Type 0) (b c d : Bool) (x y z w : A) (x' y' z' w' : B) → P x x' → P y y' → P z z' → P w w'
    → P (if b then (if c then x else (if d then y else z)) else w) (if b then (if c then x' else (if d then y' else z')) else w')
by_four P b c d x y z w x' y' z' w' h k l m = by_both P b _ _ _ _ (by_both P c _ _ _ _ h (by_both P d _ _ _ _ k l)) m
