-- Tests of two numbers.
use Rattle.std.proofs.Common.{◌≡◌, ◌⊎◌, inl, inr, ◌<◌, ◌≤◌, ℕ, Bool, true, false, refl}
use Rattle.std.specs.Prelude.{nat_lt}
use Rattle.std.proofs.lemmas.Bool.{ltb-true, ltb-false}

-- what a test says
abbrev pub Told : ℕ → ℕ → Type 0
Told n m = ((nat_lt n m ≡ true) × (n < m)) ⊎ ((nat_lt n m ≡ false) × (m ≤ n))

-- a test of two numbers, and what it says
pub less : (n m : ℕ) → Told n m
less n m = by (nat_lt n m) refl
  where
    by : (b : Bool) → nat_lt n m ≡ b → Told n m
    by true e = inl (e, ltb-true n m e)
    by false e = inr (e, ltb-false n m e)
