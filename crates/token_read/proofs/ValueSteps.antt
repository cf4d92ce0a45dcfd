-- The value of digits, one byte at a time.
use Rattle.std.proofs.Common.{◌≡◌, ℕ, suc, ◌+◌, ◌-◌, ◌*◌, ◌<◌, ◌≤◌, Bool, true, false, cond, List, [], ◌∷◌, length, drop, get_or, eqb, refl, ap}
use Rattle.std.proofs.Common.{arith, add-one, drop-cons}
use Rattle.std.proofs.lemmas.List.{drop_all}
use Rattle.std.proofs.lemmas.Bool.{ne_eqb}
use Rattle.seq_tree.specs.Lexis.{value_from, is_underscore}

-- a byte never makes a value less
digit-le : (under : Bool) (before n : ℕ) → before ≤ cond under before (10 * before + n)
digit-le true before n = omega arith
digit-le false before n = omega arith

-- digits never make a value less
pub value_from-le : (before : ℕ) (cs : List ℕ) → before ≤ value_from before cs
value_from-le before [] = omega arith
value_from-le before (c ∷ cs) =
    let first = digit-le (is_underscore c) before (c - 48) in
    let others = value_from-le (cond (is_underscore c) before (10 * before + (c - 48))) cs in
    omega arith

pub value_from-under : (before : ℕ) (cs : List ℕ) (i : ℕ) → i < length cs → get_or cs i 0 ≡ 95
    → value_from before (drop i cs) ≡ value_from before (drop (i + 1) cs)
value_from-under before cs i h u = rw (drop-cons cs i 0, u, add-one) refl

pub value_from-digit : (before : ℕ) (cs : List ℕ) (i : ℕ) → i < length cs → (get_or cs i 0 ≡ 95 → ⊥)
    → value_from before (drop i cs) ≡ value_from (10 * before + (get_or cs i 0 - 48)) (drop (i + 1) cs)
value_from-digit before cs i h u =
    let e : eqb (get_or cs i 0) 95 ≡ false = ne_eqb _ _ u in
    rw (drop-cons cs i 0, add-one) (ap (λ under. value_from (cond under before (10 * before + (get_or cs i 0 - 48))) (drop (suc i) cs)) e)

pub value_from-end : (before : ℕ) (cs : List ℕ) (i : ℕ) → length cs ≤ i → value_from before (drop i cs) ≡ before
value_from-end before cs i h = rw (drop_all) refl

pub ruleset value_steps = (value_from-end, value_from-le, value_from-under, value_from-digit)
