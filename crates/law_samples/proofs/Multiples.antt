-- Multiples of a number: the next one is that number away, and among numbers one after another there are few.
use Rattle.std.proofs.Common.{◌≡◌, ℕ, zero, suc, ◌+◌, ◌*◌, ◌/◌, ◌%◌, ◌<◌, ◌≤◌, true, false, cond, eqb, ◌⊎◌, inl, inr, List, ◌∷◌, length, refl}
use Rattle.std.proofs.Common.{subst, arith, mul-le-mul_right, eq-eqb, ne_eqb}
use Rattle.std.specs.Prelude.{filter, ◌==◌}
use Rattle.std.proofs.lemmas.Bool.{cases_lt}
use Rattle.std.proofs.lemmas.Nat.{div-add-mod', mod_below, mod-mul-add}
use Rattle.std.proofs.Math.Nat.{lt_of_mul-lt-mul_right, mul-suc, zero-mod}
use Rattle.sample_design.specs.Samples.{from_on}

pub next_multiple : (t u m : ℕ) → t % m ≡ 0 → u % m ≡ 0 → u < t → u + m ≤ t
next_multiple t u m whole whole' less =
    let a : t / m * m ≡ t = omega (arith, div-add-mod' t m, whole) in
    let b : u / m * m ≡ u = omega (arith, div-add-mod' u m, whole') in
    let low : u / m * m < t / m * m = omega (arith, a, b, less) in
    let fewer : u / m < t / m = lt_of_mul-lt-mul_right m low in
    let more : (u / m + 1) * m ≤ t / m * m = mul-le-mul_right m (omega (arith, fewer)) in
    omega (arith, a, b, more)

-- what is left of the next number: one more, or nothing
pub turn : (t m : ℕ) → 0 < m → ((suc t % m ≡ suc (t % m)) × (suc (t % m) < m)) ⊎ ((suc t % m ≡ 0) × (suc (t % m) ≡ m))
turn t m positive = by (cases_lt (suc (t % m)) m)
  where
    whole : t / m * m + t % m ≡ t
    whole = div-add-mod' t m

    by : (suc (t % m) < m) ⊎ (m ≤ suc (t % m)) → ((suc t % m ≡ suc (t % m)) × (suc (t % m) < m)) ⊎ ((suc t % m ≡ 0) × (suc (t % m) ≡ m))
    by (inl less) =
        let same : t / m * m + suc (t % m) ≡ suc t = omega (arith, whole) in
        inl (subst (λ s. s % m ≡ suc (t % m)) same (mod-mul-add (t / m) m (suc (t % m)) less), less)
    by (inr most) =
        let last : suc (t % m) ≡ m = omega (arith, most, mod_below t m positive) in
        let same : (t / m + 1) * m + 0 ≡ suc t = omega (arith, whole, last) in
        inr (subst (λ s. s % m ≡ 0) same (mod-mul-add (t / m + 1) m 0 positive), last)

-- those of numbers that are multiples
abbrev pub multiples : ℕ → List ℕ → List ℕ
multiples m ts = filter (λ t. t % m == 0) ts

-- behind a number, as many as it is short of a multiple counted in
pub few : (m last count : ℕ) → 0 < m → m * length (multiples m (from_on (suc last) count)) ≤ count + last % m
few m last zero positive = omega arith
few m last (suc count) positive = by (turn last m positive) (few m (suc last) count positive)
  where
    rest : List ℕ
    rest = multiples m (from_on (suc (suc last)) count)

    by : ((suc last % m ≡ suc (last % m)) × (suc (last % m) < m)) ⊎ ((suc last % m ≡ 0) × (suc (last % m) ≡ m))
        → m * length rest ≤ count + suc last % m
        → m * length (cond (eqb (suc last % m) 0) (suc last ∷ rest) rest) ≤ suc count + last % m
    by (inl h) less =
        let step : suc last % m ≡ suc (last % m) = h.0 in
        let none : eqb (suc last % m) 0 ≡ false = ne_eqb (suc last % m) 0 (λ e. absurd (omega (arith, step, e))) in
        rw none (omega (arith, less, step))
    by (inr h) less =
        let step : suc last % m ≡ 0 = h.0 in
        let one : eqb (suc last % m) 0 ≡ true = eq-eqb (suc last % m) 0 step in
        let whole : m * suc (length rest) ≡ m * length rest + m = mul-suc m (length rest) in
        rw (one, whole) (omega (arith, less, step, h.1))

-- from nothing on: one more than fit behind it
pub few_from_none : (m count : ℕ) → 0 < m → m * length (multiples m (from_on 0 (suc count))) ≤ m + count
few_from_none m count positive =
    let less : m * length (multiples m (from_on 1 count)) ≤ count + 0 % m = few m 0 count positive in
    let none : 0 % m ≡ 0 = rw zero-mod refl in
    let one : eqb (0 % m) 0 ≡ true = eq-eqb (0 % m) 0 none in
    let whole : m * suc (length (multiples m (from_on 1 count))) ≡ m * length (multiples m (from_on 1 count)) + m
    = mul-suc m (length (multiples m (from_on 1 count))) in
    rw (one, whole) (omega (arith, less, none))
