-- Numbers that differ pairwise by at least a length: at most one stands in a cell of this length, and so at most m in m cells.
use Rattle.std.specs.Prelude.{◌≡◌, ◌⊎◌, ℕ, zero, suc, ◌+◌, ◌*◌, ◌≤◌, ◌<◌, ◌&&◌, Bool, true, false, List, [], ◌∷◌, Option, Some, None, nat_le}
use Rattle.std.specs.Prelude.{nat_lt, refl}
use Rattle.std.proofs.Common.{arith, zero-le, inl, inr, le_trans}
use Rattle.rt_response.specs.Tables.{Each}
use Rattle.law_schedules.proofs.Ticks.{one}
use Rattle.law_schedules.proofs.Sums.{sum_of, sum_of-le}

-- whether a number is there and in a window: 1 or 0
abbrev pub inside : ℕ → ℕ → Option ℕ → ℕ
inside low len None = 0
inside low len (Some p) = one (nat_le low p && nat_lt p (low + len))

-- each two elements, the earlier first
abbrev pub Pairs : {A : Type 0} → (A → A → Type 0) → List A → Type 0
Pairs R [] = Unit {0}
Pairs R (x ∷ xs) = Each (R x) xs × Pairs R xs

-- numbers that differ by at least a length
abbrev pub AreApart : ℕ → ℕ → ℕ → Type 0
AreApart len p q = (p + len ≤ q) ⊎ (q + len ≤ p)

abbrev pub PlacedApart : {A : Type 0} → (A → Option ℕ) → ℕ → A → A → Type 0
PlacedApart place len x y = (p q : ℕ) → place x ≡ Some p → place y ≡ Some q → AreApart len p q

outside : (low len p q : ℕ) → low ≤ p → p < low + len → AreApart len p q → one (nat_le low q && nat_lt q (low + len)) ≡ 0
outside low len p q h k apart = elim apart [ inl a ↦ above a | inr b ↦ below b ]
  where
    above : p + len ≤ q → one (nat_le low q && nat_lt q (low + len)) ≡ 0
    above a = let e : nat_lt q (low + len) ≡ false = grind arith in rw e (both_false (nat_le low q))
      where
        both_false : (b : Bool) → one (b && false) ≡ 0
        both_false true = refl
        both_false false = refl

    below : q + len ≤ p → one (nat_le low q && nat_lt q (low + len)) ≡ 0
    below b = let e : nat_le low q ≡ false = grind arith in rw e refl

-- beside one in a cell no other stands
cell-none : {A : Type 0} (place : A → Option ℕ) (low len : ℕ) (x : A) (p : ℕ) (xs : List A) → place x ≡ Some p → low ≤ p → p < low + len
    → Each (PlacedApart place len x) xs
    → sum_of (λ y. inside low len (place y)) xs ≡ 0
cell-none place low len x p [] is h k apart = refl
cell-none place low len x p (y ∷ xs) is h k apart =
    let rest : sum_of (λ z. inside low len (place z)) xs ≡ 0 = cell-none place low len x p xs is h k apart.1 in
    let first : inside low len (place y) ≡ 0 = go (place y) refl in
    omega arith
  where
    go : (o : Option ℕ) → place y ≡ o → inside low len o ≡ 0
    go None e = refl
    go (Some q) e = outside low len p q h k (apart.0 p q is e)

-- in a cell at most one stands
cell-one : {A : Type 0} (place : A → Option ℕ) (low len : ℕ) (xs : List A) → Pairs (PlacedApart place len) xs
    → sum_of (λ y. inside low len (place y)) xs ≤ 1
cell-one place low len [] apart = zero-le
cell-one place low len (x ∷ xs) apart =
    go (place x) refl (cell-one place low len xs apart.1)
  where
    at_place : (p : ℕ) → place x ≡ Some p → (a b : Bool) → nat_le low p ≡ a → nat_lt p (low + len) ≡ b → sum_of (λ z. inside low len (place z)) xs ≤ 1
        → one (a && b) + sum_of (λ z. inside low len (place z)) xs ≤ 1
    at_place p e true true ha hb rest =
        let above : low ≤ p = grind arith in
        let below : p < low + len = grind arith in
        let none : sum_of (λ z. inside low len (place z)) xs ≡ 0 = cell-none place low len x p xs e above below apart.0 in
        omega arith
    at_place p e true false ha hb rest = omega arith
    at_place p e false b ha hb rest = omega arith

    go : (o : Option ℕ) → place x ≡ o → sum_of (λ z. inside low len (place z)) xs ≤ 1
        → inside low len o + sum_of (λ z. inside low len (place z)) xs ≤ 1
    go None e rest = omega arith
    go (Some p) e rest = at_place p e (nat_le low p) (nat_lt p (low + len)) refl refl rest

inside-split : (low len first rest : ℕ) (o : Option ℕ) → len ≡ first + rest → inside low len o ≤ inside low first o + inside (low + first) rest o
inside-split low len first rest None h = zero-le
inside-split low len first rest (Some p) h =
    go (nat_le low p) (nat_lt p (low + len)) (nat_lt p (low + first)) (nat_le (low + first) p) (nat_lt p (low + first + rest)) refl refl
    refl refl refl
  where
    go : (a b c d e : Bool) → nat_le low p ≡ a → nat_lt p (low + len) ≡ b → nat_lt p (low + first) ≡ c → nat_le (low + first) p ≡ d
        → nat_lt p (low + first + rest) ≡ e
        → one (a && b) ≤ one (a && c) + one (d && e)
    go false b c d e ha hb hc hd he = zero-le
    go true false c d e ha hb hc hd he = zero-le
    go true true true d e ha hb hc hd he = omega arith
    go true true false true true ha hb hc hd he = omega arith
    go true true false true false ha hb hc hd he = absurd (grind arith)
    go true true false false e ha hb hc hd he = absurd (grind arith)

sum_of-add : {A : Type 0} (f g : A → ℕ) (xs : List A) → sum_of (λ x. f x + g x) xs ≡ sum_of f xs + sum_of g xs
sum_of-add f g [] = refl
sum_of-add f g (x ∷ xs) = let rest : sum_of (λ y. f y + g y) xs ≡ sum_of f xs + sum_of g xs = sum_of-add f g xs in omega arith

-- in m cells at most m stand
pub cells : {A : Type 0} (place : A → Option ℕ) (cell : ℕ) (xs : List A) (m low len : ℕ) → len ≡ m * cell → Pairs (PlacedApart place cell) xs
    → sum_of (λ y. inside low len (place y)) xs ≤ m
cells place cell xs zero low len h apart =
    let none : len ≡ 0 = omega arith in
    le_trans (sum_of-le (λ y. inside low len (place y)) (λ y. 0) xs (λ k x e. go (place x) none)) (zeros xs)
  where
    go : (o : Option ℕ) → len ≡ 0 → inside low len o ≤ 0
    go None e = zero-le
    go (Some p) e = two (nat_le low p) (nat_lt p (low + len)) refl refl
      where
        two : (a b : Bool) → nat_le low p ≡ a → nat_lt p (low + len) ≡ b → one (a && b) ≤ 0
        two true true ha hb = absurd (grind arith)
        two true false ha hb = zero-le
        two false b ha hb = zero-le

    zeros : {A : Type 0} (ys : List A) → sum_of (λ y. 0) ys ≤ 0
    zeros [] = zero-le
    zeros (y ∷ ys) = let rest : sum_of (λ z. 0) ys ≤ 0 = zeros ys in omega arith
cells place cell xs (suc m) low len h apart =
    let split : len ≡ cell + m * cell = omega arith in
    let first : sum_of (λ y. inside low cell (place y)) xs ≤ 1 = cell-one place low cell xs apart in
    let rest : sum_of (λ y. inside (low + cell) (m * cell) (place y)) xs ≤ m = cells place cell xs m (low + cell) (m * cell) refl apart in
    let all : sum_of (λ y. inside low len (place y)) xs ≤ sum_of (λ y. inside low cell (place y) + inside (low + cell) (m * cell) (place y)) xs =
    sum_of-le (λ y. inside low len (place y)) (λ y. inside low cell (place y) + inside (low + cell) (m * cell) (place y)) xs
    (λ k x e. inside-split low len cell (m * cell) (place x) split) in
    omega (arith, sum_of-add (λ y. inside low cell (place y)) (λ y. inside (low + cell) (m * cell) (place y)) xs)
