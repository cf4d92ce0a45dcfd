-- Orders by their places: each thread stands in an order once, and its priority counts the places from its own to the end.
use Rattle.std.specs.Prelude.{◌≡◌, ◌⊎◌, ℕ, zero, suc, ◌+◌, ◌≤◌, ◌<◌, ◌==◌, Bool, true, cond, List, [], ◌∷◌, length, take, sum_by, slice_get, Some}
use Rattle.std.specs.Prelude.{if◌then◌else◌, refl}
use Rattle.std.specs.List.{range_with_len}
use Rattle.std.specs.List.Sorted.{IsPermutation}
use Rattle.std.proofs.Common.{sym, ◌∙◌, ap, arith, inl, inr}
use Rattle.std.proofs.lemmas.Bool.{or_cases, or_left, or_right, eqb-true, eq-eqb, ne_eqb, cases_eq, cases_order}
use Rattle.std.proofs.lemmas.List.FromFn.{length-range_with_len}
use Rattle.std.proofs.lemmas.List.Sorted.{length_permutation, sum_by-IsPermutation, list_any-IsPermutation}
use Rattle.std.proofs.lemmas.List.Sums.{sum_by-cons}
use Rattle.std.proofs.lemmas.Option.{none-some, same_Some}
use Rattle.law_lists.proofs.Shared.Lists.{any-at, any-in, at-in}
use Rattle.law_orders.specs.Orders.{has_place, priority_in}

-- a place that is among some stands at one of them
pub place-stands : (xs : List ℕ) (k : ℕ) → has_place xs k ≡ true → (i : ℕ) × (slice_get xs i ≡ Some k)
place-stands xs k h =
    let r = any-at (λ p. p == k) xs h in (r.0, r.2 ∙ ap Some (eqb-true r.1 k r.3))

pub stands-place : (xs : List ℕ) (i k : ℕ) → slice_get xs i ≡ Some k → has_place xs k ≡ true
stands-place xs i k e = any-in (λ p. p == k) k xs (at-in xs i k e) (eq-eqb k k refl)

range-has : (m n k : ℕ) → has_place (range_with_len m n) k ≡ true → (m ≤ k) × (k < m + n)
range-has m zero k h = cc
range-has m (suc n) k h = by (λ q. range-has (m + 1) n k q) (or_cases (m == k) (has_place (range_with_len (m + 1) n) k) h)
  where
    by : (has_place (range_with_len (m + 1) n) k ≡ true → (m + 1 ≤ k) × (k < m + 1 + n)) → ((m == k) ≡ true) ⊎ (has_place (range_with_len (m + 1) n) k ≡ true)
        → (m ≤ k) × (k < m + suc n)
    by more (inl e) = let z = eqb-true m k e in (omega (arith, z), omega (arith, z))
    by more (inr e) = let z = more e in (omega (arith, z.0), omega (arith, z.1))

has-range : (m n k : ℕ) → m ≤ k → k < m + n → has_place (range_with_len m n) k ≡ true
has-range m zero k low high = absurd (omega (arith, low, high))
has-range m (suc n) k low high = by (λ a b. has-range (m + 1) n k a b) (cases_eq m k)
  where
    by : (m + 1 ≤ k → k < m + 1 + n → has_place (range_with_len (m + 1) n) k ≡ true) → (m ≡ k) ⊎ (m ≡ k → ⊥) → has_place (range_with_len m (suc n)) k ≡ true
    by more (inl e) = or_left (m == k) (has_place (range_with_len (m + 1) n) k) (eq-eqb m k e)
    by more (inr e) = or_right (m == k) (has_place (range_with_len (m + 1) n) k) (more (omega (arith, low, e)) (omega (arith, high)))

-- 1 for true
abbrev one_if : Bool → ℕ
one_if b = cond b 1 0

-- how often a number stands in a list
abbrev times : ℕ → List ℕ → ℕ
times p xs = sum_by (λ x. one_if (x == p)) xs

times-cons : (p x : ℕ) (xs : List ℕ) → times p (x ∷ xs) ≡ one_if (x == p) + times p xs
times-cons p x xs = sum_by-cons (λ y. one_if (y == p)) x xs

times-none : (p m n : ℕ) → p < m → times p (range_with_len m n) ≡ 0
times-none p m zero h = refl
times-none p m (suc n) h =
    let one = times-cons p m (range_with_len (m + 1) n) in
    let two : one_if (m == p) ≡ 0 = ap one_if (ne_eqb m p (λ e. omega (arith, h, e))) in
    let rest = times-none p (m + 1) n (omega (arith, h)) in
    omega (arith, one, two, rest)

times-once : (p m n : ℕ) → times p (range_with_len m n) ≤ 1
times-once p m zero = omega arith
times-once p m (suc n) = by (cases_eq m p) (times-once p (m + 1) n)
  where
    by : (m ≡ p) ⊎ (m ≡ p → ⊥) → times p (range_with_len (m + 1) n) ≤ 1 → times p (range_with_len m (suc n)) ≤ 1
    by (inl e) rest =
        let one = times-cons p m (range_with_len (m + 1) n) in
        let two : one_if (m == p) ≡ 1 = ap one_if (eq-eqb m p e) in
        let none = times-none p (m + 1) n (omega (arith, e)) in
        omega (arith, one, two, none)
    by (inr e) rest =
        let one = times-cons p m (range_with_len (m + 1) n) in
        let two : one_if (m == p) ≡ 0 = ap one_if (ne_eqb m p e) in
        omega (arith, one, two, rest)

times-some : (p : ℕ) (xs : List ℕ) (i : ℕ) → slice_get xs i ≡ Some p → 1 ≤ times p xs
times-some p [] i e = absurd (none-some p e)
times-some p (x ∷ xs) zero e =
    let one = times-cons p x xs in
    let two : one_if (x == p) ≡ 1 = ap one_if (eq-eqb x p (same_Some x p e)) in
    omega (arith, one, two)
times-some p (x ∷ xs) (suc i) e = let one = times-cons p x xs in let rest = times-some p xs i e in omega (arith, one, rest)

times-twice : (p : ℕ) (xs : List ℕ) (i j : ℕ) → i < j → slice_get xs i ≡ Some p → slice_get xs j ≡ Some p → 2 ≤ times p xs
times-twice p [] i j less e g = absurd (none-some p e)
times-twice p (x ∷ xs) i zero less e g = absurd (omega (arith, less))
times-twice p (x ∷ xs) zero (suc j) less e g =
    let one = times-cons p x xs in
    let two : one_if (x == p) ≡ 1 = ap one_if (eq-eqb x p (same_Some x p e)) in
    let rest = times-some p xs j g in
    omega (arith, one, two, rest)
times-twice p (x ∷ xs) (suc i) (suc j) less e g =
    let one = times-cons p x xs in let rest = times-twice p xs i j (omega (arith, less)) e g in omega (arith, one, rest)

-- lists in which no number stands twice
abbrev pub AtOnce : List ℕ → Type 0
AtOnce xs = (i j p : ℕ) → slice_get xs i ≡ Some p → slice_get xs j ≡ Some p → i ≡ j

module _ (n : ℕ) (o : List ℕ) (order : IsPermutation (range_with_len 0 n) o) where
  pub order-long : length o ≡ n
  order-long = length_permutation (range_with_len 0 n) o order ∙ length-range_with_len 0 n

  pub order-same : (k : ℕ) → has_place (range_with_len 0 n) k ≡ has_place o k
  order-same k = list_any-IsPermutation (λ p. p == k) (range_with_len 0 n) o order

  pub order-within : (i k : ℕ) → slice_get o i ≡ Some k → k < n
  order-within i k e = let r = range-has 0 n k (order-same k ∙ stands-place o i k e) in omega (arith, r.1)

  pub order-has : (k : ℕ) → k < n → (i : ℕ) × (slice_get o i ≡ Some k)
  order-has k h = place-stands o k (sym (order-same k) ∙ has-range 0 n k (omega arith) (omega (arith, h)))

  pub order-once : AtOnce o
  order-once i j p e g = by (cases_order i j)
    where
      once : times p o ≤ 1
      once = let a = sum_by-IsPermutation (λ x. one_if (x == p)) (range_with_len 0 n) o order in let b = times-once p 0 n in omega (arith, a, b)

      by : (i ≡ j) ⊎ ((i < j) ⊎ (j < i)) → i ≡ j
      by (inl e') = e'
      by (inr (inl less)) = absurd (let a = times-twice p o i j less e g in let b = once in omega (arith, a, b))
      by (inr (inr less)) = absurd (let a = times-twice p o j i less g e in let b = once in omega (arith, a, b))

-- a priority counts from its place to the end
pub priority-place : (o : List ℕ) → AtOnce o → (i k : ℕ) → slice_get o i ≡ Some k → priority_in o k + i ≡ length o
priority-place [] once i k e = absurd (none-some k e)
priority-place (first ∷ rest) once zero k e =
    let z : priority_in (first ∷ rest) k ≡ suc (length rest) = ap (λ b. if b then suc (length rest) else priority_in rest k) (eq-eqb first k (same_Some first k e)) in
    omega (arith, z)
priority-place (first ∷ rest) once (suc i) k e =
    let other : first ≡ k → ⊥ = λ same. absurd (let q : 0 ≡ suc i = once 0 (suc i) k (ap Some same) e in omega (arith, q)) in
    let z : priority_in (first ∷ rest) k ≡ priority_in rest k = ap (λ b. if b then suc (length rest) else priority_in rest k) (ne_eqb first k other) in
    let more = priority-place rest (λ a b p u v. let q : suc a ≡ suc b = once (suc a) (suc b) p u v in omega (arith, q)) i k e in
    omega (arith, z, more)

-- the first of a list, by their places
pub take-at : {A : Type 0} (m : ℕ) (xs : List A) (j : ℕ) (x : A) → slice_get (take m xs) j ≡ Some x → (j < m) × (slice_get xs j ≡ Some x)
take-at zero xs j x e = absurd (none-some x e)
take-at (suc m) [] j x e = absurd (none-some x e)
take-at (suc m) (y ∷ xs) zero x e = (omega arith, e)
take-at (suc m) (y ∷ xs) (suc j) x e = let r = take-at m xs j x e in (omega (arith, r.0), r.1)

pub at-take : {A : Type 0} (m : ℕ) (xs : List A) (j : ℕ) (x : A) → j < m → slice_get xs j ≡ Some x → slice_get (take m xs) j ≡ Some x
at-take zero xs j x less e = absurd (omega (arith, less))
at-take (suc m) [] j x less e = absurd (none-some x e)
at-take (suc m) (y ∷ xs) zero x less e = e
at-take (suc m) (y ∷ xs) (suc j) x less e = at-take m xs j x (omega (arith, less)) e

-- the threads that aren't below a place of an order
pub not-below : (o : List ℕ) (i j k : ℕ) → slice_get o j ≡ Some k → j ≤ i → has_place (take (suc i) o) k ≡ true
not-below o i j k e less = stands-place (take (suc i) o) j k (at-take (suc i) o j k (omega (arith, less)) e)

pub below-not : (o : List ℕ) → AtOnce o → (i j k : ℕ) → slice_get o j ≡ Some k → has_place (take (suc i) o) k ≡ true → j ≤ i
below-not o once i j k e h =
    let r = place-stands (take (suc i) o) k h in
    let s = take-at (suc i) o r.0 k r.1 in
    let same = once j r.0 k e s.1 in
    omega (arith, same, s.0)
