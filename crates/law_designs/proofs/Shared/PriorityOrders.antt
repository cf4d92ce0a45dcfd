-- Deadline-monotonic priorities: no two threads have the same, and they are 1 to the number of threads.
use Rattle.std.specs.Prelude.{◌≡◌, ◌⊎◌, ℕ, zero, suc, ◌+◌, ◌≤◌, ◌<◌, ◌==◌, ◌&&◌, nat_lt, Bool, true, false, cond, List, [], ◌∷◌, map, length}
use Rattle.std.specs.Prelude.{count_by, slice_get, Some, refl}
use Rattle.std.specs.List.{enumerate_from}
use Rattle.std.proofs.Common.{sym, ◌∙◌, ap, arith, inl, inr}
use Rattle.std.proofs.lemmas.List.Sums.{sum_by-cons}
use Rattle.analysis.specs.Priorities.{comes_after, priorities}
use Rattle.std.proofs.lemmas.List.FromFn.{length-enumerate_from}
use Rattle.std.proofs.lemmas.Bool.{or_cases, and_parts, and_from, ltb-true, lt-ltb, eqb-true, eq-eqb, or_left, or_right, both_ways}
use Rattle.std.proofs.lemmas.Bool.{false_from_ne_true}

-- a thread by its place and deadline
abbrev pub Placed : Type 0
Placed = ℕ × ℕ

-- whether a thread comes after another, in numbers
abbrev pub After : Placed → Placed → Type 0
After a b = (b.1 < a.1) ⊎ ((a.1 ≡ b.1) × (b.0 < a.0))

after-true : (a b : Placed) → comes_after a b ≡ true → After a b
after-true a b e = elim (or_cases (nat_lt b.1 a.1) (a.1 == b.1 && nat_lt b.0 a.0) e) [
  | inl h ↦ inl (ltb-true b.1 a.1 h)
  | inr h ↦ let both = and_parts (a.1 == b.1) (nat_lt b.0 a.0) h in inr (eqb-true a.1 b.1 both.0, ltb-true b.0 a.0 both.1)
]

true-after : (a b : Placed) → After a b → comes_after a b ≡ true
true-after a b (inl less) = or_left (nat_lt b.1 a.1) (a.1 == b.1 && nat_lt b.0 a.0) (lt-ltb b.1 a.1 less)
true-after a b (inr same) = or_right (nat_lt b.1 a.1) (a.1 == b.1 && nat_lt b.0 a.0)
    (and_from (a.1 == b.1) (nat_lt b.0 a.0) (eq-eqb a.1 b.1 same.0) (lt-ltb b.0 a.0 same.1))

after-through : (a b c : Placed) → After a b → After c a → After c b
after-through a b c (inl y) (inl x) = inl (omega (arith, x, y))
after-through a b c (inr y) (inl x) = inl (omega (arith, x, y.0))
after-through a b c (inl y) (inr x) = inl (omega (arith, x.0, y))
after-through a b c (inr y) (inr x) = inr (omega (arith, x.0, y.0), omega (arith, x.1, y.1))

not-itself : (a : Placed) → comes_after a a ≡ false
not-itself a = false_from_ne_true (comes_after a a)
    (λ g. elim (after-true a a g) [ inl less ↦ omega (arith, less) | inr less ↦ omega (arith, less.1) ])

-- the number of threads that come after
abbrev pub behind : Placed → List Placed → ℕ
behind a bs = count_by (λ b. comes_after b a) bs

-- 1 for true
abbrev one : Bool → ℕ
one true = 1
one false = 0

behind-cons : (a c : Placed) (cs : List Placed) → behind a (c ∷ cs) ≡ one (comes_after c a) + behind a cs
behind-cons a c cs = sum_by-cons (λ b. cond (comes_after b a) 1 0) c cs ∙ ap (λ n. n + behind a cs) (same (comes_after c a))
  where
    same : (x : Bool) → cond x 1 0 ≡ one x
    same true = refl
    same false = refl

-- a thread that comes after another has fewer behind it
behind-less : (a b : Placed) (cs : List Placed) → After a b → behind a cs ≤ behind b cs
behind-less a b [] h = omega arith
behind-less a b (c ∷ cs) h = omega
    (arith, behind-cons a c cs, behind-cons b c cs, by (comes_after c a) (comes_after c b) refl refl (behind-less a b cs h))
  where
    by : (x y : Bool) → comes_after c a ≡ x → comes_after c b ≡ y → behind a cs ≤ behind b cs → one x + behind a cs ≤ one y + behind b cs
    by true true e g rest = omega (arith, rest)
    by false true e g rest = omega (arith, rest)
    by false false e g rest = omega (arith, rest)
    by true false e g rest = absurd (both_ways (comes_after c b) g (true-after c b (after-through a b c h (after-true c a e))))

-- and strictly fewer where it is itself among them
behind-fewer : (a b : Placed) (cs : List Placed) (k : ℕ) → After a b → slice_get cs k ≡ Some a → behind a cs < behind b cs
behind-fewer a b [] k h e = cc
behind-fewer a b (c ∷ cs) zero h e =
    let is : c ≡ a = cc in
    let first : one (comes_after c a) ≡ 0 = ap one (ap (λ z. comes_after z a) is ∙ not-itself a) in
    let second : one (comes_after c b) ≡ 1 = ap one (ap (λ z. comes_after z b) is ∙ true-after a b h) in
    omega (arith, behind-cons a c cs, behind-cons b c cs, first, second, behind-less a b cs h)
behind-fewer a b (c ∷ cs) (suc k) h e
    = omega (arith, behind-cons a c cs, behind-cons b c cs, by (comes_after c a) (comes_after c b) refl refl (behind-fewer a b cs k h e))
  where
    by : (x y : Bool) → comes_after c a ≡ x → comes_after c b ≡ y → behind a cs < behind b cs → one x + behind a cs < one y + behind b cs
    by true true g i rest = omega (arith, rest)
    by false true g i rest = omega (arith, rest)
    by false false g i rest = omega (arith, rest)
    by true false g i rest = absurd (both_ways (comes_after c b) i (true-after c b (after-through a b c h (after-true c a g))))

-- at most all but a thread itself are behind it
behind-most : (a : Placed) (cs : List Placed) → behind a cs ≤ length cs
behind-most a [] = omega arith
behind-most a (c ∷ cs) = omega (arith, behind-cons a c cs, by (comes_after c a) (behind-most a cs))
  where
    by : (x : Bool) → behind a cs ≤ length cs → one x + behind a cs ≤ suc (length cs)
    by true h = omega (arith, h)
    by false h = omega (arith, h)

behind-below : (a : Placed) (cs : List Placed) (k : ℕ) → slice_get cs k ≡ Some a → behind a cs < length cs
behind-below a [] k e = cc
behind-below a (c ∷ cs) zero e =
    let is : c ≡ a = cc in
    let none : comes_after c a ≡ false = ap (λ z. comes_after z a) is ∙ not-itself a in
    let first : one (comes_after c a) ≡ 0 = ap one none in
    omega (arith, behind-cons a c cs, first, behind-most a cs)
behind-below a (c ∷ cs) (suc k) e = omega (arith, behind-cons a c cs, by (comes_after c a) (behind-below a cs k e))
  where
    by : (x : Bool) → behind a cs < length cs → one x + behind a cs < suc (length cs)
    by true h = omega (arith, h)
    by false h = omega (arith, h)

-- threads with their places
get-placed : (n : ℕ) (ds : List ℕ) (k : ℕ) (a : Placed) → slice_get (enumerate_from n ds) k ≡ Some a → a.0 ≡ n + k
get-placed n [] k a e = cc
get-placed n (d ∷ ds) zero a e =
    let first : Placed = (n, d) in
    let is : first ≡ a = cc in
    sym (ap (λ z. z.0) is) ∙ (let z : n ≡ n + 0 = omega arith in z)
get-placed n (d ∷ ds) (suc k) a e = let rest : a.0 ≡ n + 1 + k = get-placed (n + 1) ds k a e in omega (arith, rest)

-- a priority is one more than the number of threads behind
get-priority : (cs es : List Placed) (k p : ℕ) → slice_get (map (λ a. suc (behind a cs)) es) k ≡ Some p
    → (a : Placed) × (slice_get es k ≡ Some a) × (suc (behind a cs) ≡ p)
get-priority cs [] k p e = cc
get-priority cs (a ∷ es) zero p e = let is : suc (behind a cs) ≡ p = cc in (a, refl, is)
get-priority cs (a ∷ es) (suc k) p e = get-priority cs es k p e

pub priority-at : (ds : List ℕ) (k p : ℕ) → slice_get (priorities ds) k ≡ Some p → (1 ≤ p) × (p ≤ length ds)
priority-at ds k p e =
    let found = get-priority (enumerate_from 0 ds) (enumerate_from 0 ds) k p e in
    let below = behind-below found.0 (enumerate_from 0 ds) k found.1 in
    (omega (arith, found.2), omega (arith, found.2, below, length-enumerate_from 0 ds))

-- no two threads have one priority
pub priorities-differ : (ds : List ℕ) (i j p : ℕ) → slice_get (priorities ds) i ≡ Some p → slice_get (priorities ds) j ≡ Some p → i ≡ j
priorities-differ ds i j p e g =
    let first = get-priority (enumerate_from 0 ds) (enumerate_from 0 ds) i p e in
    let second = get-priority (enumerate_from 0 ds) (enumerate_from 0 ds) j p g in
    let a : Placed = first.0 in
    let b : Placed = second.0 in
    let at_a : a.0 ≡ 0 + i = get-placed 0 ds i a first.1 in
    let at_b : b.0 ≡ 0 + j = get-placed 0 ds j b second.1 in
    by first.1 second.1 (omega (arith, first.2, second.2)) at_a at_b (compare a b)
  where
    compare : (a b : Placed) → (a.0 ≡ b.0) ⊎ (After a b ⊎ After b a)
    compare a b = deadlines (nat_lt a.1 b.1) (nat_lt b.1 a.1) refl refl
      where
        places : a.1 ≡ b.1 → (x y : Bool) → nat_lt a.0 b.0 ≡ x → nat_lt b.0 a.0 ≡ y → (a.0 ≡ b.0) ⊎ (After a b ⊎ After b a)
        places same true y h k = inr (inr (inr (sym same, (let less : a.0 < b.0 = grind arith in less))))
        places same false true h k = inr (inl (inr (same, (let less : b.0 < a.0 = grind arith in less))))
        places same false false h k = inl (let equal : a.0 ≡ b.0 = grind arith in equal)

        deadlines : (x y : Bool) → nat_lt a.1 b.1 ≡ x → nat_lt b.1 a.1 ≡ y → (a.0 ≡ b.0) ⊎ (After a b ⊎ After b a)
        deadlines true y h k = inr (inr (inl (let less : a.1 < b.1 = grind arith in less)))
        deadlines false true h k = inr (inl (inl (let less : b.1 < a.1 = grind arith in less)))
        deadlines false false h k = places (let same : a.1 ≡ b.1 = grind arith in same) (nat_lt a.0 b.0) (nat_lt b.0 a.0) refl refl

    by : {a b : Placed} → slice_get (enumerate_from 0 ds) i ≡ Some a → slice_get (enumerate_from 0 ds) j ≡ Some b
        → behind a (enumerate_from 0 ds) ≡ behind b (enumerate_from 0 ds)
        → a.0 ≡ 0 + i → b.0 ≡ 0 + j → (a.0 ≡ b.0) ⊎ (After a b ⊎ After b a) → i ≡ j
    by at at' same p q (inl equal) = omega (arith, equal, p, q)
    by {a} {b} at at' same p q (inr (inl after)) = absurd (omega (arith, same, behind-fewer a b (enumerate_from 0 ds) i after at))
    by {a} {b} at at' same p q (inr (inr after)) = absurd (omega (arith, same, behind-fewer b a (enumerate_from 0 ds) j after at'))
