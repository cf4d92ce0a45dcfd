-- Where no deadline is greater than a number, those of that deadline have the least priorities: as many as they are.
use Rattle.std.specs.Prelude.{◌≡◌, ℕ, zero, suc, ◌+◌, ◌≤◌, ◌<◌, ◌==◌, Bool, true, false, ◌&&◌, ◌||◌, cond, List, [], ◌∷◌, map, filter, length, nat_lt}
use Rattle.std.specs.Prelude.{slice_get, Some, refl, if◌then◌else◌}
use Rattle.std.specs.List.{enumerate_from}
use Rattle.std.proofs.Common.{sym, ◌∙◌, ap, arith}
use Rattle.std.proofs.lemmas.List.Sums.{sum_by-cons}
use Rattle.std.proofs.lemmas.Option.{none-some, same_Some}
use Rattle.seq_tree.specs.Lists.{Each}
use Rattle.analysis.specs.Priorities.{comes_after, priorities}
use Rattle.law_designs.proofs.Shared.PriorityOrders.{Placed, behind}

-- 1 for true
abbrev one : Bool → ℕ
one true = 1
one false = 0

behind-cons : (a c : Placed) (cs : List Placed) → behind a (c ∷ cs) ≡ one (comes_after c a) + behind a cs
behind-cons a c cs = sum_by-cons (λ b. cond (comes_after b a) 1 0) c cs ∙ ap (λ n. n + behind a cs) (same (comes_after c a))
  where
    same : (x : Bool) → cond x 1 0 ≡ one x
    same true = refl
    same false = refl

module _ (most : ℕ) where
  abbrev slowly : List Placed → ℕ
  slowly [] = 0
  slowly (b ∷ bs) = one (b.1 == most) + slowly bs

  -- the number of such deadlines
  abbrev pub slow_count : List ℕ → ℕ
  slow_count ds = length (filter (λ d. d == most) ds)

  slow-placed : (n : ℕ) (ds : List ℕ) → slowly (enumerate_from n ds) ≡ slow_count ds
  slow-placed n [] = refl
  slow-placed n (d ∷ ds) = by (d == most) (slow-placed (n + 1) ds)
    where
      by : (b : Bool) → slowly (enumerate_from (n + 1) ds) ≡ slow_count ds
          → one b + slowly (enumerate_from (n + 1) ds) ≡ length (if b then d ∷ filter (λ z. z == most) ds else filter (λ z. z == most) ds)
      by true e = omega (arith, e)
      by false e = omega (arith, e)

  -- all slower ones come after one that is faster
  after-fast : (a c : Placed) → a.1 < most → one (c.1 == most) ≤ one (comes_after c a)
  after-fast a c less = by (c.1 == most) refl
    where
      by : (b : Bool) → (c.1 == most) ≡ b → one b ≤ one (comes_after c a)
      by false e = omega arith
      by true e =
          let same : c.1 ≡ most = grind arith in
          let later : nat_lt a.1 c.1 ≡ true = later_if a.1 c.1 (omega (arith, same, less)) in
          let is : comes_after c a ≡ true = ap (λ b. b || (c.1 == a.1 && nat_lt a.0 c.0)) later in
          let n : one (comes_after c a) ≡ 1 = ap one is in
          omega (arith, n)
        where
          later_if : (m n : ℕ) → m < n → nat_lt m n ≡ true
          later_if m n h = grind arith

  behind-fast : (a : Placed) (cs : List Placed) → a.1 < most → slowly cs ≤ behind a cs
  behind-fast a [] less = omega arith
  behind-fast a (c ∷ cs) less = omega (arith, behind-cons a c cs, after-fast a c less, behind-fast a cs less)

  -- only slow ones come after a slow one
  after-slow : (a c : Placed) → a.1 ≡ most → c.1 ≤ most → one (comes_after c a) ≤ one (c.1 == most)
  after-slow a c is low = by (c.1 == most) refl
    where
      one-most : (b : Bool) → one b ≤ 1
      one-most true = omega arith
      one-most false = omega arith

      by : (b : Bool) → (c.1 == most) ≡ b → one (comes_after c a) ≤ one b
      by true e = one-most (comes_after c a)
      by false e =
          let fast : nat_lt a.1 c.1 ≡ false = not_if a.1 c.1 (omega (arith, is, low)) in
          let apart : (c.1 == a.1) ≡ false = ap (λ n. c.1 == n) is ∙ e in
          let none : comes_after c a ≡ false = ap (λ b. b || (c.1 == a.1 && nat_lt a.0 c.0)) fast ∙ ap (λ b. b && nat_lt a.0 c.0) apart in
          let n : one (comes_after c a) ≡ 0 = ap one none in
          omega (arith, n)
        where
          not_if : (m n : ℕ) → n ≤ m → nat_lt m n ≡ false
          not_if m n h = grind arith

  behind-slow : (a : Placed) (cs : List Placed) → a.1 ≡ most → Each (λ c. c.1 ≤ most) cs → behind a cs ≤ slowly cs
  behind-slow a [] is low = omega arith
  behind-slow a (c ∷ cs) is low = omega (arith, behind-cons a c cs, after-slow a c is low.0, behind-slow a cs is low.1)

  not-itself : (a : Placed) → comes_after a a ≡ false
  not-itself a = let e : nat_lt a.1 a.1 ≡ false = never a.1 in let g : nat_lt a.0 a.0 ≡ false = never a.0 in
      ap (λ b. b || (a.1 == a.1 && nat_lt a.0 a.0)) e ∙ ap (λ b. a.1 == a.1 && b) g ∙ both (a.1 == a.1)
    where
      never : (n : ℕ) → nat_lt n n ≡ false
      never n = grind arith

      both : (b : Bool) → (b && false) ≡ false
      both true = refl
      both false = refl

  behind-itself : (a : Placed) (cs : List Placed) (k : ℕ) → a.1 ≡ most → Each (λ c. c.1 ≤ most) cs → slice_get cs k ≡ Some a
      → suc (behind a cs) ≤ slowly cs
  behind-itself a [] k is low e = absurd (none-some a e)
  behind-itself a (c ∷ cs) zero is low e =
      let same : c ≡ a = same_Some c a e in
      let none : one (comes_after c a) ≡ 0 = ap one (ap (λ z. comes_after z a) same ∙ not-itself a) in
      let own : one (c.1 == most) ≡ 1 = ap one (ap (λ z. z.1 == most) same ∙ ap (λ n. n == most) is ∙ self most) in
      omega (arith, behind-cons a c cs, none, own, behind-slow a cs is low.1)
    where
      self : (n : ℕ) → (n == n) ≡ true
      self n = grind arith
  behind-itself a (c ∷ cs) (suc k) is low e =
      omega (arith, behind-cons a c cs, after-slow a c is low.0, behind-itself a cs k is low.1 e)

  -- a priority is one more than the number behind
  get-priority : (cs es : List Placed) (k p : ℕ) → slice_get (map (λ a. suc (behind a cs)) es) k ≡ Some p
      → (a : Placed) × (slice_get es k ≡ Some a) × (suc (behind a cs) ≡ p)
  get-priority cs [] k p e = absurd (none-some p e)
  get-priority cs (a ∷ es) zero p e = (a, refl, same_Some (suc (behind a cs)) p e)
  get-priority cs (a ∷ es) (suc k) p e = get-priority cs es k p e

  placed-at : (n : ℕ) (ds : List ℕ) (k : ℕ) (a : Placed) → slice_get (enumerate_from n ds) k ≡ Some a → slice_get ds k ≡ Some a.1
  placed-at n [] k a e = absurd (none-some a e)
  placed-at n (d ∷ ds) zero a e = ap (λ z. Some z.1) (same_Some (n, d) a e)
  placed-at n (d ∷ ds) (suc k) a e = placed-at (n + 1) ds k a e

  placed-each : (n : ℕ) (ds : List ℕ) → Each (λ d. d ≤ most) ds → Each (λ c. c.1 ≤ most) (enumerate_from n ds)
  placed-each n [] h = tt
  placed-each n (d ∷ ds) h = (h.0, placed-each (n + 1) ds h.1)

  -- slow ones are low, fast ones are above all of them
  pub slow-low : (ds : List ℕ) (k q : ℕ) → Each (λ d. d ≤ most) ds → slice_get ds k ≡ Some most → slice_get (priorities ds) k ≡ Some q
      → q ≤ slow_count ds
  slow-low ds k q low at e =
      let g = get-priority (enumerate_from 0 ds) (enumerate_from 0 ds) k q e in
      let is : g.0.1 ≡ most = same_Some g.0.1 most (sym (placed-at 0 ds k g.0 g.1) ∙ at) in
      let b : suc (behind g.0 (enumerate_from 0 ds)) ≤ slowly (enumerate_from 0 ds) =
      behind-itself g.0 (enumerate_from 0 ds) k is (placed-each 0 ds low) g.1 in
      omega (arith, b, g.2, slow-placed 0 ds)

  pub fast-high : (ds : List ℕ) (k q d : ℕ) → slice_get ds k ≡ Some d → d < most → slice_get (priorities ds) k ≡ Some q → slow_count ds < q
  fast-high ds k q d at less e =
      let g = get-priority (enumerate_from 0 ds) (enumerate_from 0 ds) k q e in
      let is : g.0.1 ≡ d = same_Some g.0.1 d (sym (placed-at 0 ds k g.0 g.1) ∙ at) in
      let b : slowly (enumerate_from 0 ds) ≤ behind g.0 (enumerate_from 0 ds) = behind-fast g.0 (enumerate_from 0 ds) (omega (arith, is, less)) in
      omega (arith, b, g.2, slow-placed 0 ds)
