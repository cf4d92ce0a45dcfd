-- Where ways fit all callers, all that leads on to what has a way leads there by one.
-- What leads there stands on one chain of callers, one of each depth, so that of the calls of a body one alone leads on.
use Rattle.std.proofs.Common.{◌≡◌, ◌⊎◌, inl, inr, ◌≤◌, ◌<◌, ◌+◌, ◌==◌, ℕ, zero, suc, Bool, true, false, not, ◌&&◌, ◌||◌, List, [], ◌∷◌}
use Rattle.std.proofs.Common.{Option, Some, None, is_some, map, arith, refl, ap, sym, subst, ◌∙◌}
use Rattle.std.specs.Prelude.{unwrap_or, if◌then◌else◌}
use Rattle.std.specs.List.{list_any}
use Rattle.std.proofs.lemmas.Bool.{and_parts, or_parts, not-false}
use Rattle.seq_tree.specs.Calls.{same_op}
use Rattle.seq_tree.specs.declared.tree.OpName.{OpName}
use Rattle.seq_tree.proofs.Shared.Walks.{same_op-eq, same_op-refl}
use Rattle.call_graph.specs.Once.{fits, fits_at, is_from, is_next, misfits_at, repeats, sum_of}

-- how often an operation is among others
abbrev pub times : OpName → List OpName → ℕ
times k ks = sum_of (λ c. if same_op c k then 1 else 0) ks

abbrev In : OpName → List OpName → Type 0
In a [] = ⊥
In a (x ∷ xs) = (a ≡ x) ⊎ In a xs

one-more : (n : ℕ) → n ≤ 0 → 1 + n ≤ 1
one-more n h = omega (arith, h)

no-one : (n m : ℕ) → n ≤ m → 0 + n ≤ m
no-one n m h = omega (arith, h)

no-more : (a : Bool) → (a && false) ≡ false
no-more true = refl
no-more false = refl

none-fails : (p : OpName → Bool) (ks : List OpName) → list_any (λ k. not (p k)) ks ≡ false → (k : OpName) → In k ks → p k ≡ true
none-fails p [] h k at = absurd at
none-fails p (x ∷ ks) h k (inl e) =
    let parts = or_parts (not (p x)) (list_any (λ y. not (p y)) ks) h in ap p e ∙ not-false (p x) parts.0
none-fails p (x ∷ ks) h k (inr at) =
    let parts = or_parts (not (p x)) (list_any (λ y. not (p y)) ks) h in none-fails p ks parts.1 k at

-- what is not called again is called once at most, and not where it was seen
pub called-once : (has seen : OpName → Bool) (k : OpName) (ks : List OpName) → repeats has seen ks ≡ false → has k ≡ true
    → times k ks ≤ (if seen k then 0 else 1)
called-once has seen k [] h e = omega arith
called-once has seen k (c ∷ ks) h e =
    let parts = or_parts (has c && seen c) (repeats has (λ n. (has c && same_op c n) || seen n) ks) h in
    by parts.0 (called-once has (λ n. (has c && same_op c n) || seen n) k ks parts.1 e) (same_op c k) refl
  where
    by : (has c && seen c) ≡ false → times k ks ≤ (if (has c && same_op c k) || seen k then 0 else 1) → (s : Bool) → same_op c k ≡ s
        → (if s then 1 else 0) + times k ks ≤ (if seen k then 0 else 1)
    by new less true l =
        let is : c ≡ k = same_op-eq c k l in
        let called : has c ≡ true = ap has is ∙ e in
        let unseen : seen k ≡ false = ap seen (sym is) ∙ ap (λ b. b && seen c) (sym called) ∙ new in
        let here : (has c && same_op c k) ≡ true = ap (λ b. b && same_op c k) called ∙ l in
        let now : times k ks ≤ 0 = subst (λ (t : Bool). times k ks ≤ (if t || seen k then 0 else 1)) here less in
        subst (λ (t : Bool). 1 + times k ks ≤ (if t then 0 else 1)) (sym unseen) (one-more (times k ks) now)
    by new less false l =
        let apart : (has c && same_op c k) ≡ false = ap (λ b. has c && b) l ∙ no-more (has c) in
        no-one (times k ks) _ (subst (λ (t : Bool). times k ks ≤ (if t || seen k then 0 else 1)) apart less)

module _ (depth : OpName → Option ℕ) (from : OpName → Option OpName) where
  -- the depth of what a caller calls
  abbrev Level : Option OpName → ℕ → Type 0
  Level None r = r ≡ 0
  Level (Some n) r = (q : ℕ) × (depth n ≡ Some q) × (q + 1 ≡ r)

  some-same : (a b : ℕ) (o : Option ℕ) → o ≡ Some a → o ≡ Some b → a ≡ b
  some-same a b o h k = (let z : Some a ≡ Some b = sym h ∙ k in cc)

  same-level : (who : Option OpName) (r s : ℕ) → Level who r → Level who s → r ≡ s
  same-level None r s h k = h ∙ sym k
  same-level (Some n) r s h k = sym h.2 ∙ ap (λ q. q + 1) (some-same h.0 k.0 (depth n) h.1 k.1) ∙ k.2

  same-number : (a b : ℕ) → (a == b) ≡ true → a ≡ b
  same-number a b h = grind (arith, h)

  next-depth : (o : Option ℕ) (r : ℕ) → is_next o r ≡ true → (q : ℕ) × (o ≡ Some q) × (q + 1 ≡ r)
  next-depth None r h = absurd (cc)
  next-depth (Some q) r h = (q, refl, same-number (q + 1) r h)

  from-one : (o : Option OpName) (n : OpName) → is_from o n ≡ true → o ≡ Some n
  from-one None n h = absurd (cc)
  from-one (Some f) n h = ap (λ c. Some c) (same_op-eq f n h)

  level-of : (who : Option OpName) (k : OpName) (r : ℕ) → fits_at depth from who k (Some r) ≡ true → Level who r
  level-of None k r h = same-number r 0 h
  level-of (Some n) k r h = next-depth (depth n) r (and_parts (is_from (from k) n) (is_next (depth n) r) h).1

  module _ (target : OpName) (deepest : ℕ) where
    -- the callers of a target, one above the other
    abbrev climb : ℕ → OpName
    climb zero = target
    climb (suc i) = unwrap_or (from (climb i)) target

    -- what leads on to it: how deep it is, and that it stands there, so far up
    abbrev pub Led : OpName → Type 0
    Led k = (deep : ℕ) × (up : ℕ) × (depth k ≡ Some deep) × (k ≡ climb up) × (deep + up ≡ deepest)

    pub led-first : depth target ≡ Some deepest → Led target
    led-first h = (deepest, 0, h, refl, omega arith)

    same-up : (a b c d : ℕ) → a + b ≡ deepest → c + d ≡ deepest → a ≡ c → b ≡ d
    same-up a b c d h k e = omega (arith, h, k, e)

    led-same : (a b : OpName) (p : Led a) (q : Led b) → p.0 ≡ q.0 → a ≡ b
    led-same a b p q e = p.3 ∙ ap climb (same-up p.0 p.1 q.0 q.1 p.4 q.4 e) ∙ sym q.3

    up-more : (q r i : ℕ) → q + 1 ≡ r → r + i ≡ deepest → q + suc i ≡ deepest
    up-more q r i e h = omega (arith, e, h)

    pub led-up : (n k : OpName) → Led k → fits depth from (Some n) k ≡ true → Led n
    led-up n k led h =
        let fit : fits_at depth from (Some n) k (Some led.0) ≡ true = ap (fits_at depth from (Some n) k) (sym led.2) ∙ h in
        let parts = and_parts (is_from (from k) n) (is_next (depth n) led.0) fit in
        let next = next-depth (depth n) led.0 parts.1 in
        let comes : from (climb led.1) ≡ Some n = ap from (sym led.3) ∙ from-one (from k) n parts.0 in
        (next.0, suc led.1, next.1, sym (ap (λ o. unwrap_or o target) comes), up-more next.0 led.0 led.1 next.2 led.4)

    -- of what a body calls, that which counts leads on
    module _ (who : Option OpName) (key : OpName → OpName) (v : OpName → ℕ) (one : (m : OpName) → v m ≤ 1)
        (leads : (m : OpName) → 0 < v m → Led (key m)) where
      some-counts : (ms : List OpName) → (sum_of v ms ≡ 0) ⊎ ((m : OpName) × In (key m) (map key ms) × (0 < v m))
      some-counts [] = inl refl
      some-counts (m ∷ ms) = by (v m) refl (some-counts ms)
        where
          by : (n : ℕ) → v m ≡ n → (sum_of v ms ≡ 0) ⊎ ((c : OpName) × In (key c) (map key ms) × (0 < v c))
              → (sum_of v (m ∷ ms) ≡ 0) ⊎ ((c : OpName) × In (key c) (map key (m ∷ ms)) × (0 < v c))
          by (suc n) e rest = inr (m, inl refl, omega (arith, e))
          by zero e (inl none) = inl (omega (arith, e, none))
          by zero e (inr (c, at, counts)) = inr (c, inr at, counts)

      fitting : (ms : List OpName) → list_any (λ k. not (fits depth from who k)) (map key ms) ≡ false → (m : OpName) → In (key m) (map key ms)
          → (p : Led (key m)) → Level who p.0
      fitting ms h m at p =
          level-of who (key m) p.0 (ap (fits_at depth from who (key m)) (sym p.2) ∙ none-fails (fits depth from who) (map key ms) h (key m) at)

      counts-one : (k : OpName) (m : OpName) → (0 < v m → key m ≡ k) → v m ≤ (if same_op (key m) k then 1 else 0)
      counts-one k m same = by (v m) refl
        where
          by : (n : ℕ) → v m ≡ n → v m ≤ (if same_op (key m) k then 1 else 0)
          by zero e = omega (arith, e)
          by (suc n) e =
              let eq : same_op (key m) k ≡ true = ap (λ c. same_op (key m) c) (sym (same (omega (arith, e)))) ∙ same_op-refl (key m) in
              let most = one m in
              subst (λ (t : Bool). v m ≤ (if t then 1 else 0)) (sym eq) most

      all-one : (k : OpName) (ms : List OpName) → ((m : OpName) → In (key m) (map key ms) → 0 < v m → key m ≡ k) → sum_of v ms ≤ times k (map key ms)
      all-one k [] same = omega arith
      all-one k (m ∷ ms) same =
          let first = counts-one k m (same m (inl refl)) in
          let rest = all-one k ms (λ c at. same c (inr at)) in
          omega (arith, first, rest)

      -- so it counts once at most
      pub sum-once : (ms : List OpName) → misfits_at depth from (record { from = who; calls = map key ms }) ≡ false → sum_of v ms ≤ 1
      sum-once ms h = by (some-counts ms)
        where
          parts : (list_any (λ k. not (fits depth from who k)) (map key ms) ≡ false)
              × (repeats (λ k. is_some (depth k)) (λ n. false) (map key ms) ≡ false)
          parts = or_parts (list_any (λ k. not (fits depth from who k)) (map key ms))
              (repeats (λ k. is_some (depth k)) (λ n. false) (map key ms)) h

          by : (sum_of v ms ≡ 0) ⊎ ((m : OpName) × In (key m) (map key ms) × (0 < v m)) → sum_of v ms ≤ 1
          by (inl none) = omega (arith, none)
          by (inr (m, at, counts)) =
              let led = leads m counts in
              let all = all-one (key m) ms (λ c among more.
              let other = leads c more in
              led-same (key c) (key m) other led
              (same-level who other.0 led.0 (fitting ms parts.0 c among other) (fitting ms parts.0 m at led))) in
              let once = called-once (λ k. is_some (depth k)) (λ n. false) (key m) (map key ms) parts.1 (ap is_some led.2) in
              omega (arith, all, once)

    -- and what makes calls that count leads on
    module _ (n : OpName) (key : OpName → OpName) (v : OpName → ℕ) (leads : (m : OpName) → 0 < v m → Led (key m)) where
      called-led : (ms : List OpName) → ((k : OpName) → In k (map key ms) → fits depth from (Some n) k ≡ true) → 0 < sum_of v ms → Led n
      called-led [] all k = absurd (omega (arith, k))
      called-led (m ∷ ms) all k = by (called-led ms (λ a at. all a (inr at))) (v m) refl
        where
          by : (0 < sum_of v ms → Led n) → (q : ℕ) → v m ≡ q → Led n
          by rest (suc q) e = led-up n (key m) (leads m (omega (arith, e))) (all (key m) (inl refl))
          by rest zero e = rest (omega (arith, e, k))

      pub caller-led : (ms : List OpName) → misfits_at depth from (record { from = Some n; calls = map key ms }) ≡ false → 0 < sum_of v ms → Led n
      caller-led ms h counts =
          let parts = or_parts (list_any (λ k. not (fits depth from (Some n) k)) (map key ms))
          (repeats (λ k. is_some (depth k)) (λ n. false) (map key ms)) h in
          called-led ms (none-fails (fits depth from (Some n)) (map key ms) parts.0) counts
