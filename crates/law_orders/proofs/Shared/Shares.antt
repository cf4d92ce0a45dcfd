-- What threads take of a window, summed over their places.
use Rattle.std.specs.Prelude.{◌≡◌, ◌⊎◌, ℕ, zero, suc, ◌+◌, ◌*◌, ◌≤◌, ◌<◌, ◌&&◌, ◌==◌, not, Bool, true, false, cond, List, [], ◌∷◌, map, filter}
use Rattle.std.specs.Prelude.{sum_by}
use Rattle.std.specs.Prelude.{length, slice_get, nat_le, Option, Some, None, refl}
use Rattle.std.specs.Int.{div_ceil}
use Rattle.std.specs.List.{enumerate_from, range_with_len}
use Rattle.std.proofs.Common.{sym, ◌∙◌, ap, arith, inl, inr, mul-le-mul_right}
use Rattle.std.proofs.lemmas.Grind.{div_ceil_times}
use Rattle.std.proofs.lemmas.List.Sums.{sum_by-cons}
use Rattle.std.proofs.lemmas.Bool.{and_parts, cases_eq}
use Rattle.seq_tree.specs.Limits.{tick_limit, is_within}
use Rattle.ods_tree.specs.Flats.{Timing, Thread, Flat, period_of}
use Rattle.ods_tree.specs.Flats as timing
use Rattle.ods_tree.specs.Sound.{is_below, is_timed, is_in_range}
use Rattle.analysis.specs.Sound.{IsSound}
use Rattle.analysis.specs.Tables.{activation_cost, jitter_of}
use Rattle.law_lists.proofs.Shared.Places.{all-at}
use Rattle.analysis.proofs.Shared.CostRanges.{all-each, within-true}
use Rattle.law_orders.specs.Orders.{has_place, others, share}

-- a sum over those whose place passes a test is one over all places
pub sum-picked : {A : Type 0} (amount : A → ℕ) (test : ℕ → Bool) (at : ℕ → ℕ) (m : ℕ) (xs : List A)
    → ((i : ℕ) (x : A) → slice_get xs i ≡ Some x → at (m + i) ≡ amount x)
    → sum_by amount (map (λ p. p.1) (filter (λ p. test p.0) (enumerate_from m xs)))
    ≡ sum_by (λ k. cond (test k) (at k) 0) (range_with_len m (length xs))
sum-picked amount test at m [] same = refl
sum-picked {A} amount test at m (x ∷ xs) same =
    by (test m) refl (sum-picked amount test at (m + 1) xs (λ i y e. let z : m + 1 + i ≡ m + suc i = omega arith in ap at z ∙ same (suc i) y e))
  where
    here : at m ≡ amount x
    here = let z : m ≡ m + 0 = omega arith in ap at z ∙ same 0 x refl

    rest : List A
    rest = map (λ p. p.1) (filter (λ p. test p.0) (enumerate_from (m + 1) xs))

    by : (b : Bool) → test m ≡ b
        → sum_by amount (map (λ p. p.1) (filter (λ p. test p.0) (enumerate_from (m + 1) xs)))
        ≡ sum_by (λ k. cond (test k) (at k) 0) (range_with_len (m + 1) (length xs))
        → sum_by amount (map (λ (p : ℕ × A). p.1) (cond (test m) ((m, x) ∷ filter (λ (p : ℕ × A). test p.0) (enumerate_from (m + 1) xs)) (filter (λ (p : ℕ × A). test p.0) (enumerate_from (m + 1) xs))))
        ≡ sum_by (λ k. cond (test k) (at k) 0) (m ∷ range_with_len (m + 1) (length xs))
    by true e more =
        let one = ap (λ b. sum_by amount (map (λ (p : ℕ × A). p.1) (cond b ((m, x) ∷ filter (λ (p : ℕ × A). test p.0) (enumerate_from (m + 1) xs)) (filter (λ (p : ℕ × A). test p.0) (enumerate_from (m + 1) xs))))) e in
        let two = sum_by-cons amount x (map (λ (p : ℕ × A). p.1) (filter (λ (p : ℕ × A). test p.0) (enumerate_from (m + 1) xs))) in
        let three = sum_by-cons (λ k. cond (test k) (at k) 0) m (range_with_len (m + 1) (length xs)) in
        let four : cond (test m) (at m) 0 ≡ amount x = ap (λ b. cond b (at m) 0) e ∙ here in
        one ∙ two ∙ (let z : amount x + sum_by amount (map (λ (p : ℕ × A). p.1) (filter (λ (p : ℕ × A). test p.0) (enumerate_from (m + 1) xs)))
        ≡ cond (test m) (at m) 0 + sum_by (λ k. cond (test k) (at k) 0) (range_with_len (m + 1) (length xs)) = omega (arith, four, more) in z) ∙ sym three
    by false e more =
        let one = ap (λ b. sum_by amount (map (λ (p : ℕ × A). p.1) (cond b ((m, x) ∷ filter (λ (p : ℕ × A). test p.0) (enumerate_from (m + 1) xs)) (filter (λ (p : ℕ × A). test p.0) (enumerate_from (m + 1) xs))))) e in
        let three = sum_by-cons (λ k. cond (test k) (at k) 0) m (range_with_len (m + 1) (length xs)) in
        let four : cond (test m) (at m) 0 ≡ 0 = ap (λ b. cond b (at m) 0) e in
        one ∙ (let z : sum_by amount (map (λ (p : ℕ × A). p.1) (filter (λ (p : ℕ × A). test p.0) (enumerate_from (m + 1) xs)))
        ≡ cond (test m) (at m) 0 + sum_by (λ k. cond (test k) (at k) 0) (range_with_len (m + 1) (length xs)) = omega (arith, four, more) in z) ∙ sym three

-- what two functions give together is at most what a third gives
pub sums-within : (a b c : ℕ → ℕ) (ks : List ℕ) → ((k : ℕ) → a k + b k ≤ c k) → sum_by a ks + sum_by b ks ≤ sum_by c ks
sums-within a b c [] h = omega arith
sums-within a b c (k ∷ ks) h =
    let one = sum_by-cons a k ks in
    let two = sum_by-cons b k ks in
    let three = sum_by-cons c k ks in
    let rest = sums-within a b c ks h in
    let here = h k in
    omega (arith, one, two, three, rest, here)

-- one of a range is at most the sum
pub one-within : (a : ℕ → ℕ) (m n k : ℕ) → m ≤ k → k < m + n → a k ≤ sum_by a (range_with_len m n)
one-within a m zero k low high = absurd (omega (arith, low, high))
one-within a m (suc n) k low high = by (cases_eq m k) (λ other. one-within a (m + 1) n k (omega (arith, low, other)) (omega (arith, high)))
  where
    by : (m ≡ k) ⊎ (m ≡ k → ⊥) → ((m ≡ k → ⊥) → a k ≤ sum_by a (range_with_len (m + 1) n)) → a k ≤ sum_by a (m ∷ range_with_len (m + 1) n)
    by (inl same) more = let z : a m ≡ a k = ap a same in let q = sum_by-cons a m (range_with_len (m + 1) n) in omega (arith, z, q)
    by (inr other) more = let q = sum_by-cons a m (range_with_len (m + 1) n) in let rest = more other in omega (arith, q, rest)

-- what the thread at a place takes
abbrev pub share_of : Flat → ℕ → Option Thread → ℕ
share_of f w None = 0
share_of f w (Some t) = share f w t

abbrev pub share_at : Flat → ℕ → ℕ → ℕ
share_at f w k = share_of f w (slice_get f.threads k)

pub others-sum : (f : Flat) (these : List ℕ) (own w : ℕ) → sum_by (share f w) (others f these own)
    ≡ sum_by (λ k. cond (has_place these k && not (k == own)) (share_at f w k) 0) (range_with_len 0 (length f.threads))
others-sum f these own w = sum-picked (share f w) (λ k. has_place these k && not (k == own)) (share_at f w) 0 f.threads (λ i t e.
    let z : 0 + i ≡ i = omega arith in ap (share_at f w) z ∙ ap (share_of f w) e)

-- a thread takes at least an activation of any window
some-period : (k : Timing) → is_timed k ≡ true → 1 ≤ period_of k
some-period (timing.Cyclic period offset) e = (within-true 1 tick_limit period (and_parts (is_within 1 tick_limit period) (nat_le offset tick_limit) e).0).0
some-period (timing.Sporadic op separation jitter) e = (within-true 1 tick_limit separation (and_parts (is_within 1 tick_limit separation) (is_below jitter separation) e).0).0

pub share-some : (f : Flat) → IsSound f → (k : ℕ) (t : Thread) (w : ℕ) → slice_get f.threads k ≡ Some t → 1 ≤ w → activation_cost f t ≤ share f w t
share-some f sound k t w at some =
    let ranges = all-at (λ t. is_in_range t ≡ true) f.threads k t (all-each is_in_range f.threads sound.formed.ranges) at in
    let period = some-period t.timing (and_parts (is_timed t.timing) (is_within 1 (period_of t.timing) t.deadline) ranges).0 in
    let one : 1 ≤ div_ceil (w + jitter_of t.timing) (period_of t.timing) = positive (w + jitter_of t.timing) (period_of t.timing) (omega (arith, some)) period in
    let more = mul-le-mul_right (activation_cost f t) one in
    omega (arith, more)
  where
    positive : (a b : ℕ) → 1 ≤ a → 1 ≤ b → 1 ≤ div_ceil a b
    positive a b h j = by (div_ceil a b) refl
      where
        by : (q : ℕ) → div_ceil a b ≡ q → 1 ≤ div_ceil a b
        by zero e = absurd (let low = (div_ceil_times a b j).0 in let z : div_ceil a b * b ≡ 0 * b = ap (λ n. n * b) e in omega (arith, low, z, h))
        by (suc q) e = omega (arith, e)
