-- The blocking of a thread by an order is that of the last of the threads that aren't below it.
use Rattle.std.specs.Prelude.{◌≡◌, ◌⊎◌, ℕ, suc, ◌≤◌, ◌<◌, ◌==◌, true, false, List, length, take, slice_get, Some}
use Rattle.std.proofs.Common.{sym, ◌∙◌, ap, arith, inl, inr}
use Rattle.std.proofs.lemmas.Bool.{cases_lt, ne_eqb, false_from_ne_true}
use Rattle.std.proofs.lemmas.Option.{slice_get_within}
use Rattle.ods_tree.specs.Flats.{Flat}
use Rattle.analysis.specs.Blocking.{blocking}
use Rattle.law_orders.specs.Orders.{IsOrder, priority_in, priorities_by, has_place, level_among, levels_among}
use Rattle.law_orders.proofs.Shared.LevelBlocking.{ceiling-mono, blocking-most, blocking-counts}
use Rattle.law_orders.proofs.Shared.Fewer.{level-low, level-outside, level-inside, level-inside-of}
use Rattle.law_orders.proofs.Shared.OrderPlaces.{order-has, order-once, not-below, below-not}
use Rattle.law_orders.proofs.Shared.OrderRows.{priority-of, long}

module _ (f : Flat) (o : List ℕ) (order : IsOrder f o) (i own : ℕ) (e : slice_get o i ≡ Some own) where
  abbrev these : List ℕ
  these = take (suc i) o

  mine : has_place these own ≡ true
  mine = not-below o i i own e (omega arith)

  -- threads that aren't below have at least the priority, and others less
  inside-high : (k : ℕ) → k < length f.threads → has_place these k ≡ true → priority_in o own ≤ priority_in o k
  inside-high k h is =
      let a = order-has (length f.threads) o order k h in
      let low = below-not o (order-once (length f.threads) o order) i a.0 k a.1 is in
      let p = priority-of f o order i own e in
      let q = priority-of f o order a.0 k a.1 in
      omega (arith, low, p, q)

  high-inside : (k : ℕ) → k < length f.threads → priority_in o own ≤ priority_in o k → has_place these k ≡ true
  high-inside k h more =
      let a = order-has (length f.threads) o order k h in
      let p = priority-of f o order i own e in
      let q = priority-of f o order a.0 k a.1 in
      not-below o i a.0 k a.1 (omega (arith, more, p, q))

  outside-low : (k : ℕ) → k < length f.threads → has_place these k ≡ false → priority_in o k < priority_in o own
  outside-low k h is = by (cases_lt (priority_in o k) (priority_in o own))
    where
      by : (priority_in o k < priority_in o own) ⊎ (priority_in o own ≤ priority_in o k) → priority_in o k < priority_in o own
      by (inl less) = less
      by (inr more) = absurd (let z : true ≡ false = sym (high-inside k h more) ∙ is in cc)

  low-outside : (k : ℕ) → k < length f.threads → priority_in o k < priority_in o own → ((k == own) ≡ false) × (has_place these k ≡ false)
  low-outside k h less = (
    ne_eqb k own (λ same. let z : priority_in o k ≡ priority_in o own = ap (priority_in o) same in omega (arith, less, z)),
    false_from_ne_true (has_place these k) (λ is. let q = inside-high k h is in omega (arith, q, less)),
  )

  pub blocking-down : blocking f (levels_among f these own) 2 ≤ blocking f (priorities_by f o) (priority_in o own)
  blocking-down = blocking-most f (level_among these own) 2 (blocking f (priorities_by f o) (priority_in o own)) (λ k t z at low is reach.
      let inside = slice_get_within f.threads k t at in
      let out = level-low these own k low in
      blocking-counts f (priority_in o) (priority_in o own) k t z at (outside-low k inside out.1) is
      (ceiling-mono f (level_among these own) (priority_in o) 2 (priority_in o own) (omega arith)
      (λ j u here q. inside-high j (slice_get_within f.threads j u here) (level-inside-of these own j mine q)) z.object reach))

  some : (k : ℕ) → k < length f.threads → 1 ≤ priority_in o k
  some k h =
      let a = order-has (length f.threads) o order k h in
      let q = priority-of f o order a.0 k a.1 in
      let stands = slice_get_within o a.0 k a.1 in
      let all = long f o order in
      omega (arith, q, stands, all)

  pub blocking-up : blocking f (priorities_by f o) (priority_in o own) ≤ blocking f (levels_among f these own) 2
  blocking-up = blocking-most f (priority_in o) (priority_in o own) (blocking f (levels_among f these own) 2) (λ k t z at low is reach.
      let inside = slice_get_within f.threads k t at in
      let out = low-outside k inside low in
      let some_k = some k inside in
      let level : level_among these own k < 2 = (let q = level-outside these own k out.0 out.1 in omega (arith, q)) in
      blocking-counts f (level_among these own) 2 k t z at level is
      (ceiling-mono f (priority_in o) (level_among these own) (priority_in o own) 2 (omega (arith, some_k, low))
      (λ j u here q. level-inside these own j (high-inside j (slice_get_within f.threads j u here) q)) z.object reach))
