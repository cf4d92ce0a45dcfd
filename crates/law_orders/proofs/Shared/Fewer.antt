-- A thread that is last of some threads is last of fewer: a thread that goes from above it to below takes away at least the section that it adds.
use Rattle.std.specs.Prelude.{◌≡◌, ℕ, ◌+◌, ◌≤◌, ◌<◌, ◌&&◌, ◌==◌, not, Bool, true, false, cond, List, sum_by, length, slice_get, Some}
use Rattle.std.specs.Prelude.{if◌then◌else◌, refl}
use Rattle.std.specs.List.{range_with_len}
use Rattle.std.proofs.Common.{sym, ◌∙◌, ap, subst, arith}
use Rattle.std.proofs.lemmas.Option.{slice_get_within}
use Rattle.std.proofs.lemmas.Bool.{both_ways}
use Rattle.ods_tree.specs.Flats.{Thread, Flat}
use Rattle.ods_tree.specs.Services.{flat_services}
use Rattle.analysis.specs.Ceilings.{ceiling}
use Rattle.analysis.specs.Sections.{Section, sections}
use Rattle.analysis.specs.Blocking.{blocking}
use Rattle.analysis.specs.Sound.{IsSound}
use Rattle.analysis.specs.Tables.{activation_cost}
use Rattle.law_lists.proofs.Shared.Lists.{IsIn}
use Rattle.analysis.proofs.Shared.CostRanges.{finish-some}
use Rattle.law_orders.specs.Orders.{has_place, level_among, levels_among, others, share, EndsLast}
use Rattle.law_orders.specs.Laws.{FewerAboveIsNoWorse}
use Rattle.law_orders.proofs.SectionCosts.{section-cost}
use Rattle.law_orders.proofs.Shared.LevelBlocking.{ceiling-mono, blocking-most, blocking-counts}
use Rattle.law_orders.proofs.Shared.Shares.{sums-within, one-within, share_at, share_of, others-sum, share-some}

-- what each level means
pub level-low : (these : List ℕ) (own k : ℕ) → level_among these own k < 2 → ((k == own) ≡ false) × (has_place these k ≡ false)
level-low these own k h = by (k == own) (has_place these k) refl refl h
  where
    by : (a b : Bool) → (k == own) ≡ a → has_place these k ≡ b → (if a then 2 else if b then 3 else 1) < 2 → ((k == own) ≡ false) × (has_place these k ≡ false)
    by true b e g less = absurd (omega (arith, less))
    by false true e g less = absurd (omega (arith, less))
    by false false e g less = (e, g)

pub level-outside : (these : List ℕ) (own k : ℕ) → (k == own) ≡ false → has_place these k ≡ false → level_among these own k ≡ 1
level-outside these own k e g = ap (λ a. if a then 2 else if has_place these k then 3 else 1) e ∙ ap (λ b. if b then 3 else 1) g

pub level-inside : (these : List ℕ) (own k : ℕ) → has_place these k ≡ true → 2 ≤ level_among these own k
level-inside these own k g = by (k == own) refl
  where
    by : (a : Bool) → (k == own) ≡ a → 2 ≤ (if k == own then 2 else if has_place these k then 3 else 1)
    by true e = subst (λ a. 2 ≤ (if a then 2 else if has_place these k then 3 else 1)) (sym e) (omega arith)
    by false e = subst (λ a. 2 ≤ (if a then 2 else if has_place these k then 3 else 1)) (sym e)
        (subst (λ b. 2 ≤ (if b then 3 else 1)) (sym g) (omega arith))

pub level-inside-of : (these : List ℕ) (own k : ℕ) → has_place these own ≡ true → 2 ≤ level_among these own k → has_place these k ≡ true
level-inside-of these own k mine h = by (k == own) (has_place these k) refl refl h
  where
    same : (k == own) ≡ true → k ≡ own
    same e = grind arith

    by : (a b : Bool) → (k == own) ≡ a → has_place these k ≡ b → 2 ≤ (if a then 2 else if b then 3 else 1) → has_place these k ≡ true
    by true b e g more = ap (has_place these) (same e) ∙ mine
    by false true e g more = g
    by false false e g more = absurd (omega (arith, more))

module _ (f : Flat) (sound : IsSound f) (these fewer : List ℕ) (own : ℕ) (mine : has_place fewer own ≡ true)
    (within : (place : ℕ) → has_place fewer place ≡ true → has_place these place ≡ true) (w : ℕ) (some : 1 ≤ w) where
  abbrev places : List ℕ
  places = range_with_len 0 (length f.threads)

  -- what those take that go below
  abbrev gone : ℕ → ℕ
  gone k = cond (has_place these k && not (has_place fewer k)) (share_at f w k) 0

  sections-paid : (k : ℕ) (t : Thread) (z : Section) → slice_get f.threads k ≡ Some t → level_among fewer own k < 2
      → IsIn z (sections f.costs (flat_services f) t.block) → 2 ≤ ceiling f (levels_among f fewer own) z.object
      → z.cost ≤ blocking f (levels_among f these own) 2 + sum_by gone places
  sections-paid k t z at low is reach = by (has_place these k) refl
    where
      outside : ((k == own) ≡ false) × (has_place fewer k ≡ false)
      outside = level-low fewer own k low

      by : (b : Bool) → has_place these k ≡ b → z.cost ≤ blocking f (levels_among f these own) 2 + sum_by gone places
      by false e =
          let low' : level_among these own k < 2 = (let q = level-outside these own k outside.0 e in omega (arith, q)) in
          let up : 2 ≤ ceiling f (levels_among f these own) z.object =
          ceiling-mono f (level_among fewer own) (level_among these own) 2 2 (omega arith)
          (λ i u here q. level-inside these own i (within i (level-inside-of fewer own i mine q))) z.object reach in
          let counted = blocking-counts f (level_among these own) 2 k t z at low' is up in
          omega (arith, counted)
      by true e =
          let short = section-cost f sound t z is in
          let taken = share-some f sound k t w at some in
          let place = slice_get_within f.threads k t at in
          let one = one-within gone 0 (length f.threads) k (omega arith) (omega (arith, place)) in
          let here : gone k ≡ share f w t =
          ap (λ a. cond (a && not (has_place fewer k)) (share_at f w k) 0) e ∙ ap (λ a. cond (not a) (share_at f w k) 0) outside.1 ∙ ap (share_of f w) at in
          omega (arith, short, taken, one, here)

  blocking-paid : blocking f (levels_among f fewer own) 2 ≤ blocking f (levels_among f these own) 2 + sum_by gone places
  blocking-paid = blocking-most f (level_among fewer own) 2 (blocking f (levels_among f these own) 2 + sum_by gone places) sections-paid

  others-paid : sum_by (share f w) (others f fewer own) + sum_by gone places ≤ sum_by (share f w) (others f these own)
  others-paid =
      let a = others-sum f fewer own w in
      let b = others-sum f these own w in
      let c = sums-within (λ k. cond (has_place fewer k && not (k == own)) (share_at f w k) 0) gone
      (λ k. cond (has_place these k && not (k == own)) (share_at f w k) 0) places each in
      omega (arith, a, b, c)
    where
      each : (k : ℕ) → cond (has_place fewer k && not (k == own)) (share_at f w k) 0 + cond (has_place these k && not (has_place fewer k)) (share_at f w k) 0
          ≤ cond (has_place these k && not (k == own)) (share_at f w k) 0
      each k = by (has_place fewer k) (has_place these k) (k == own) refl refl refl
        where
          same : (k == own) ≡ true → k ≡ own
          same e = grind arith

          Goal : Bool → Bool → Bool → Type 0
          Goal x y z = cond (x && not z) (share_at f w k) 0 + cond (y && not x) (share_at f w k) 0 ≤ cond (y && not z) (share_at f w k) 0

          by : (x y z : Bool) → has_place fewer k ≡ x → has_place these k ≡ y → (k == own) ≡ z
              → Goal (has_place fewer k) (has_place these k) (k == own)
          by x y z a b c = subst (λ q. Goal q (has_place these k) (k == own)) (sym a)
              (subst (λ q. Goal x q (k == own)) (sym b) (subst (λ q. Goal x y q) (sym c) (cases x y z a b c)))
            where
              cases : (x y z : Bool) → has_place fewer k ≡ x → has_place these k ≡ y → (k == own) ≡ z → Goal x y z
              cases true true z a b c = omega arith
              cases true false z a b c = absurd (both_ways (has_place these k) b (within k a))
              cases false true true a b c = absurd (both_ways (has_place fewer k) a (ap (has_place fewer) (same c) ∙ mine))
              cases false true false a b c = omega arith
              cases false false z a b c = omega arith

  pub fewer-meets : (t : Thread) → blocking f (levels_among f these own) 2 + activation_cost f t + sum_by (share f w) (others f these own) ≤ w
      → blocking f (levels_among f fewer own) 2 + activation_cost f t + sum_by (share f w) (others f fewer own) ≤ w
  fewer-meets t h = let a = blocking-paid in let b = others-paid in omega (arith, h, a, b)

pub fewer-ends : (f : Flat) → IsSound f → (these fewer : List ℕ) (own : ℕ) → has_place fewer own ≡ true
    → ((place : ℕ) → has_place fewer place ≡ true → has_place these place ≡ true) → (t : Thread) (w : ℕ)
    → EndsLast f these own t w → EndsLast f fewer own t w
fewer-ends f sound these fewer own mine within t w ends =
    let finish = finish-some f sound in
    let meets = ends.meets in
    record {
      meets = fewer-meets f sound these fewer own mine within w (omega (arith, finish, meets)) t ends.meets;
      deadline = ends.deadline;
      period = ends.period;
    }

-- a thread that can be last of some threads can be last of fewer
pub fewer-above : FewerAboveIsNoWorse
fewer-above f these fewer own sound mine within last = (last.0, last.1, last.2, fewer-ends f sound these fewer own mine within last.0 last.1 last.3)
