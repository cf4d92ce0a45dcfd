-- What the search finds: an order that is filled passes, and threads of which none can be last show that none does.
use Rattle.std.specs.Prelude.{◌≡◌, ◌⊎◌, ℕ, zero, suc, ◌+◌, ◌-◌, ◌≤◌, ◌<◌, Bool, true, false, cond, List, [], ◌∷◌, ◌++◌, filter, length, take}
use Rattle.std.specs.Prelude.{slice_get, Some, None, refl}
use Rattle.std.specs.List.{list_any, position_from, range_with_len}
use Rattle.std.proofs.Common.{sym, ◌∙◌, ap, arith, inl, inr}
use Rattle.std.proofs.lemmas.Bool.{or_from, cases_eq}
use Rattle.std.proofs.lemmas.Option.{same_Some, none-some}
use Rattle.std.specs.Cmp.{both_ways}
use Rattle.ods_tree.specs.Flats.{Flat}
use Rattle.analysis.specs.Priorities.{priorities_of}
use Rattle.analysis.specs.Sound.{IsSound}
use Rattle.analysis.specs.Tables.{places_by_priority}
use Rattle.law_lists.proofs.Shared.Lists.{IsIn, at-in, place-of, in-filter, filter-in, each-in}
use Rattle.law_designs.proofs.Shared.Lists.{has-at}
use Rattle.law_orders.specs.Orders.{AllExternal, places_of, IsOrder, Passes, has_place, IsFilled, IsObstacle, IsFilledFrom, NoneIsLast}
use Rattle.law_orders.proofs.Shared.OrderPlaces.{order-within, place-stands, stands-place, take-at, at-take}
use Rattle.law_orders.proofs.Shared.Passing.{pass-by-lasts}
use Rattle.law_orders.proofs.Shared.Obstacles.{obstacles-refuse}
use Rattle.law_orders.proofs.Shared.DeadlineOrders.{priority-there}
use Rattle.law_orders.proofs.Shared.SamePlaces.{SamePlaces, last-same}
use Rattle.priority_search.specs.Steps.{AreByDeadline, listed}
use Rattle.priority_search.specs.Searches.{IsRefuted}

-- where no first thread is found, there is none
pub none-found : {A : Type 0} (test : A → Bool) (n : ℕ) (xs : List A) → position_from test n xs ≡ None → list_any test xs ≡ false
none-found test n [] e = refl
none-found {A} test n (x ∷ xs) e = by (test x) refl e (none-found test (n + 1) xs)
  where
    by : (b : Bool) → test x ≡ b → cond b (Some n) (position_from test (n + 1) xs) ≡ None
        → (position_from test (n + 1) xs ≡ None → list_any test xs ≡ false) → list_any test (x ∷ xs) ≡ false
    by true h g more = absurd (none-some n (sym g))
    by false h g more = or_from (test x) (list_any test xs) h (more g)

-- the deadline-monotonic order falls
pub by-deadline : (f : Flat) (free : ℕ) → AreByDeadline f free (places_by_priority (priorities_of f))
by-deadline f free i j a b p q less short e g u v =
    let x = priority-there f i a e in
    let y = priority-there f j b g in
    let one : length f.threads - i ≡ p = same_Some (length f.threads - i) p (sym x.1 ∙ u) in
    let two : length f.threads - j ≡ q = same_Some (length f.threads - j) q (sym y.1 ∙ v) in
    omega (arith, one, two, less)

-- an order that is filled passes
pub filled-passes : (f : Flat) (o : List ℕ) → IsSound f → AllExternal f → IsOrder f o → IsFilled f o → Passes f o
filled-passes f o sound external order filled = pass-by-lasts f o sound external order (λ i own e. (filled i own e).last)

pub filter-same : (p q : ℕ → Bool) (xs : List ℕ) → ((k : ℕ) → IsIn k xs → p k ≡ q k) → filter p xs ≡ filter q xs
filter-same p q [] same = refl
filter-same p q (x ∷ xs) same = by (p x) (q x) (same x (inl refl)) refl refl (filter-same p q xs (λ k h. same k (inr h)))
  where
    by : (a b : Bool) → p x ≡ q x → p x ≡ a → q x ≡ b → filter p xs ≡ filter q xs → filter p (x ∷ xs) ≡ filter q (x ∷ xs)
    by a b e g h rest = ap (λ c. cond c (x ∷ filter p xs) (filter p xs)) e ∙ ap (λ ys. cond (q x) (x ∷ ys) ys) rest

-- one more place
filter-last : (p : ℕ → Bool) (m n : ℕ) → filter p (range_with_len m (suc n)) ≡ filter p (range_with_len m n) ++ filter p ((m + n) ∷ [])
filter-last p m zero = let z : m ≡ m + 0 = omega arith in ap (λ k. filter p (k ∷ [])) z
filter-last p m (suc n) =
    let z : m + 1 + n ≡ m + suc n = omega arith in
    by (p m) (filter-last p (m + 1) n ∙ ap (λ k. filter p (range_with_len (m + 1) n) ++ filter p (k ∷ [])) z)
  where
    by : (b : Bool) → filter p (range_with_len (m + 1) (suc n)) ≡ filter p (range_with_len (m + 1) n) ++ filter p ((m + suc n) ∷ [])
        → cond b (m ∷ filter p (range_with_len (m + 1) (suc n))) (filter p (range_with_len (m + 1) (suc n)))
        ≡ cond b (m ∷ filter p (range_with_len (m + 1) n)) (filter p (range_with_len (m + 1) n)) ++ filter p ((m + suc n) ∷ [])
    by true e = ap (λ ks. m ∷ ks) e
    by false e = e

pub filter-more : (p : ℕ → Bool) (n : ℕ) (before after : List ℕ) → before ≡ filter p (range_with_len 0 n) → after ≡ before ++ filter p (n ∷ [])
    → after ≡ filter p (range_with_len 0 (n + 1))
filter-more p n before after e g =
    let z : n + 1 ≡ suc n = omega arith in
    let y : 0 + n ≡ n = omega arith in
    g ∙ ap (λ ks. ks ++ filter p (n ∷ [])) e ∙ ap (λ k. filter p (range_with_len 0 n) ++ filter p (k ∷ [])) (sym y) ∙ sym (filter-last p 0 n)
    ∙ ap (λ k. filter p (range_with_len 0 k)) (sym z)

in-range : (m n k : ℕ) → IsIn k (range_with_len m n) → k < m + n
in-range m zero k h = absurd h
in-range m (suc n) k (inl e) = omega (arith, e)
in-range m (suc n) k (inr h) = let r = in-range (m + 1) n k h in omega (arith, r)

range-in : (m n k : ℕ) → m ≤ k → k < m + n → IsIn k (range_with_len m n)
range-in m zero k low high = absurd (omega (arith, low, high))
range-in m (suc n) k low high = by (cases_eq m k) (λ a b. range-in (m + 1) n k a b)
  where
    by : (m ≡ k) ⊎ (m ≡ k → ⊥) → (m + 1 ≤ k → k < m + 1 + n → IsIn k (range_with_len (m + 1) n)) → IsIn k (range_with_len m (suc n))
    by (inl e) more = inl e
    by (inr e) more = inr (more (omega (arith, low, e)) (omega (arith, high)))

module _ (f : Flat) (sound : IsSound f) (external : AllExternal f) (o : List ℕ) (order : IsOrder f o) (left : ℕ) (some : 1 ≤ left)
    (most : left ≤ length o) where
  abbrev these : List ℕ
  these = take left o

  these-within : (k : ℕ) → has_place these k ≡ true → k < length f.threads
  these-within k h =
      let r = place-stands these k h in
      order-within (length f.threads) o order r.0 k (take-at left o r.0 k r.1).1

  listed-in : (k : ℕ) → has_place (listed f these) k ≡ true → IsIn k (places_of f) × (has_place these k ≡ true)
  listed-in k h =
      let r = place-stands (listed f these) k h in
      in-filter (has_place these) k (places_of f) (at-in (listed f these) r.0 k r.1)

  in-listed : (k : ℕ) → has_place these k ≡ true → has_place (listed f these) k ≡ true
  in-listed k h =
      let less = these-within k h in
      let i = filter-in (has_place these) k (places_of f) (range-in 0 (length f.threads) k (omega arith) (omega (arith, less))) h in
      let at = place-of k (listed f these) i in
      stands-place (listed f these) at.0 k at.1

  same : SamePlaces these (listed f these)
  same k = both_ways (has_place these k) (has_place (listed f these) k) (in-listed k) (λ h. (listed-in k h).1)

  pub refuted : IsFilledFrom f left o → NoneIsLast f these → IsRefuted f (listed f these)
  refuted filled none = record {
    external = external;
    order = o;
    left = left;
    stuck = record { is_order = order; some = some; within = most; filled = filled; none = none };
    listed = refl;
    obstacle = obstacle;
    none = λ order' is passes. obstacles-refuse f (listed f these) order' sound external obstacle is passes;
  }
    where
      first : (k : ℕ) × (slice_get o 0 ≡ Some k)
      first = has-at o 0 (omega (arith, some, most))

      obstacle : IsObstacle f (listed f these)
      obstacle = record {
        some = (first.0, in-listed first.0 (stands-place these 0 first.0 (at-take left o 0 first.0 (omega (arith, some)) first.1)));
        threads = each-in (λ place. place < length f.threads) (listed f these) (λ k h.
            let i = in-filter (has_place these) k (places_of f) h in let r = in-range 0 (length f.threads) k i.0 in omega (arith, r));
        none = λ own there can.
            none own (listed-in own there).1 (last-same f sound (listed f these) these own (λ k. sym (same k)) there can);
      }
