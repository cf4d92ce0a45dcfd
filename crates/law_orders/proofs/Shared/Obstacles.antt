-- Where none of some threads can be last of them, no order passes: the one of them that an order has lowest would be last of them.
use Rattle.std.specs.Prelude.{◌≡◌, ◌⊎◌, ℕ, zero, suc, ◌≤◌, ◌<◌, Bool, true, false, List, [], ◌∷◌, length, take, slice_get, Some, refl}
use Rattle.std.proofs.Common.{sym, ◌∙◌, ap, arith, inl, inr}
use Rattle.std.proofs.lemmas.Option.{none-some, same_Some}
use Rattle.std.proofs.lemmas.Bool.{both_ways}
use Rattle.law_lists.proofs.Shared.Places.{all-at}
use Rattle.law_orders.specs.Orders.{has_place}
use Rattle.law_orders.specs.Laws.{ObstaclesRefuse}
use Rattle.law_orders.proofs.Shared.OrderPlaces.{place-stands, order-has, not-below}
use Rattle.law_orders.proofs.Shared.Fewer.{fewer-above}
use Rattle.law_orders.proofs.Shared.Passing.{pass-lasts}

-- the last of a list that is among some
record LastAmong (these xs : List ℕ) : Type 0 where
  at : ℕ
  place : ℕ
  stands : slice_get xs at ≡ Some place
  among : has_place these place ≡ true
  last : (j k : ℕ) → slice_get xs j ≡ Some k → has_place these k ≡ true → j ≤ at

last-among : (these xs : List ℕ) → LastAmong these xs ⊎ ((j k : ℕ) → slice_get xs j ≡ Some k → has_place these k ≡ false)
last-among these [] = inr (λ j k e. absurd (none-some k e))
last-among these (x ∷ xs) = by (last-among these xs)
  where
    own : ((j k : ℕ) → slice_get xs j ≡ Some k → has_place these k ≡ false) → (b : Bool) → has_place these x ≡ b
        → LastAmong these (x ∷ xs) ⊎ ((j k : ℕ) → slice_get (x ∷ xs) j ≡ Some k → has_place these k ≡ false)
    own none true h = inl (record { at = 0; place = x; stands = refl; among = h; last = last })
      where
        last : (j k : ℕ) → slice_get (x ∷ xs) j ≡ Some k → has_place these k ≡ true → j ≤ 0
        last zero k e there = omega arith
        last (suc j) k e there = absurd (both_ways (has_place these k) (none j k e) there)
    own none false h = inr all
      where
        all : (j k : ℕ) → slice_get (x ∷ xs) j ≡ Some k → has_place these k ≡ false
        all zero k e = ap (has_place these) (sym (same_Some x k e)) ∙ h
        all (suc j) k e = none j k e

    by : LastAmong these xs ⊎ ((j k : ℕ) → slice_get xs j ≡ Some k → has_place these k ≡ false)
        → LastAmong these (x ∷ xs) ⊎ ((j k : ℕ) → slice_get (x ∷ xs) j ≡ Some k → has_place these k ≡ false)
    by (inl r) = inl (record { at = suc r.at; place = r.place; stands = r.stands; among = r.among; last = last })
      where
        last : (j k : ℕ) → slice_get (x ∷ xs) j ≡ Some k → has_place these k ≡ true → j ≤ suc r.at
        last zero k e there = omega arith
        last (suc j) k e there = let q = r.last j k e there in omega (arith, q)
    by (inr none) = own none (has_place these x) refl

pub obstacles-refuse : ObstaclesRefuse
obstacles-refuse f these o sound external obstacle order passes = by (last-among these o)
  where
    among-order : (k : ℕ) → has_place these k ≡ true → (i : ℕ) × (slice_get o i ≡ Some k)
    among-order k h =
        let at = place-stands these k h in
        order-has (length f.threads) o order k (all-at (λ place. place < length f.threads) these at.0 k obstacle.threads at.1)

    by : LastAmong these o ⊎ ((j k : ℕ) → slice_get o j ≡ Some k → has_place these k ≡ false) → ⊥
    by (inl r) =
        obstacle.none r.place r.among (fewer-above f (take (suc r.at) o) these r.place sound r.among
        (λ k there. let i = among-order k there in not-below o r.at i.0 k i.1 (r.last i.0 k i.1 there))
        (pass-lasts f sound external o order passes r.at r.place r.stands))
    by (inr none) =
        let i = among-order obstacle.some.0 obstacle.some.1 in
        both_ways (has_place these obstacle.some.0) (none i.0 obstacle.some.0 i.1) obstacle.some.1
