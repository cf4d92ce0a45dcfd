-- What the threads above a place of an order take of a window, over its rows.
use Rattle.std.specs.Prelude.{◌≡◌, ◌⊎◌, ℕ, zero, suc, ◌+◌, ◌≤◌, ◌<◌, ◌==◌, ◌&&◌, not, Bool, true, false, cond, List, [], ◌∷◌, length, take, zip}
use Rattle.std.specs.Prelude.{sum_by}
use Rattle.std.specs.Prelude.{slice_get, Some, refl}
use Rattle.std.specs.List.{range_with_len}
use Rattle.std.proofs.Common.{sym, ◌∙◌, ap, arith, inl, inr}
use Rattle.std.proofs.lemmas.Bool.{cases_lt, ne_eqb, eq-eqb, false_from_ne_true}
use Rattle.std.proofs.lemmas.List.Sorted.{sum_by-IsPermutation}
use Rattle.std.proofs.lemmas.List.Sums.{sum_by-cons}
use Rattle.std.proofs.lemmas.Option.{same_Some}
use Rattle.ods_tree.specs.Flats.{Flat}
use Rattle.rt_response.specs.declared.rows.ThreadRow.{ThreadRow}
use Rattle.rt_response.specs.declared.rows.Bound.{Bound}
use Rattle.rt_response.specs.Response.{interference}
use Rattle.law_orders.specs.Orders.{IsOrder, has_place, others, share}
use Rattle.law_orders.proofs.Shared.Shares.{share_at, others-sum}
use Rattle.law_orders.proofs.Shared.OrderPlaces.{order-once, not-below, below-not}

-- a sum in which only the first of a list count
pub sum-front : (a b : ℕ → ℕ) (i : ℕ) (xs : List ℕ) → ((j k : ℕ) → slice_get xs j ≡ Some k → j < i → a k ≡ b k)
    → ((j k : ℕ) → slice_get xs j ≡ Some k → i ≤ j → a k ≡ 0) → sum_by a xs ≡ sum_by b (take i xs)
sum-front a b zero [] front rest = refl
sum-front a b (suc i) [] front rest = refl
sum-front a b zero (x ∷ xs) front rest =
    let one = sum_by-cons a x xs in
    let two : a x ≡ 0 = rest 0 x refl (omega arith) in
    let more = sum-front a b zero xs (λ j k e less. absurd (omega (arith, less))) (λ j k e low. rest (suc j) k e (omega arith)) in
    let none : sum_by b (take zero xs) ≡ 0 = refl in
    one ∙ (let z : a x + sum_by a xs ≡ 0 = omega (arith, two, more, none) in z)
sum-front a b (suc i) (x ∷ xs) front rest =
    let one = sum_by-cons a x xs in
    let three = sum_by-cons b x (take i xs) in
    let two : a x ≡ b x = front 0 x refl (omega arith) in
    let more = sum-front a b i xs (λ j k e less. front (suc j) k e (omega (arith, less))) (λ j k e low. rest (suc j) k e (omega (arith, low))) in
    one ∙ (let z : a x + sum_by a xs ≡ b x + sum_by b (take i xs) = omega (arith, two, more) in z) ∙ sym three

-- what the others of those that aren't below a place take is what those before it take
pub others-taken : (f : Flat) (o : List ℕ) → IsOrder f o → (i own w : ℕ) → slice_get o i ≡ Some own
    → sum_by (share f w) (others f (take (suc i) o) own) ≡ sum_by (share_at f w) (take i o)
others-taken f o order i own w e =
    others-sum f (take (suc i) o) own w
    ∙ sym (sum_by-IsPermutation amount (range_with_len 0 (length f.threads)) o order)
    ∙ sum-front amount (share_at f w) i o before behind
  where
    amount : ℕ → ℕ
    amount k = cond (has_place (take (suc i) o) k && not (k == own)) (share_at f w k) 0

    before : (j k : ℕ) → slice_get o j ≡ Some k → j < i → cond (has_place (take (suc i) o) k && not (k == own)) (share_at f w k) 0 ≡ share_at f w k
    before j k g less =
        let there : has_place (take (suc i) o) k ≡ true = not-below o i j k g (omega (arith, less)) in
        let other : (k == own) ≡ false = ne_eqb k own (λ same.
        let z : j ≡ i = order-once (length f.threads) o order j i own (g ∙ ap Some same) e in omega (arith, less, z)) in
        ap (λ b. cond (b && not (k == own)) (share_at f w k) 0) there ∙ ap (λ b. cond (not b) (share_at f w k) 0) other

    behind : (j k : ℕ) → slice_get o j ≡ Some k → i ≤ j → cond (has_place (take (suc i) o) k && not (k == own)) (share_at f w k) 0 ≡ 0
    behind j k g low = by (cases_lt i j)
      where
        by : (i < j) ⊎ (j ≤ i) → cond (has_place (take (suc i) o) k && not (k == own)) (share_at f w k) 0 ≡ 0
        by (inl less) =
            let gone : has_place (take (suc i) o) k ≡ false = false_from_ne_true (has_place (take (suc i) o) k) (λ h.
            let z = below-not o (order-once (length f.threads) o order) i j k g h in omega (arith, z, less)) in
            ap (λ b. cond (b && not (k == own)) (share_at f w k) 0) gone
        by (inr more) =
            let same : k ≡ own = (let z : j ≡ i = omega (arith, low, more) in same_Some k own (sym g ∙ ap (slice_get o) z ∙ e)) in
            let is : (k == own) ≡ true = eq-eqb k own same in
            ap (λ b. cond (has_place (take (suc i) o) k && not b) (share_at f w k) 0) is ∙ none (has_place (take (suc i) o) k)
          where
            none : (b : Bool) → cond (b && false) (share_at f w k) 0 ≡ 0
            none true = refl
            none false = refl

-- sums over places, and over rows with what a vector gives them
pub sum-rows-most : (a : ℕ → ℕ) (w i : ℕ) (xs : List ℕ) (rows : List ThreadRow) (v : List Bound) → i ≤ length rows → i ≤ length v
    → ((j k : ℕ) (r : ThreadRow) (b : Bound) → slice_get xs j ≡ Some k → slice_get rows j ≡ Some r → slice_get v j ≡ Some b → j < i → a k ≤ interference w (r, b))
    → sum_by a (take i xs) ≤ sum_by (interference w) (zip (take i rows) (take i v))
sum-rows-most a w zero xs rows v h g each = omega arith
sum-rows-most a w (suc i) [] rows v h g each = omega arith
sum-rows-most a w (suc i) (x ∷ xs) [] v h g each = absurd (omega (arith, h))
sum-rows-most a w (suc i) (x ∷ xs) (r ∷ rows) [] h g each = absurd (omega (arith, g))
sum-rows-most a w (suc i) (x ∷ xs) (r ∷ rows) (b ∷ v) h g each =
    let one = sum_by-cons a x (take i xs) in
    let two = sum_by-cons (interference w) (r, b) (zip (take i rows) (take i v)) in
    let here = each 0 x r b refl refl refl (omega arith) in
    let more = sum-rows-most a w i xs rows v (omega (arith, h)) (omega (arith, g)) (λ j k q c e e' e'' less. each (suc j) k q c e e' e'' (omega (arith, less))) in
    omega (arith, one, two, here, more)

pub sum-rows-least : (a : ℕ → ℕ) (w i : ℕ) (xs : List ℕ) (rows : List ThreadRow) (v : List Bound) → i ≤ length xs
    → ((j k : ℕ) (r : ThreadRow) (b : Bound) → slice_get xs j ≡ Some k → slice_get rows j ≡ Some r → slice_get v j ≡ Some b → j < i → interference w (r, b) ≤ a k)
    → sum_by (interference w) (zip (take i rows) (take i v)) ≤ sum_by a (take i xs)
sum-rows-least a w zero xs rows v h each = omega arith
sum-rows-least a w (suc i) xs [] v h each = omega arith
sum-rows-least a w (suc i) xs (r ∷ rows) [] h each = omega arith
sum-rows-least a w (suc i) [] (r ∷ rows) (b ∷ v) h each = absurd (omega (arith, h))
sum-rows-least a w (suc i) (x ∷ xs) (r ∷ rows) (b ∷ v) h each =
    let one = sum_by-cons a x (take i xs) in
    let two = sum_by-cons (interference w) (r, b) (zip (take i rows) (take i v)) in
    let here = each 0 x r b refl refl refl (omega arith) in
    let more = sum-rows-least a w i xs rows v (omega (arith, h)) (λ j k q c e e' e'' less. each (suc j) k q c e e' e'' (omega (arith, less))) in
    omega (arith, one, two, here, more)
