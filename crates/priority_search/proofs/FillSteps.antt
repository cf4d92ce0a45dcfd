-- A step of filling an order keeps it right.
use Rattle.std.specs.Prelude.{◌≡◌, ◌⊎◌, ℕ, zero, suc, ◌-◌, ◌≤◌, ◌<◌, List, length, take, slice_get, Some}
use Rattle.std.specs.List.{insert, remove}
use Rattle.std.proofs.Common.{sym, ◌∙◌, ap, subst, arith, inl, inr}
use Rattle.std.proofs.lemmas.Bool.{cases_lt}
use Rattle.std.proofs.lemmas.List.Sorted.{IsPermutation-trans}
use Rattle.std.proofs.lemmas.Option.{same_Some, slice_get_within}
use Rattle.ods_tree.specs.Flats.{Flat}
use Rattle.analysis.specs.Priorities.{priorities_of}
use Rattle.analysis.specs.Sound.{IsSound}
use Rattle.law_orders.specs.Orders.{places_of, IsOrder, CanBeLast, IsLowest, IsFilledFrom}
use Rattle.law_orders.proofs.Shared.OrderPlaces.{place-stands, take-at, at-take, stands-place}
use Rattle.law_orders.proofs.Shared.Permutations.{skip}
use Rattle.law_orders.proofs.Shared.SamePlaces.{lowest-same}
use Rattle.priority_search.specs.Steps.{IsNext, AreByDeadline, IsMoved}
use Rattle.priority_search.proofs.Moves.{moved-front, moved-here, moved-beyond, moved-order, moved-same, moved-long, skip-rises, skip-below}

-- the last that can be is the lowest
pub next-lowest : (f : Flat) (o : List ℕ) (free at : ℕ) (next : IsNext f o free at) → AreByDeadline f free o → IsLowest f (take free o) next.place
next-lowest f o free at next falling = record {
  among = stands-place (take free o) at next.place (at-take free o at next.place next.inside next.stands);
  last = next.last;
  least = λ place p q h last own other.
      let r = place-stands (take free o) place h in
      let s = take-at free o r.0 place r.1 in
      by place p q r.0 s.0 s.1 last own other (cases_lt at r.0);
}
  where
    by : (place p q i : ℕ) → i < free → slice_get o i ≡ Some place → CanBeLast f (take free o) place → slice_get (priorities_of f) next.place ≡ Some p
        → slice_get (priorities_of f) place ≡ Some q → (at < i) ⊎ (i ≤ at) → p ≤ q
    by place p q i short e last own other (inl later) = absurd (next.none i place later short e last)
    by place p q i short e last own other (inr earlier) = falling i at place next.place q p earlier next.inside e next.stands other own

module _ (f : Flat) (sound : IsSound f) (o after : List ℕ) (free at : ℕ) (order : IsOrder f o) (some : suc free ≤ length o)
    (falling : AreByDeadline f (suc free) o) (filled : IsFilledFrom f (suc free) o) (next : IsNext f o (suc free) at)
    (moves : IsMoved at free o after) where
  early : at ≤ free
  early = let q = next.inside in omega (arith, q)

  late : free < length o
  late = omega (arith, some)

  abbrev result : List ℕ
  result = insert (remove o at) free moves.0

  same-place : moves.0 ≡ next.place
  same-place = same_Some moves.0 next.place (sym moves.1 ∙ next.stands)

  step-order' : IsOrder f result
  step-order' = IsPermutation-trans (places_of f) o result order (moved-order at free moves.0 o moves.1 early late)

  step-falling' : AreByDeadline f free result
  step-falling' i j a b p q less short e g u v =
      falling (skip at i) (skip at j) a b p q (skip-rises at i j less) (let z = skip-below at j free short in omega (arith, z))
      (sym (moved-front at free moves.0 o moves.1 early late i (omega (arith, less, short))) ∙ e)
      (sym (moved-front at free moves.0 o moves.1 early late j short) ∙ g) u v

  step-filled' : IsFilledFrom f free result
  step-filled' i own low e = by (cases_lt free i)
    where
      by : (free < i) ⊎ (i ≤ free) → IsLowest f (take (suc i) result) own
      by (inl beyond) =
          lowest-same f sound (take (suc i) o) (take (suc i) result) own (moved-same at free moves.0 o moves.1 early late (suc i) (omega
          (arith, beyond)))
          (filled i own (omega (arith, beyond)) (sym (moved-beyond at free moves.0 o moves.1 early late i beyond) ∙ e))
      by (inr here) =
          let z : i ≡ free = omega (arith, low, here) in
          let own-is : next.place ≡ own = sym same-place ∙ same_Some moves.0 own (sym (moved-here at free moves.0 o moves.1 early late) ∙ ap
          (slice_get result) (sym z) ∙ e) in
          let lowest : IsLowest f (take (suc free) result) next.place =
          lowest-same f sound (take (suc free) o) (take (suc free) result) next.place (moved-same at free moves.0 o moves.1 early late (suc free)
          (omega arith))
          (next-lowest f o (suc free) at next falling) in
          subst (λ k. IsLowest f (take (suc k) result) own) (sym z) (subst (IsLowest f (take (suc free) result)) own-is lowest)

  pub step-order : IsOrder f after
  step-order = subst (IsOrder f) (sym moves.2) step-order'

  pub step-falling : AreByDeadline f free after
  step-falling = subst (AreByDeadline f free) (sym moves.2) step-falling'

  pub step-filled : IsFilledFrom f free after
  step-filled = subst (IsFilledFrom f free) (sym moves.2) step-filled'

-- what a step keeps
pub record IsKept (f : Flat) (free : ℕ) (o : List ℕ) : Type 0 where
  pub order : IsOrder f o
  pub falling : AreByDeadline f free o
  pub filled : IsFilledFrom f free o
  pub few : free ≤ length o

pub step-kept : (f : Flat) → IsSound f → (o after : List ℕ) (free at : ℕ) → IsOrder f o → AreByDeadline f free o → IsFilledFrom f free o
    → free ≤ length o
    → IsNext f o free at → IsMoved at (free - 1) o after → IsKept f (free - 1) after
step-kept f sound o after zero at order falling filled few next moves = absurd (let q = next.inside in omega (arith, q))
step-kept f sound o after (suc free) at order falling filled few next moves =
    let z : suc free - 1 ≡ free = omega arith in
    let moves' : IsMoved at free o after = subst (λ k. IsMoved at k o after) z moves in
    let kept : IsKept f free after = record {
      order = step-order f sound o after free at order few falling filled next moves';
      falling = step-falling f sound o after free at order few falling filled next moves';
      filled = step-filled f sound o after free at order few falling filled next moves';
      few =
          (let long : length after ≡ length o = ap length moves'.2 ∙ moved-long at free moves'.0 o moves'.1 (let q = next.inside in omega
          (arith, q)) (omega (arith, few))
          in omega (arith, long, few));
    } in
    subst (λ k. IsKept f k after) (sym z) kept

-- an order of which no place is filled yet
pub none-filled : (f : Flat) (o : List ℕ) → IsFilledFrom f (length o) o
none-filled f o i own low e = absurd (let q = slice_get_within o i own e in omega (arith, q, low))
