-- Order numbers after a task goes before all others or behind them.
use Rattle.std.specs.Prelude.{◌≡◌, ◌≢◌, ℕ, zero, suc, List, [], ◌∷◌, length, fold, slice_get, Some, ℤ, pos, ◌+ℤ◌, ◌-ℤ◌, ◌<ℤ◌, ◌≤ℤ◌, All, refl}
use Rattle.std.specs.Int.{int_max, int_min}
use Rattle.std.proofs.Common.{subst, arith}
use Rattle.std.proofs.lemmas.Int.{ints, fold-int_max_bounds, fold-int_min_bounds}
use Rattle.std.proofs.lemmas.Option.{none-some, same_Some, slice_get_within, get_or_from_slice_get}
use Rattle.machine.specs.Dispatch.{put_last, put_first}
use Rattle.law_lists.proofs.Shared.Places.{set-at, set-else, length-set'}

-- numbers are at most the greatest and at least the least
all-get : (P : ℤ → Type 0) (xs : List ℤ) (j : ℕ) (p : ℤ) → All P xs → slice_get xs j ≡ Some p → P p
all-get P xs j p h e = subst P (get_or_from_slice_get xs j p p e) (h j p (slice_get_within xs j p e))

at_most : (r : ℤ) (o : ℤ) (os : List ℤ) (j : ℕ) (p : ℤ) → o ≤ℤ r → All (λ x. x ≤ℤ r) os → slice_get (o ∷ os) j ≡ Some p → p ≤ℤ r
at_most r o os zero p first others e = subst (λ x. x ≤ℤ r) (same_Some o p e) first
at_most r o os (suc j) p first others e = all-get (λ x. x ≤ℤ r) os j p others e

at_least : (r : ℤ) (o : ℤ) (os : List ℤ) (j : ℕ) (p : ℤ) → r ≤ℤ o → All (λ x. r ≤ℤ x) os → slice_get (o ∷ os) j ≡ Some p → r ≤ℤ p
at_least r o os zero p first others e = subst (λ x. r ≤ℤ x) (same_Some o p e) first
at_least r o os (suc j) p first others e = all-get (λ x. r ≤ℤ x) os j p others e

-- a task that goes behind all others has a number above each of theirs, and they keep theirs
pub last-above : (i j : ℕ) (os : List ℤ) (p v : ℤ) → slice_get os j ≡ Some p → slice_get (put_last i os) i ≡ Some v → p <ℤ v
last-above i j [] p v e f = absurd (none-some p e)
last-above i j (o ∷ os) p v e f =
    let bounds = fold-int_max_bounds o os (fold int_max o os) refl in
    let most : p ≤ℤ fold int_max o os = at_most (fold int_max o os) o os j p bounds.0 bounds.1 e in
    let is : v ≡ fold int_max o os +ℤ pos 1 = set-at i (fold int_max o os +ℤ pos 1) (o ∷ os) v f in
    omega (arith, ints)

pub last-else : (i j : ℕ) (os : List ℤ) → j ≢ i → slice_get (put_last i os) j ≡ slice_get os j
last-else i j [] other = refl
last-else i j (o ∷ os) other = set-else i j (fold int_max o os +ℤ pos 1) (o ∷ os) other

pub length-last : (i : ℕ) (os : List ℤ) → length (put_last i os) ≡ length os
length-last i [] = refl
length-last i (o ∷ os) = length-set' i (fold int_max o os +ℤ pos 1) (o ∷ os)

-- a task that goes before all others has a number below each of theirs, and they keep theirs
pub first-below : (i j : ℕ) (os : List ℤ) (p v : ℤ) → slice_get os j ≡ Some p → slice_get (put_first i os) i ≡ Some v → v <ℤ p
first-below i j [] p v e f = absurd (none-some p e)
first-below i j (o ∷ os) p v e f =
    let bounds = fold-int_min_bounds o os (fold int_min o os) refl in
    let least : fold int_min o os ≤ℤ p = at_least (fold int_min o os) o os j p bounds.0 bounds.1 e in
    let is : v ≡ fold int_min o os -ℤ pos 1 = set-at i (fold int_min o os -ℤ pos 1) (o ∷ os) v f in
    omega (arith, ints)

pub first-else : (i j : ℕ) (os : List ℤ) → j ≢ i → slice_get (put_first i os) j ≡ slice_get os j
first-else i j [] other = refl
first-else i j (o ∷ os) other = set-else i j (fold int_min o os -ℤ pos 1) (o ∷ os) other

pub length-first : (i : ℕ) (os : List ℤ) → length (put_first i os) ≡ length os
length-first i [] = refl
length-first i (o ∷ os) = length-set' i (fold int_min o os -ℤ pos 1) (o ∷ os)
