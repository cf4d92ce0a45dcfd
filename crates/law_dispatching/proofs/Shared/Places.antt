-- Tasks and numbers by their places, and what a change of one leaves of the others.
use Rattle.std.specs.Prelude.{◌≡◌, ◌≢◌, ◌⊎◌, ℕ, zero, suc, ◌<◌, true, List, [], ◌∷◌, fold, length, set, Option, Some, None, option_map}
use Rattle.std.specs.Prelude.{slice_get, ℤ, pos, int_lt, ◌+ℤ◌, ◌-ℤ◌, refl}
use Rattle.std.specs.Int.{int_max, int_min}
use Rattle.std.proofs.Common.{sym, ◌∙◌, ap, arith, inl, inr, length-set}
use Rattle.std.proofs.lemmas.Option.{none-some, same_Some}
use Rattle.std.proofs.lemmas.Bool.{cases_eq}
use Rattle.seq_tree.specs.Lists.{change}
use Rattle.machine.specs.States.{Task}
use Rattle.machine.specs.Dispatch.{put_last, put_first}
use Rattle.law_dispatching.specs.Queueing.{number}
use Rattle.law_dispatching.proofs.Shared.Renumbered.{Below, Above, greatest, least, above_all, below_all}

no_below : (i : ℕ) → i < 0 → ⊥
no_below i h = omega arith

-- a task after a change
pub get-change : (i : ℕ) (f : Task → Task) (ts : List Task) → slice_get (change i f ts) i ≡ option_map f (slice_get ts i)
get-change i f [] = refl
get-change zero f (u ∷ ts) = refl
get-change (suc i) f (u ∷ ts) = get-change i f ts

pub get-changed : (i : ℕ) (f : Task → Task) (ts : List Task) (t : Task) → slice_get ts i ≡ Some t → slice_get (change i f ts) i ≡ Some (f t)
get-changed i f ts t e = get-change i f ts ∙ ap (option_map f) e

pub get-other : (i j : ℕ) (f : Task → Task) (ts : List Task) → j ≢ i → slice_get (change i f ts) j ≡ slice_get ts j
get-other i j f [] d = refl
get-other zero zero f (u ∷ ts) d = absurd (d refl)
get-other zero (suc j) f (u ∷ ts) d = refl
get-other (suc i) zero f (u ∷ ts) d = refl
get-other (suc i) (suc j) f (u ∷ ts) d = get-other i j f ts (λ e. d (ap suc e))

-- what a task was before a change of one
pub record Before (i : ℕ) (f : Task → Task) (ts : List Task) (j : ℕ) (u : Task) : Type 0 where
  pub task : Task
  pub at : slice_get ts j ≡ Some task
  pub is : (u ≡ task) ⊎ (u ≡ f task)

pub before-change : (i : ℕ) (f : Task → Task) (ts : List Task) (j : ℕ) (u : Task) → slice_get (change i f ts) j ≡ Some u → Before i f ts j u
before-change i f ts j u here = by_place (cases_eq j i)
  where
    by_task : (o : Option Task) → slice_get ts j ≡ o → option_map f o ≡ Some u → Before i f ts j u
    by_task None at e = absurd (none-some u e)
    by_task (Some t) at e = record { task = t; at = at; is = inr (sym (same_Some (f t) u e)) }

    by_place : (j ≡ i) ⊎ (j ≢ i) → Before i f ts j u
    by_place (inl same) = by_task (slice_get ts j) refl (ap (λ k. option_map f (slice_get ts k)) same ∙ sym (get-change i f ts) ∙ ap
        (slice_get (change i f ts)) (sym same) ∙ here)
    by_place (inr d) = record { task = u; at = sym (get-other i j f ts d) ∙ here; is = inl refl }

pub length-change : (i : ℕ) (f : Task → Task) (ts : List Task) → length (change i f ts) ≡ length ts
length-change i f [] = refl
length-change zero f (u ∷ ts) = refl
length-change (suc i) f (u ∷ ts) = ap suc (length-change i f ts)

pub get-within : (i : ℕ) (ts : List Task) (t : Task) → slice_get ts i ≡ Some t → i < length ts
get-within i [] t e = absurd (none-some t e)
get-within zero (u ∷ ts) t e = omega arith
get-within (suc i) (u ∷ ts) t e = let h : i < length ts = get-within i ts t e in omega arith

-- a number after a change
pub number-set_same : (os : List ℤ) (i : ℕ) (v : ℤ) → i < length os → number (set os i v) i ≡ v
number-set_same [] i v h = absurd (no_below i h)
number-set_same (o ∷ os) zero v h = refl
number-set_same (o ∷ os) (suc i) v h = number-set_same os i v (omega arith)

pub number-set_other : (os : List ℤ) (i j : ℕ) (v : ℤ) → j ≢ i → number (set os i v) j ≡ number os j
number-set_other [] i j v d = refl
number-set_other (o ∷ os) zero zero v d = absurd (d refl)
number-set_other (o ∷ os) zero (suc j) v d = refl
number-set_other (o ∷ os) (suc i) zero v d = refl
number-set_other (o ∷ os) (suc i) (suc j) v d = number-set_other os i j v (λ e. d (ap suc e))

below-at : (v : ℤ) (os : List ℤ) (j : ℕ) → j < length os → Below v os → int_lt (number os j) v ≡ true
below-at v [] j h b = absurd (no_below j h)
below-at v (o ∷ os) zero h b = b.0.0
below-at v (o ∷ os) (suc j) h b = below-at v os j (omega arith) b.1

above-at : (v : ℤ) (os : List ℤ) (j : ℕ) → j < length os → Above v os → int_lt v (number os j) ≡ true
above-at v [] j h b = absurd (no_below j h)
above-at v (o ∷ os) zero h b = b.0.1
above-at v (o ∷ os) (suc j) h b = above-at v os j (omega arith) b.1

-- a task that goes behind all others, or before them
pub length-last : (i : ℕ) (os : List ℤ) → length (put_last i os) ≡ length os
length-last i [] = refl
length-last i (o ∷ os) = length-set (o ∷ os) i (fold int_max o os +ℤ pos 1)

pub length-first : (i : ℕ) (os : List ℤ) → length (put_first i os) ≡ length os
length-first i [] = refl
length-first i (o ∷ os) = length-set (o ∷ os) i (fold int_min o os -ℤ pos 1)

pub last-other : (i j : ℕ) (os : List ℤ) → j ≢ i → number (put_last i os) j ≡ number os j
last-other i j [] d = refl
last-other i j (o ∷ os) d = number-set_other (o ∷ os) i j (fold int_max o os +ℤ pos 1) d

pub first-other : (i j : ℕ) (os : List ℤ) → j ≢ i → number (put_first i os) j ≡ number os j
first-other i j [] d = refl
first-other i j (o ∷ os) d = number-set_other (o ∷ os) i j (fold int_min o os -ℤ pos 1) d

pub last-after : (i j : ℕ) (os : List ℤ) → i < length os → j < length os → int_lt (number os j) (number (put_last i os) i) ≡ true
last-after i j [] h k = absurd (no_below i h)
last-after i j (o ∷ os) h k =
    let v : ℤ = fold int_max o os +ℤ pos 1 in
    let b : Below v (o ∷ os) = (above_all o (fold int_max o os) (greatest o os).0, (greatest o os).1) in
    ap (int_lt (number (o ∷ os) j)) (number-set_same (o ∷ os) i v h) ∙ below-at v (o ∷ os) j k b

pub first-before : (i j : ℕ) (os : List ℤ) → i < length os → j < length os → int_lt (number (put_first i os) i) (number os j) ≡ true
first-before i j [] h k = absurd (no_below i h)
first-before i j (o ∷ os) h k =
    let v : ℤ = fold int_min o os -ℤ pos 1 in
    let b : Above v (o ∷ os) = (below_all o (fold int_min o os) (least o os).0, (least o os).1) in
    ap (λ z. int_lt z (number (o ∷ os) j)) (number-set_same (o ∷ os) i v h) ∙ above-at v (o ∷ os) j k b
