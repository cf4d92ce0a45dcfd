-- The place that a table has for a name, and what stands there.
use Rattle.std.proofs.Common.{◌≡◌, ℕ, suc, subst, Bool, true, false, cond, List, [], ◌∷◌, map, Option, Some, None}
use Rattle.std.proofs.Common.{option_map, refl, ap, sym, Bor, ◌∙◌}
use Rattle.std.specs.List.{slice_get}
use Rattle.std.specs.Slice.{IsItemAt}
use Rattle.std.proofs.lemmas.Option.{slice_get_past, slice_get-get_or, slice_get-map}
use Rattle.std.specs.Prelude.{find, option_and_then}
use Rattle.seq_tree.specs.Names.{Name, same_name}
use Rattle.name_sets.specs.FirstPlaces.{place_from}

-- one place on
shift_by : (b : Bool) (k : ℕ) (o more : Option ℕ) → more ≡ option_map (λ i. suc i) o → cond b (Some (suc k)) more
    ≡ option_map (λ i. suc i) (cond b (Some k) o)
shift_by true k o more e = refl
shift_by false k o more e = e

place_shift : (n : Name) (k : ℕ) (ns : List Name) → place_from (suc k) n ns ≡ option_map (λ i. suc i) (place_from k n ns)
place_shift n k [] = refl
place_shift n k (m ∷ ms) = shift_by (same_name m n) k (place_from (suc k) n ms) (place_from (suc (suc k)) n ms) (place_shift n (suc k) ms)

module _ {A B : Type 0} (g : A → B) where
  -- what stands at a place
  abbrev pub at_place : List A → ℕ → Option B
  at_place xs i = option_map g (slice_get xs i)

  past_first : (x : A) (xs : List A) (o : Option ℕ) → option_and_then (at_place (x ∷ xs)) (option_map (λ i. suc i) o)
      ≡ option_and_then (at_place xs) o
  past_first x xs None = refl
  past_first x xs (Some i) = refl

  found_by : (b : Bool) (x : A) (xs : List A) (o : Option ℕ) (rest : Option B) → option_and_then (at_place (x ∷ xs)) o ≡ rest →
      option_and_then (at_place (x ∷ xs)) (cond b (Some 0) o) ≡ cond b (Some (g x)) rest
  found_by true x xs o rest e = refl
  found_by false x xs o rest e = e

  -- the first of a name stands at the place of the name
  pub found_place : (f : B → Name) (n : Name) (xs : List A) →
      option_and_then (at_place xs) (place_from 0 n (map (λ x. f (g x)) xs)) ≡ find (λ y. same_name (f y) n) (map g xs)
  found_place f n [] = refl
  found_place f n (x ∷ xs) =
      found_by (same_name (f (g x)) n) x xs (place_from 1 n (map (λ y. f (g y)) xs)) _
      (ap (option_and_then (at_place (x ∷ xs))) (place_shift n 0 (map (λ y. f (g y)) xs))
      ∙ past_first x xs (place_from 0 n (map (λ y. f (g y)) xs)) ∙ found_place f n xs)

-- what `get` lends is what stands there
got : {A : Type 0} (xs : List A) (i : ℕ) (r : Option (Bor A)) → IsItemAt xs i r → option_map (λ x. x.now) r ≡ slice_get xs i
got xs i None e = sym (slice_get_past xs i e.3)
got xs i (Some x) e = sym (slice_get-get_or xs i x.now e.3.0 ∙ ap (λ y. Some y) (sym e.1))

-- the same, seen as something else
pub got_as : {A B : Type 0} (g : A → B) (xs : List A) (i : ℕ) (r : Option (Bor A)) → IsItemAt xs i r → option_map (λ x. g x.now) r
    ≡ option_map g (slice_get xs i)
got_as g xs i None e = ap (option_map g) (got xs i None e)
got_as g xs i (Some x) e = ap (option_map g) (got xs i (Some x) e)

module _ {A B : Type 0} (g : A → B) where
  seen_at : (xs : List A) (o : Option ℕ) → option_and_then (slice_get (map g xs)) o ≡ option_and_then (at_place g xs) o
  seen_at xs None = refl
  seen_at xs (Some i) = slice_get-map g xs i

  -- a table of names finds the first of a name
  pub place_found : (f : B → Name) (n : Name) (xs : List A) (ys : List B) (o : Option ℕ) → map g xs ≡ ys → o
      ≡ place_from 0 n (map (λ x. f (g x)) xs) →
      option_and_then (slice_get ys) o ≡ find (λ y. same_name (f y) n) ys
  place_found f n xs ys o e h =
      let Found : List B → Type 0 = λ zs. option_and_then (slice_get zs) o ≡ find (λ y. same_name (f y) n) zs in
      subst Found e (seen_at xs o ∙ ap (option_and_then (at_place g xs)) h ∙ found_place g f n xs)

  -- what stands at a place of another list of the same
  same_by : {C D : Type 0} (h : B → C) (k : C → Option D) (c : C) (o : Option A) → Some c ≡ option_map (λ x. h (g x)) o → k c
      ≡ option_and_then (λ y. k (h y)) (option_map g o)
  same_by h k c None e = absurd (cc)
  same_by h k c (Some x) e = ap k (cc)

  pub same_place : {C D E : Type 0} (h : B → C) (k : C → Option D) (a : E → C) (es : List E) (xs : List A) (ys : List B) (i : ℕ) (r : Bor E) →
      map a es ≡ map (λ x. h (g x)) xs → map g xs ≡ ys → IsItemAt es i (Some r) → k (a r.now) ≡ option_and_then (λ y. k (h y)) (slice_get ys i)
  same_place h k a es xs ys i r same seen at =
      same_by h k (a r.now) (slice_get xs i)
      (ap (option_map a) (got es i (Some r) at) ∙ sym (slice_get-map a es i) ∙ ap (λ cs. slice_get cs i) same ∙ slice_get-map (λ x. h (g x)) xs i)
      ∙ ap (option_and_then (λ y. k (h y))) (sym (slice_get-map g xs i) ∙ ap (λ zs. slice_get zs i) seen)
