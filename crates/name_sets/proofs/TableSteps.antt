-- A value that is put in the place of another, or behind all others, and what is found then by the place of a name.
use Rattle.std.proofs.Common.{◌≡◌, ◌≢◌, ℕ, zero, suc, ◌<◌, Bool, true, false, cond, List, [], ◌∷◌, ◌++◌, length, set, Option, Some, None}
use Rattle.std.proofs.Common.{refl, ap, sym, ◌∙◌, arith}
use Rattle.std.specs.Prelude.{option_and_then, if◌then◌else◌, slice_get}
use Rattle.std.proofs.Math.ListN.{get_or-append}
use Rattle.std.proofs.Math.Seq.{get_or-append_seam}
use Rattle.std.proofs.lemmas.List.{length-append}
use Rattle.std.proofs.lemmas.Option.{slice_get-get_or}

module _ {V : Type 0} where
  set_same : (xs : List V) (i : ℕ) (v : V) → i < length xs → slice_get (set xs i v) i ≡ Some v
  set_same [] i v within = absurd (omega (arith, within))
  set_same (x ∷ xs) zero v within = refl
  set_same (x ∷ xs) (suc i) v within = set_same xs i v (omega (arith, within))

  set_other : (xs : List V) (i p : ℕ) (v : V) → i ≢ p → slice_get (set xs i v) p ≡ slice_get xs p
  set_other [] i p v other = refl
  set_other (x ∷ xs) zero zero v other = absurd (other refl)
  set_other (x ∷ xs) zero (suc p) v other = refl
  set_other (x ∷ xs) (suc i) zero v other = refl
  set_other (x ∷ xs) (suc i) (suc p) v other = set_other xs i p v (λ e. other (ap suc e))

  -- a value was put in the place of another
  pub over_law : (xs : List V) (i : ℕ) (v : V) (b : Bool) (o : Option ℕ) → i < length xs → (b ≡ true → o ≡ Some i) → (o ≡ Some i → b ≡ true)
      → option_and_then (slice_get (set xs i v)) o ≡ (if b then Some v else option_and_then (slice_get xs) o)
  over_law xs i v true o within here only = ap (option_and_then (slice_get (set xs i v))) (here refl) ∙ set_same xs i v within
  over_law xs i v false None within here only = refl
  over_law xs i v false (Some p) within here only = set_other xs i p v (λ e. cc (only (ap Some (sym e))))

  -- a value was put behind all others
  pub behind_law : (xs : List V) (v : V) (b : Bool) (old new : Option ℕ) → new ≡ cond b (Some (length xs)) old
      → ((p : ℕ) → old ≡ Some p → p < length xs)
      → option_and_then (slice_get (xs ++ v ∷ [])) new ≡ (if b then Some v else option_and_then (slice_get xs) old)
  behind_law xs v true old new is inside =
      ap (option_and_then (slice_get (xs ++ v ∷ []))) is
      ∙ slice_get-get_or (xs ++ v ∷ []) (length xs) v (let e = length-append xs (v ∷ []) in omega (arith, e))
      ∙ ap Some (get_or-append_seam xs v [] v)
  behind_law xs v false None new is inside = ap (option_and_then (slice_get (xs ++ v ∷ []))) is
  behind_law xs v false (Some p) new is inside =
      let within = inside p refl in
      ap (option_and_then (slice_get (xs ++ v ∷ []))) is
      ∙ slice_get-get_or (xs ++ v ∷ []) p v (let e = length-append xs (v ∷ []) in omega (arith, e, within))
      ∙ ap Some (get_or-append xs (v ∷ []) v p within)
      ∙ sym (slice_get-get_or xs p v within)
