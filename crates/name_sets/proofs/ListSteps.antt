-- Lists that items were added to, by the place of a name.
use Rattle.std.proofs.Common.{◌≡◌, ℕ, zero, suc, ◌<◌, Bool, true, false, List, [], ◌∷◌, ◌++◌, length, set, Option, Some, None, Vec}
use Rattle.std.proofs.Common.{refl, ap, sym, ◌∙◌, arith}
use Rattle.std.specs.Prelude.{option_and_then, option_map, if◌then◌else◌, slice_get}
use Rattle.std.proofs.Math.ListN.{get_or}
use Rattle.std.proofs.lemmas.List.{append-nil}
use Rattle.std.proofs.lemmas.Option.{slice_get_read}
use Rattle.name_sets.specs.Tables.{listed}
use Rattle.name_sets.proofs.TableSteps.{over_law}

module _ {V Z : Type 0} where
  -- a list was put that has the items from before and more
  pub more_law : (b : Bool) (v : Vec V Z) (before old new : Option (Vec V Z)) (items : List V) → new ≡ (if b then Some v else old)
      → (b ≡ true → old ≡ before) → v.items ≡ listed before ++ items → listed new ≡ listed old ++ (if b then items else [])
  more_law true v before old new items is same made =
      ap listed is ∙ made ∙ ap (λ o. listed o ++ items) (sym (same refl))
  more_law false v before old new items is same made = ap listed is ∙ sym (append-nil (listed old))

  -- a list that stands at a place got more
  pub longer_law : (xs : List (Vec V Z)) (i : ℕ) (was v : Vec V Z) (items : List V) (b : Bool) (o : Option ℕ) → i < length xs
      → (b ≡ true → o ≡ Some i) → (o ≡ Some i → b ≡ true) → was ≡ get_or xs i was → v.items ≡ was.items ++ items
      → listed (option_and_then (slice_get (set xs i v)) o) ≡ listed (option_and_then (slice_get xs) o) ++ (if b then items else [])
  longer_law xs i was v items b o within here only stood made =
      more_law b v (Some was) (option_and_then (slice_get xs) o) (option_and_then (slice_get (set xs i v)) o) items
      (over_law xs i v b o within here only)
      (λ h. ap (option_and_then (slice_get xs)) (here h) ∙ slice_get_read xs (length xs) i was refl within stood) made

  -- a list that stands at a place kept its items
  pub kept_law : (xs : List (Vec V Z)) (i : ℕ) (was v : Vec V Z) (o : Option ℕ) → i < length xs → was ≡ get_or xs i was → v.items ≡ was.items
      → option_map (λ u. u.items) (option_and_then (slice_get (set xs i v)) o) ≡ option_map (λ u. u.items) (option_and_then (slice_get xs) o)
  kept_law xs i was v None within stood made = refl
  kept_law [] i was v (Some p) within stood made = absurd (omega (arith, within))
  kept_law (x ∷ xs) zero was v (Some zero) within stood made = ap Some (made ∙ ap (λ u. u.items) stood)
  kept_law (x ∷ xs) zero was v (Some (suc p)) within stood made = refl
  kept_law (x ∷ xs) (suc i) was v (Some zero) within stood made = refl
  kept_law (x ∷ xs) (suc i) was v (Some (suc p)) within stood made = kept_law xs i was v (Some p) (omega (arith, within)) stood made
