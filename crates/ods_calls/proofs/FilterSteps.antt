-- A step of a loop that gathers the items of a list that pass two tests.
use Rattle.std.proofs.Common.{◌≡◌, Bool, true, false, cond, List, [], ◌∷◌, ◌++◌, map, filter, refl}
use Rattle.seq_tree.proofs.Shared.LoopSteps.{map_filter_first}

pub map_filters_first : {A B : Type 0} (f : A → B) (p q : A → Bool) (x : A) (ys : List A)
    → map f (filter p (filter q (x ∷ ys))) ≡ map f (filter p (filter q (x ∷ []))) ++ map f (filter p (filter q ys))
map_filters_first {A} f p q x ys = by (q x)
  where
    by : (b : Bool) → map f (filter p (cond b (x ∷ filter q ys) (filter q ys)))
        ≡ map f (filter p (cond b (x ∷ []) [])) ++ map f (filter p (filter q ys))
    by true = map_filter_first f p x (filter q ys)
    by false = refl
