-- A loop over a list: the item at its index and those behind it, and what is added for each item.
use Rattle.std.proofs.Common.{◌≡◌, ℕ, suc, ◌+◌, ◌<◌, Bool, true, false, cond, List, [], ◌∷◌, ◌++◌, length, take, drop, map, filter, flat_map}
use Rattle.std.proofs.Common.{Option, Some, None, get_or, refl, ap, sym, ◌∙◌, add-one, append_assoc, drop-cons}
use Rattle.std.proofs.lemmas.List.{take_more}
use Rattle.std.specs.Prelude.{filter_map}
use Rattle.std.specs.List.{cons_option}

-- the item at an index, and those behind it
pub drop_step : {A : Type 0} (xs : List A) (i : ℕ) (x : A) → i < length xs → x ≡ get_or xs i x → drop i xs ≡ x ∷ drop (i + 1) xs
drop_step xs i x inside at = drop-cons xs i x inside ∙ ap (λ y. y ∷ drop (suc i) xs) (sym at) ∙ ap (λ k. x ∷ drop k xs) (sym (add-one i))

-- those before an index, and the item there
pub take_step : {A : Type 0} (xs : List A) (i : ℕ) (x : A) → i < length xs → x ≡ get_or xs i x → take (i + 1) xs ≡ take i xs ++ x ∷ []
take_step xs i x inside at = take_more xs i x inside ∙ ap (λ y. take i xs ++ y ∷ []) (sym at)

-- what an item gives is added, and what is left is that of the items behind it
pub added_step : {A B : Type 0} (G : List A → List B) (mine : List B) (xs : List A) (i : ℕ) (x : A) (before new all : List B)
    → ((ys : List A) → G (x ∷ ys) ≡ mine ++ G ys) → i < length xs → x ≡ get_or xs i x → new ≡ before ++ mine → before ++ G (drop i xs) ≡ all
    → new ++ G (drop (i + 1) xs) ≡ all
added_step G mine xs i x before new all split inside at made was =
    let rest = drop (i + 1) xs in
    ap (λ ys. ys ++ G rest) made ∙ append_assoc before mine (G rest) ∙ ap (λ ys. before ++ ys) (sym (split rest))
    ∙ ap (λ ys. before ++ G ys) (sym (drop_step xs i x inside at)) ∙ was

-- what passes a test, and what it leads to, of the first item and of those behind it
pub filter_first : {A : Type 0} (p : A → Bool) (x : A) (ys : List A) → filter p (x ∷ ys) ≡ filter p (x ∷ []) ++ filter p ys
filter_first {A} p x ys = by (p x)
  where
    by : (b : Bool) → cond b (x ∷ filter p ys) (filter p ys) ≡ cond b (x ∷ []) [] ++ filter p ys
    by true = refl
    by false = refl

pub map_filter_first : {A B : Type 0} (f : A → B) (p : A → Bool) (x : A) (ys : List A)
    → map f (filter p (x ∷ ys)) ≡ map f (filter p (x ∷ [])) ++ map f (filter p ys)
map_filter_first {A} f p x ys = by (p x)
  where
    by : (b : Bool) → map f (cond b (x ∷ filter p ys) (filter p ys)) ≡ map f (cond b (x ∷ []) []) ++ map f (filter p ys)
    by true = refl
    by false = refl

pub flat_filter_first : {A B : Type 0} (f : A → List B) (p : A → Bool) (x : A) (ys : List A)
    → flat_map f (filter p (x ∷ ys)) ≡ flat_map f (filter p (x ∷ [])) ++ flat_map f (filter p ys)
flat_filter_first {A} f p x ys = by (p x)
  where
    by : (b : Bool) → flat_map f (cond b (x ∷ filter p ys) (filter p ys)) ≡ flat_map f (cond b (x ∷ []) []) ++ flat_map f (filter p ys)
    by true = sym (append_assoc (f x) [] (flat_map f (filter p ys)))
    by false = refl

-- what is given of the first item, and of those behind it
pub given_first : {A B : Type 0} (f : A → Option B) (x : A) (ys : List A) → filter_map f (x ∷ ys) ≡ filter_map f (x ∷ []) ++ filter_map f ys
given_first {A} {B} f x ys = by (f x) (filter_map f ys)
  where
    by : (o : Option B) (bs : List B) → cons_option o bs ≡ cons_option o [] ++ bs
    by None bs = refl
    by (Some b) bs = refl
