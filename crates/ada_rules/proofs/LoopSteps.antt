-- A loop that adds what each item gives, or that asks whether something holds of an item: one step of it.
use Rattle.std.proofs.Common.{◌≡◌, ℕ, ◌+◌, ◌<◌, Bool, true, false, ◌||◌, List, [], ◌∷◌, ◌++◌, length, take, drop, map}
use Rattle.std.proofs.Common.{get_or, ap, sym, ◌∙◌, append_assoc}
use Rattle.std.proofs.lemmas.List.{map-append}
use Rattle.std.proofs.lemmas.List.Folds.{list_any-append}
use Rattle.std.specs.List.{list_any}
use Rattle.std.proofs.Math.Bool.{or-false}
use Rattle.seq_tree.proofs.Shared.LoopSteps.{drop_step, take_step}
use Rattle.ada_rules.proofs.NameSteps.{or_turn}

-- one thing is pushed for an item, behind those of the items before it
pub pushed_step : {A B C : Type 0} (f : B → C) (G : List A → List C) (xs : List A) (i : ℕ) (x : A) (y : B) (old new : List B) (first : List C)
    → ((ys : List A) → G (ys ++ x ∷ []) ≡ G ys ++ f y ∷ []) → i < length xs → x ≡ get_or xs i x → new ≡ old ++ y ∷ []
    → map f old ≡ first ++ G (take i xs)
    → map f new ≡ first ++ G (take (i + 1) xs)
pushed_step f G xs i x y old new first split inside at made was =
    ap (map f) made ∙ map-append f old (y ∷ []) ∙ ap (λ ys. ys ++ f y ∷ []) was ∙ append_assoc first (G (take i xs)) (f y ∷ [])
    ∙ ap (λ ys. first ++ ys) (sym (split (take i xs)) ∙ ap G (sym (take_step xs i x inside at)))

-- what stands for a last item, in two steps
pub maps_last : {A B C : Type 0} (g : B → C) (f : A → B) (x : A) (ys : List A) → map g (map f (ys ++ x ∷ [])) ≡ map g (map f ys) ++ g (f x) ∷ []
maps_last g f x ys = ap (map g) (map-append f ys (x ∷ [])) ∙ map-append g (map f ys) (f x ∷ [])

-- it doesn't hold of an item, so that it is up to those behind it
pub passed_step : {A : Type 0} (F : List A → Bool) (xs : List A) (i : ℕ) (x : A) (here all : Bool)
    → ((ys : List A) → F (x ∷ ys) ≡ (here || F ys)) → i < length xs → x ≡ get_or xs i x → here ≡ false → F (drop i xs) ≡ all
    → F (drop (i + 1) xs) ≡ all
passed_step F xs i x here all split inside at fails was =
    let rest = drop (i + 1) xs in ap (λ b. b || F rest) (sym fails) ∙ sym (split rest) ∙ ap F (sym (drop_step xs i x inside at)) ∙ was

-- it holds of an item, and so of some
pub found_step : {A : Type 0} (F : List A → Bool) (xs : List A) (i : ℕ) (x : A) (here all : Bool)
    → ((ys : List A) → F (x ∷ ys) ≡ (here || F ys)) → i < length xs → x ≡ get_or xs i x → here ≡ true → F (drop i xs) ≡ all
    → true ≡ all
found_step F xs i x here all split inside at holds was =
    let rest = drop (i + 1) xs in ap (λ b. b || F rest) (sym holds) ∙ sym (split rest) ∙ ap F (sym (drop_step xs i x inside at)) ∙ was

-- a test of a last item
pub any_last : {A B : Type 0} (f : B → Bool) (g : A → B) (x : A) (ys : List A)
    → list_any f (map g (ys ++ x ∷ [])) ≡ (list_any f (map g ys) || f (g x))
any_last f g x ys =
    ap (list_any f) (map-append g ys (x ∷ [])) ∙ list_any-append f (map g ys) (g x ∷ []) ∙ ap (λ b. list_any f (map g ys) || b) (or-false (f (g x)))

-- what is told of an item is told of it or of those before it, or was so at first
pub told_step : {A : Type 0} (F : List A → Bool) (xs : List A) (i : ℕ) (x : A) (here first old new : Bool)
    → ((ys : List A) → F (ys ++ x ∷ []) ≡ (F ys || here)) → i < length xs → x ≡ get_or xs i x → new ≡ (here || old) → old ≡ (F (take i xs) || first)
    → new ≡ (F (take (i + 1) xs) || first)
told_step F xs i x here first old new split inside at made was =
    made ∙ ap (λ b. here || b) was ∙ or_turn here (F (take i xs)) first ∙ ap (λ b. b || first)
    (sym (split (take i xs)) ∙ ap F (sym (take_step xs i x inside at)))

-- and where none was at first
pub told_alone : {A : Type 0} (F : List A → Bool) (xs : List A) (i : ℕ) (x : A) (here old new : Bool)
    → ((ys : List A) → F (ys ++ x ∷ []) ≡ (F ys || here)) → i < length xs → x ≡ get_or xs i x → new ≡ (here || old) → old ≡ F (take i xs)
    → new ≡ F (take (i + 1) xs)
told_alone F xs i x here old new split inside at made was =
    told_step F xs i x here false old new split inside at made (was ∙ sym (or-false (F (take i xs)))) ∙ or-false (F (take (i + 1) xs))
