-- A loop that adds what each item gives, or asks a test of it, or tells what is told of the first: one step of it.
use Rattle.std.proofs.Common.{◌≡◌, ℕ, ◌+◌, ◌<◌, Bool, true, ◌&&◌, List, [], ◌∷◌, ◌++◌, Option, None, length, drop, take, map, flat_map, ap, sym, ◌∙◌}
use Rattle.std.proofs.Math.ListN.{get_or}
use Rattle.std.specs.List.{list_all}
use Rattle.std.proofs.lemmas.List.{map-append, take_more}
use Rattle.std.proofs.lemmas.List.Folds.{list_all-append}
use Rattle.design_rules.specs.Broken.{Broken}
use Rattle.ods_index.specs.Judging.{head_of}
use Rattle.ods_index.proofs.Shared.TellSteps.{head_later}
use Rattle.seq_tree.proofs.Shared.LoopSteps.{drop_step}

-- all that an item gives passes a test, so that it is up to those behind it
pub passed_step : {A B : Type 0} (p : B → Bool) (G : List A → List B) (mine : List B) (xs : List A) (i : ℕ) (x : A) (all : Bool)
    → ((ys : List A) → G (x ∷ ys) ≡ mine ++ G ys) → i < length xs → x ≡ get_or xs i x → list_all p mine ≡ true → list_all p (G (drop i xs)) ≡ all
    → list_all p (G (drop (i + 1) xs)) ≡ all
passed_step p G mine xs i x all split inside at holds was =
    let rest = drop (i + 1) xs in
    ap (λ b. b && list_all p (G rest)) (sym holds) ∙ sym (list_all-append p mine (G rest)) ∙ ap (list_all p) (sym (split rest))
    ∙ ap (λ ys. list_all p (G ys)) (sym (drop_step xs i x inside at)) ∙ was

-- what an item gives stands behind what those before it gave
pub mapped_step : {A B C : Type 0} (f : B → C) (g : A → C) (xs : List A) (i : ℕ) (x : A) (y : B) (before new : List B)
    → i < length xs → x ≡ get_or xs i x → new ≡ before ++ y ∷ [] → f y ≡ g x → map f before ≡ map g (take i xs) → map f new ≡ map g (take (i + 1) xs)
mapped_step f g xs i x y before new inside at made here was =
    ap (map f) made ∙ map-append f before (y ∷ []) ∙ ap (λ cs. cs ++ f y ∷ []) was ∙ ap (λ c. map g (take i xs) ++ c ∷ []) here
    ∙ sym (map-append g (take i xs) (x ∷ [])) ∙ ap (map g) (sym (take_more xs i x inside ∙ ap (λ z. take i xs ++ z ∷ []) (sym at)))

-- nothing is told of an item, so that the first is that of those behind it
pub quiet_step : {A X : Type 0} (f : A → List Broken) (v : X → A) (xs : List X) (i : ℕ) (x : X) (all : Option Broken)
    → i < length xs → x ≡ get_or xs i x → head_of (f (v x)) ≡ None → head_of (flat_map f (map v (drop i xs))) ≡ all
    → head_of (flat_map f (map v (drop (i + 1) xs))) ≡ all
quiet_step f v xs i x all inside at none was =
    sym (head_later (f (v x)) (flat_map f (map v (drop (i + 1) xs))) none)
    ∙ ap (λ ys. head_of (flat_map f (map v ys))) (sym (drop_step xs i x inside at)) ∙ was
