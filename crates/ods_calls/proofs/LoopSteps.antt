-- Steps of loops that tell the first fault of items, and that gather what items have.
use Rattle.std.proofs.Common.{◌≡◌, ℕ, ◌+◌, ◌<◌, Bool, true, false, cond, List, [], ◌∷◌, length, drop, filter, flat_map, map, Option, Some, None, Err}
use Rattle.std.proofs.Common.{append-nil, get_or, ap, sym, subst, ◌∙◌}
use Rattle.std.specs.Prelude.{filter_map}
use Rattle.std.specs.List.{cons_option}
use Rattle.seq_tree.proofs.Shared.LoopSteps.{drop_step}
use Rattle.design_rules.specs.Broken.{Broken}
use Rattle.ods_index.specs.Judging.{IsTold, Tells, head_of}
use Rattle.ods_index.specs.Told.{told_of, is_memory}
use Rattle.ods_index.specs.declared.broken.Broken as code

-- an item that passes a test, by itself
pub one_passes : {A B : Type 0} (f : A → List B) (p : A → Bool) (a : A) → p a ≡ true → f a ≡ flat_map f (filter p (a ∷ []))
one_passes f p a e = sym (append-nil (f a)) ∙ ap (λ b. flat_map f (cond b (a ∷ []) [])) (sym e)

-- nothing is told of an item, so that it is up to those behind it
pub passed_step : {A O : Type 0} (f : O → Option Broken) (g : A → O) (xs : List A) (i : ℕ) (x : A) (all : Option Broken) → i < length xs
    → x ≡ get_or xs i x → f (g x) ≡ None
    → head_of (filter_map f (map g (drop i xs))) ≡ all → head_of (filter_map f (map g (drop (i + 1) xs))) ≡ all
passed_step f g xs i x all inside at none was =
    ap (λ o. head_of (cons_option o (filter_map f (map g (drop (i + 1) xs))))) (sym none)
    ∙ ap (λ ys. head_of (filter_map f (map g ys))) (sym (drop_step xs i x inside at)) ∙ was

-- nothing is told of an item, so that all is told of those behind it
pub quiet_step : {A O : Type 0} (f : O → Option Broken) (g : A → O) (xs : List A) (i : ℕ) (x : A) (all : List Broken) → i < length xs
    → x ≡ get_or xs i x → f (g x) ≡ None → filter_map f (map g (drop i xs)) ≡ all → filter_map f (map g (drop (i + 1) xs)) ≡ all
quiet_step f g xs i x all inside at none was =
    ap (λ o. cons_option o (filter_map f (map g (drop (i + 1) xs)))) (sym none)
    ∙ ap (λ ys. filter_map f (map g ys)) (sym (drop_step xs i x inside at)) ∙ was

told_of_none : (memory : Bool) (told wanted : Option Broken) → IsTold memory told None → IsTold memory told wanted
told_of_none true told wanted h = h
told_of_none false None wanted h = h
told_of_none false (Some b) wanted h = absurd (cc)

-- what is told of an item is told of all
pub told_step : {A O : Type 0} (f : O → Option Broken) (g : A → O) (xs : List A) (i : ℕ) (x : A) (all : Option Broken) (e : code.Broken)
    → i < length xs → x ≡ get_or xs i x
    → head_of (filter_map f (map g (drop i xs))) ≡ all → Tells (Err e) (f (g x)) → Tells (Err e) all
told_step f g xs i x all e inside at was h =
    let rest = filter_map f (map g (drop (i + 1) xs)) in
    let P : Option Broken → Type 0 = λ w. Tells (Err e) w in
    subst P (ap (λ ys. head_of (filter_map f (map g ys))) (sym (drop_step xs i x inside at)) ∙ was) (by (f (g x)) rest h)
  where
    by : (o : Option Broken) (rest : List Broken) → Tells (Err e) o → Tells (Err e) (head_of (cons_option o rest))
    by None rest k = told_of_none (is_memory e) (told_of e) (head_of rest) k
    by (Some b) rest k = k
