-- What stands at a place of a program that the code reads.
use Rattle.std.proofs.Common.{◌≡◌, ℕ, zero, suc, ◌<◌, List, [], ◌∷◌, length, map, set, get_or, arith, Some, refl, sym, ap, ◌∙◌}
use Rattle.std.specs.Prelude.{slice_get, option_and_then, is_some, Result, Ok, Err, OnOk}
use Rattle.seq_tree.specs.Lists.{change}
use Rattle.ada_tree.specs.Programs.{Program, Form, Unit, is_task, Passive, Shared, Cyclic, Sporadic}
use Rattle.law_trace_places.specs.Places.{task_in, task_at}
use Rattle.trace_text.proofs.Shared.Names.{read-map}

pub ruleset unit_steps = (read-map)

pub task-is : (u : Unit) → is_some (task_in u) ≡ is_task u.form
task-is u = by u.form
  where
    by : (f : Form) → is_some (task_in (record { name = u.name; form = f })) ≡ is_task f
    by (Passive ops) = refl
    by (Shared ceiling vars ops) = refl
    by (Cyclic priority offset period vars block) = refl
    by (Sporadic priority ceiling op separation jitter external vars block) = refl

pub has-task : (p : Program) (k : ℕ) (u : Unit) → slice_get p.units k ≡ Some u → is_task u.form ≡ is_some (task_at p k)
has-task p k u at = sym (ap (λ o. is_some (option_and_then task_in o)) at ∙ task-is u)

pub ruleset task_steps = (has-task)

-- an item set anew is changed
pub change-is-set : {A : Type 0} (xs : List A) (i : ℕ) (x : A) (f : A → A) → i < length xs → x ≡ get_or xs i x → set xs i (f x) ≡ change i f xs
change-is-set [] i x f h is = absurd (omega (arith, h))
change-is-set (y ∷ xs) zero x f h is = ap (λ t. f t ∷ xs) is
change-is-set (y ∷ xs) (suc i) x f h is = ap (λ ts. y ∷ ts) (change-is-set xs i x f (omega (arith, h)) is)

-- the same under a view
pub view-is-set : {A B : Type 0} (view : A → B) (xs : List A) (i : ℕ) (x x' : A) (f : B → B) → i < length xs → x ≡ get_or xs i x → view x' ≡ f (view x)
    → map view (set xs i x') ≡ change i f (map view xs)
view-is-set view [] i x x' f h is same = absurd (omega (arith, h))
view-is-set view (y ∷ xs) zero x x' f h is same = ap (λ t. t ∷ map view xs) (same ∙ ap (λ z. f (view z)) is)
view-is-set view (y ∷ xs) (suc i) x x' f h is same = ap (λ ts. view y ∷ ts) (view-is-set view xs i x x' f (omega (arith, h)) is same)

pub on-ok : {A E : Type 0} {P Q : Type 0} (r : Result A E) → (P → Q) → OnOk r P → OnOk r Q
on-ok (Ok x) f h = f h
on-ok (Err e) f h = h
