-- The protected objects of a machine are those of its units, whatever their data are.
use Rattle.std.specs.Prelude.{◌≡◌, ℕ, zero, suc, ◌<◌, List, [], ◌∷◌, length, map, set, Option, Some, None, option_map, slice_get, unwrap_or, refl}
use Rattle.std.proofs.Common.{sym, ◌∙◌, ap}
use Rattle.std.proofs.lemmas.Option.{same_Some, slice_get-map}
use Rattle.seq_tree.specs.declared.tree.Costs.{Costs}
use Rattle.ada_tree.specs.Trees.{unit_of}
use Rattle.ada_tree.specs.declared.program.Unit as units
use Rattle.machine.specs.Systems.{ProtectedUnit, System, objects_from}
use Rattle.machine.specs.Effects.{ceiling_of, object_unit}
use Rattle.machine.specs.States.{Object as InObject}
use Rattle.ceil_runtime.specs.Objects.{AreObjectsOf, first_object, lasting, shown, store_of}
use Rattle.ceil_runtime.specs.Processing.{system_by}
use Rattle.ceil_runtime.specs.declared.object.Object.{Object}
use Rattle.task_runtime.specs.declared.piece.Entry.{Entry}
use Rattle.task_runtime.specs.declared.task.Task.{Task}
use Rattle.task_runtime.proofs.Shared.TasksAtWork.{IsThere}

twice : {A B C : Type 0} (g : B → C) (f : A → B) (xs : List A) → map g (map f xs) ≡ map (λ x. g (f x)) xs
twice g f [] = refl
twice g f (x ∷ xs) = ap (λ ys. g (f x) ∷ ys) (twice g f xs)

-- at the opening
pub opened-objects : (us : List units.Unit) (os : List Object) → map shown os ≡ map first_object (objects_from 0 (map unit_of us))
    → AreObjectsOf us os
opened-objects us os same = sym (twice lasting shown os) ∙ ap (map lasting) same ∙ twice lasting first_object (objects_from 0 (map unit_of us))

same_set : {B : Type 0} (f : Object → B) (os : List Object) (k : ℕ) (o o' : Object) → slice_get os k ≡ Some o → f o' ≡ f o
    → map f (set os k o') ≡ map f os
same_set f [] k o o' here same = refl
same_set f (x ∷ xs) zero o o' here same = ap (λ y. y ∷ map f xs) (same ∙ ap f (sym (same_Some x o here)))
same_set f (x ∷ xs) (suc k) o o' here same = ap (λ ys. f x ∷ ys) (same_set f xs k o o' here same)

-- with other data of one of them
pub changed-objects : (us : List units.Unit) (os : List Object) (k : ℕ) (o o' : Object) → slice_get os k ≡ Some o
    → lasting (shown o') ≡ lasting (shown o) → AreObjectsOf us os → AreObjectsOf us (set os k o')
changed-objects us os k o o' here same known = same_set (λ x. lasting (shown x)) os k o o' here same ∙ known

-- their data are kept beside
pub changed-stores : (os : List Object) (k : ℕ) (o' : Object) → map store_of (set os k o') ≡ set (map store_of os) k (store_of o')
changed-stores [] k o' = refl
changed-stores (x ∷ xs) zero o' = refl
changed-stores (x ∷ xs) (suc k) o' = ap (λ ys. store_of x ∷ ys) (changed-stores xs k o')

-- the object at a place
pub record IsAt (os : List Object) (k : ℕ) (g : ProtectedUnit) : Type 0 where
  pub object : Object
  pub here : slice_get os k ≡ Some object
  pub shows : lasting (shown object) ≡ lasting (first_object g)

pub object-at : (us : List units.Unit) (os : List Object) → AreObjectsOf us os → (k : ℕ) (g : ProtectedUnit)
    → slice_get (objects_from 0 (map unit_of us)) k ≡ Some g → IsAt os k g
object-at us os known k g at = by_place (slice_get os k) refl
  where
    both : option_map (λ o. lasting (shown o)) (slice_get os k) ≡ Some (lasting (first_object g))
    both =
        sym (slice_get-map (λ o. lasting (shown o)) os k) ∙ ap (λ xs. slice_get xs k) known
        ∙ slice_get-map (λ h. lasting (first_object h)) (objects_from 0 (map unit_of us)) k ∙ ap (option_map (λ h. lasting (first_object h))) at

    by_place : (x : Option Object) → slice_get os k ≡ x → IsAt os k g
    by_place None is = absurd (cc (ap (option_map (λ o. lasting (shown o))) (sym is) ∙ both))
    by_place (Some o) is = record {
      object = o;
      here = is;
      shows = same_Some (lasting (shown o)) (lasting (first_object g)) (ap (option_map (λ h. lasting (shown h))) (sym is) ∙ both);
    }

-- the object that a task enters or leaves is there
pub record IsEntered (y : System) (e : Entry) : Type 0 where
  pub entered : ProtectedUnit
  pub at : slice_get y.objects e.object ≡ Some entered
  pub is_op : e.place < length entered.ops

pub entered-by : (y : System) (e : Entry) → IsThere y e.object e.place → IsEntered y e
entered-by y e of = record { entered = of.0; at = of.1; is_op = of.2 }

-- its unit and its ceiling
module _ (until : ℕ) (costs : Costs) (us : List units.Unit) (tasks : List Task) (k : ℕ) (g : ProtectedUnit)
    (at : slice_get (objects_from 0 (map unit_of us)) k ≡ Some g) (o : Object) (shows : lasting (shown o) ≡ lasting (first_object g)) where
  pub entered-unit : object_unit (system_by until costs us tasks) k ≡ o.unit
  entered-unit = ap (λ x. unwrap_or (option_map (λ h. h.unit) x) 0) at ∙ ap (λ x. x.unit) (sym shows)

  pub entered-ceiling : ceiling_of (system_by until costs us tasks) (InObject k) ≡ o.ceiling
  entered-ceiling = ap (λ x. unwrap_or (option_map (λ h. h.ceiling) x) 0) at ∙ ap (λ x. x.ceiling) (sym shows)
