-- The protected object that a task of a machine enters or leaves: it is there, and its data have the names that are written.
use Rattle.std.specs.Prelude.{◌≡◌, ℕ, ◌+◌, ◌<◌, ◌^◌, List, [], ◌∷◌, fold, get_or, length, map, take, Some, slice_get, refl}
use Rattle.std.proofs.Common.{sym, ◌∙◌, ap, subst, arith}
use Rattle.std.proofs.lemmas.List.{length-map, take_all}
use Rattle.std.proofs.lemmas.Option.{same_Some, slice_get_read, slice_get_within}
use Rattle.seq_tree.specs.Names.{Name}
use Rattle.seq_tree.specs.Variables.{Variables}
use Rattle.ada_tree.specs.Trees.{unit_of}
use Rattle.task_runtime.specs.Fitting.{names_of}
use Rattle.linker.specs.Programs.{datum_names}
use Rattle.machine.specs.Systems.{ProtectedUnit, objects_from}
use Rattle.ceil_runtime.specs.Acted.{IsDoing}
use Rattle.ceil_runtime.specs.Objects.{AreObjectsOf, first_object, lasting, shown}
use Rattle.ceil_runtime.specs.Processing.{AreAlike}
use Rattle.task_runtime.specs.Stacked.{vars_of, with_var}
use Rattle.ceil_runtime.specs.Shown.{snapshot_of}
use Rattle.ceil_runtime.specs.Stepping.{HasObject, HasOp}
use Rattle.task_runtime.specs.Written.{system_of}
use Rattle.ceil_runtime.specs.declared.object.Object.{Object}
use Rattle.ceil_runtime.specs.declared.processor.Machine.{Machine}
use Rattle.task_runtime.specs.declared.piece.Deed.{Deed}
use Rattle.task_runtime.specs.declared.piece.Entry.{Entry}
use Rattle.task_runtime.specs.declared.piece.Piece.{Piece}
use Rattle.task_runtime.specs.declared.task.Task.{Task}
use Rattle.task_runtime.specs.declared.piece.Deed.TheVariants.{Enter, Leave}
use Rattle.task_runtime.proofs.Shared.TasksAtWork.{IsThere, entry-there, exit-there}
use Rattle.task_runtime.specs.declared.values.Var.{Var}
use Rattle.ada_tree.specs.declared.program.Unit as units
use Rattle.ceil_runtime.proofs.Phases.{doing-here}
use Rattle.ceil_runtime.proofs.ObjectsKept.{IsAt, IsEntered, entered-by, object-at}

-- the object of an entry
pub record IsFound (us : List units.Unit) (os : List Object) (t : Task) (e : Entry) : Type 0 where
  pub entered : IsEntered (system_of t.progress.stack.thread) e
  pub at : slice_get (objects_from 0 (map unit_of us)) e.object ≡ Some entered.entered
  pub is : IsAt os e.object entered.entered

pub found-object : (us : List units.Unit) (tasks : List Task) (os : List Object) → AreAlike us tasks → AreObjectsOf us os → (i : ℕ) (t : Task)
    → slice_get tasks i ≡ Some t → (e : Entry) → IsThere (system_of t.progress.stack.thread) e.object e.place → IsFound us os t e
found-object us tasks os alike known i t here e of =
    let en = entered-by (system_of t.progress.stack.thread) e of in
    let at : slice_get (objects_from 0 (map unit_of us)) e.object ≡ Some en.entered
    = ap (λ y. slice_get y.objects e.object) (sym (alike i t here)) ∙ en.at in
    record { entered = en; at = at; is = object-at us os known e.object en.entered at }

-- a task of a machine at its place, and the object of its entry at its own
pub record IsMet (m : Machine) (i : ℕ) (t : Task) (e : Entry) (o : Object) : Type 0 where
  pub here : slice_get m.tasks.items i ≡ Some t
  pub there : slice_get m.objects.items e.object ≡ Some o
  pub found : IsFound m.units.now m.objects.items t e

module _ (m : Machine) (i : ℕ) (t : Task) (e : Entry) (o : Object) (f : IsMet m i t e o) where
  same_object : f.found.is.object ≡ o
  same_object = same_Some f.found.is.object o (sym f.found.is.here ∙ f.there)

  pub found-shows : lasting (shown o) ≡ lasting (first_object f.found.entered.entered)
  found-shows = ap (λ x. lasting (shown x)) (sym same_object) ∙ f.found.is.shows

  pub found-op : HasOp m.tasks.items o.unit e.place
  found-op = record {
    place = i;
    task = t;
    here = f.here;
    object = e.object;
    entered = f.found.entered.entered;
    at = f.found.entered.at;
    is_unit = ap (λ x. x.unit) found-shows;
    is_op = f.found.entered.is_op;
  }

  pub found-unit : HasObject m.tasks.items o.unit
  found-unit = record {
    place = i;
    task = t;
    here = f.here;
    object = e.object;
    entered = f.found.entered.entered;
    at = f.found.entered.at;
    is_unit = ap (λ x. x.unit) found-shows;
  }

  pub place-few : e.place < 2 ^ 32
  place-few = let ops = ap (λ x. x.ops) found-shows in omega (arith, f.found.entered.is_op, ops, o.few)

  -- what is written of it, as calls find it
  module _ (g : ProtectedUnit) (at : slice_get (system_of t.progress.stack.thread).objects e.object ≡ Some g) where
    same_unit : f.found.entered.entered ≡ g
    same_unit = same_Some f.found.entered.entered g (sym f.found.entered.at ∙ at)

    pub same-names : map (λ d. d.name) o.written.now ≡ datum_names g.vars
    same-names = ap (λ x. map (λ d. d.name) x.vars) found-shows ∙ ap (λ h. datum_names h.vars) same_unit

    pub same-count : length o.written.now ≡ length g.vars
    same-count = ap (λ x. length x.vars) found-shows ∙ ap (λ h. length h.vars) same_unit

-- the object that a task of a machine enters or leaves
module _ (m : Machine) (i : ℕ) (p : Piece) (d : Deed) (w : (t : Task) × IsDoing (snapshot_of m) i p d t) (e : Entry)
    (of : IsThere (system_of w.0.progress.stack.thread) e.object e.place) where
  met_found : (t : Task) → slice_get m.tasks.items i ≡ Some t → IsFound m.units.now m.objects.items t e
  met_found t here =
      found-object m.units.now m.tasks.items m.objects.items w.1.acting.whole.sound.calls m.known i t here e
      (subst (λ (u : Task). IsThere (system_of u.progress.stack.thread) e.object e.place) (same_Some w.0 t (sym w.1.here ∙ here)) of)

  pub met-within : e.object < length m.objects.items
  met-within = let f = met_found w.0 w.1.here in slice_get_within m.objects.items e.object f.is.object f.is.here

  pub met : (t : Task) → t ≡ get_or m.tasks.items i t → (o : Object) → o ≡ get_or m.objects.items e.object o → IsMet m i t e o
  met t read o read_object =
      let here = (doing-here (snapshot_of m) i p d w t read).here in
      record {
        here = here;
        there = slice_get_read m.objects.items (length m.objects.items) e.object o refl met-within read_object;
        found = met_found t here;
      }

-- the object of an entry and of an exit is there, with the operation
pub enters-there : (m : Machine) (i : ℕ) (p : Piece) (e : Entry) (t : Task) → IsDoing (snapshot_of m) i p (Enter e) t
    → IsThere (system_of t.progress.stack.thread) e.object e.place
enters-there m i p e t h = entry-there m.code t (h.acting.whole.at_work i t h.here) p h.piece e.object e.place h.deed

pub leaves-there : (m : Machine) (i : ℕ) (p : Piece) (e : Entry) (t : Task) → IsDoing (snapshot_of m) i p (Leave e) t
    → IsThere (system_of t.progress.stack.thread) e.object e.place
leaves-there m i p e t h = exit-there m.code t (h.acting.whole.at_work i t h.here) (h.piece ∙ ap Some h.deed.0) e.object e.place h.deed.1

-- variables are as many as their names
pub length-vars : (rest : Variables) (vs : List Var) → length (fold with_var rest vs) ≡ length vs + length rest
length-vars rest [] = omega arith
length-vars rest (v ∷ vs) = let more = length-vars (with_var rest v) vs in omega (arith, more)

pub all-names : (vs : List Var) (names : List Name) → names_of (vars_of vs) ≡ names → names_of (vars_of vs) ≡ take (length vs) names
all-names vs names same =
    let count : length (vars_of vs) ≡ length vs + 0 = length-vars [] vs in
    let many = ap length (sym same) in
    same ∙ sym (take_all (length vs) names (omega (arith, count, many, length-map (vars_of vs) (λ v. v.0))))
