-- A protected object that a task of a machine enters has all its data, as they are written.
use Rattle.std.specs.Prelude.{◌≡◌, ◌≤◌, ℕ, false, get_or, map, nat_lt, option_map, refl}
use Rattle.std.proofs.Common.{sym, ◌∙◌, ap, arith}
use Rattle.std.proofs.lemmas.Option.{same_Some, slice_get-map}
use Rattle.machine.specs.Effects.{ceiling_of}
use Rattle.machine.specs.States.{Object as InObject}
use Rattle.law_ceilings.specs.Homes.{IsHome, IsOpenTo}
use Rattle.task_runtime.specs.Fitting.{names_of}
use Rattle.task_runtime.specs.Tasks.{task_of}
use Rattle.task_runtime.specs.declared.piece.Deed.TheVariants.{Enter}
use Rattle.task_runtime.specs.declared.piece.Entry.{Entry}
use Rattle.task_runtime.specs.declared.piece.Piece.{Piece}
use Rattle.task_runtime.specs.declared.task.Task.{Task}
use Rattle.ceil_runtime.specs.Acted.{IsDoing}
use Rattle.ceil_runtime.specs.Objects.{store_of}
use Rattle.ceil_runtime.specs.Shown.{snapshot_of}
use Rattle.ceil_runtime.specs.Snapshots.{state_at, system_at}
use Rattle.ceil_runtime.specs.declared.object.Object.{Object}
use Rattle.ceil_runtime.specs.declared.processor.Machine.{Machine}
use Rattle.ceil_runtime.proofs.EntryFacts.{IsMet, enters-there, found-shows, met}
use Rattle.ceil_runtime.proofs.EntrySteps.{doing-act, doing-first}
use Rattle.ceil_runtime.proofs.ObjectsKept.{entered-ceiling}
use Rattle.ceil_runtime.proofs.Phases.{acting, doing-here, whole-acting}
use Rattle.ceil_runtime.proofs.Reaching.{reached-home}

module _ (m : Machine) (i : ℕ) (p : Piece) (e : Entry) (w : (t : Task) × IsDoing (snapshot_of m) i p (Enter e) t) (t : Task)
    (read : t ≡ get_or m.tasks.items i t) (o : Object) (read_object : o ≡ get_or m.objects.items e.object o)
    (low : nat_lt o.ceiling t.active ≡ false) where
  doing : IsDoing (snapshot_of m) i p (Enter e) t
  doing = doing-here (snapshot_of m) i p (Enter e) w t read

  found : IsMet m i t e o
  found = met m i p (Enter e) w e (enters-there m i p e w.0 w.1) t read o read_object

  below : t.active ≤ ceiling_of (system_at (snapshot_of m)) (InObject e.object)
  below =
      let is = entered-ceiling m.until m.costs m.units.now m.tasks.items e.object found.found.entered.entered found.found.at o
      (found-shows m i t e o found) in
      let less : t.active ≤ o.ceiling = grind arith in
      omega (arith, is, less)

  opens : IsOpenTo (system_at (snapshot_of m)) (state_at (acting (snapshot_of m) i)) e.object
  opens =
      let s = snapshot_of m in
      let f = doing-first s i p (Enter e) t doing in
      let act = doing-act s i p (Enter e) t doing in
      (reached-home (system_at s) (state_at (acting s i)) (whole-acting s i doing.acting).reached).1 i e.object e.place act.0 (task_of t)
      f.piece f.rest refl refl
      (slice_get-map task_of m.tasks.items i ∙ ap (option_map task_of) doing.here) f.first act.1 below

  pub entered-names : names_of (store_of o) ≡ map (λ d. d.name) o.written.now
  entered-names =
      let home : IsHome (map store_of m.objects.items) e.object opens.1 = opens.3 in
      let store = same_Some (store_of o) home.0
      (sym (ap (option_map store_of) found.there) ∙ sym (slice_get-map store_of m.objects.items e.object) ∙ home.1) in
      let object = same_Some found.found.entered.entered opens.1 (sym found.found.at ∙ opens.2) in
      ap names_of store ∙ home.2 ∙ ap (λ g. map (λ d. d.name) g.vars) (sym object)
      ∙ ap (λ x. map (λ d. d.name) x.vars) (sym (found-shows m i t e o found))
