-- The unit of each task and of each object of a system: at its place, by its name, and told apart by it.
use Rattle.std.specs.Prelude.{◌≡◌, ◌+◌, ℕ, zero, suc, true, false, List, [], ◌∷◌, slice_get, option_map, unwrap_or, Some, refl}
use Rattle.std.proofs.Common.{sym, ◌∙◌, ap, arith}
use Rattle.std.proofs.lemmas.Bool.{true≢false}
use Rattle.std.proofs.lemmas.Option.{none-some, same_Some}
use Rattle.seq_tree.specs.Names.{Name, same_name}
use Rattle.ada_tree.specs.Programs.{Form, Unit, Program, Passive, Shared, Cyclic, Sporadic}
use Rattle.ada_tree.specs.Bodies.{heads}
use Rattle.ada_tree.specs.Rules.{MeetsRules}
use Rattle.arrivals_tree.specs.Arriving.{Arrivals, durations}
use Rattle.trace_tree.specs.Lines.{unit_name, unit_ops}
use Rattle.machine.specs.Systems.{system, TaskUnit, ProtectedUnit, thread_by}
use Rattle.law_lists.proofs.Shared.Facts.{same-is, is-same}
use Rattle.law_lists.proofs.Shared.Lists.{made-at}
use Rattle.law_lists.proofs.Shared.Places.{all-at}
use Rattle.law_calls.proofs.Shared.UnitNames.{AreApart, name-at}
use Rattle.law_calls.proofs.Shared.Apart.{units_apart}
use Rattle.law_calls.proofs.Shared.Systems.{thread-is, object-at, thread-at, objects-differ, threads-differ}

pub unit_ops-at : (p : Program) (i : ℕ) (u : Unit) → slice_get p.units i ≡ Some u → unit_ops p i ≡ heads u.form
unfolding unit_ops
unit_ops-at p i u at = ap (λ o. unwrap_or (option_map (λ v. heads v.form) o) []) at

-- units of one name stand at one place
pub one-place : (us : List Unit) (i j : ℕ) (u v : Unit) → AreApart us → slice_get us i ≡ Some u → slice_get us j ≡ Some v
    → same_name u.name v.name ≡ true → i ≡ j
one-place [] i j u v far at there same = absurd (none-some u at)
one-place (w ∷ us) zero zero u v far at there same = refl
one-place (w ∷ us) zero (suc j) u v far at there same =
    absurd (true≢false (sym same ∙ ap (λ z. same_name z.name v.name) (sym (same_Some w u at)) ∙ all-at (λ z. same_name w.name z.name
    ≡ false) us j v far.0 there))
one-place (w ∷ us) (suc i) zero u v far at there same =
    let turned : same_name w.name u.name ≡ true = is-same w.name u.name (ap (λ z. z.name) (same_Some w v there) ∙ sym (same-is u.name v.name same)) in
    absurd (true≢false (sym turned ∙ all-at (λ z. same_name w.name z.name ≡ false) us i u far.0 at))
one-place (w ∷ us) (suc i) (suc j) u v far at there same = ap suc (one-place us i j u v far.1 at there same)

thread-durations : (ds : List ℕ) (k : ℕ) (name : Name) (form : Form) (t : TaskUnit) → thread_by ds k name form ≡ Some t → t.durations ≡ ds
thread-durations ds k name (Passive ops) t e = absurd (none-some t e)
thread-durations ds k name (Shared ceiling vars ops) t e = absurd (none-some t e)
thread-durations ds k name (Cyclic priority offset period vars block) t e = sym (ap (λ x. x.durations) (same_Some _ t e))
thread-durations ds k name (Sporadic priority ceiling op separation jitter external vars block) t e = sym (ap (λ x. x.durations) (same_Some _ t e))

module _ (p : Program) (a : Arrivals) where
  -- the unit that a task is made of
  pub record IsMadeOf (t : TaskUnit) : Type 0 where
    pub unit : Unit
    pub here : slice_get p.units t.unit ≡ Some unit
    pub makes : thread_by (durations a t.unit) t.unit unit.name unit.form ≡ Some t

  pub made-of : (k : ℕ) (t : TaskUnit) → slice_get (system p a).threads k ≡ Some t → IsMadeOf t
  made-of k t at =
      let found = made-at (λ (u : ℕ × Unit). thread_by (durations a u.0) u.0 u.1.name u.1.form) 0 p.units k t at in
      let unit : t.unit ≡ 0 + found.0 = (thread-is (durations a (0 + found.0)) (0 + found.0) found.1.name found.1.form t found.3).1 in
      record {
        unit = found.1;
        here = ap (slice_get p.units) (unit ∙ (let none : 0 + found.0 ≡ found.0 = omega arith in none)) ∙ found.2;
        makes = ap (λ n. thread_by (durations a n) n found.1.name found.1.form) unit ∙ found.3;
      }

  pub durations-of : (k : ℕ) (t : TaskUnit) → slice_get (system p a).threads k ≡ Some t → t.durations ≡ durations a t.unit
  durations-of k t at = let m : IsMadeOf t = made-of k t at in thread-durations (durations a t.unit) t.unit m.unit.name m.unit.form t m.makes

  -- tasks and objects by the names of their units
  pub thread_name : (k : ℕ) (t : TaskUnit) → slice_get (system p a).threads k ≡ Some t → unit_name p t.unit ≡ t.name
  thread_name k t at = let found = thread-at p a k t at
      in ap (unit_name p) (found.2).unit ∙ name-at p found.0 found.1 (found.2).stands ∙ (found.2).name

  pub object_name : (k : ℕ) (g : ProtectedUnit) → slice_get (system p a).objects k ≡ Some g → unit_name p g.unit ≡ g.name
  object_name k g at = let found = object-at p a k g at
      in ap (unit_name p) (found.2).unit ∙ name-at p found.0 found.1 (found.2).stands ∙ (found.2).name

  pub threads_apart : MeetsRules p → (j k : ℕ) (t u : TaskUnit) → slice_get (system p a).threads j ≡ Some t
      → slice_get (system p a).threads k ≡ Some u → same_name t.name u.name ≡ true → j ≡ k
  threads_apart meets j k t u at there same =
      let one = thread-at p a j t at in
      let two = thread-at p a k u there in
      let names : same_name one.1.name two.1.name ≡ true
      = ap (λ n. same_name n two.1.name) (one.2).name ∙ ap (same_name t.name) (two.2).name ∙ same in
      threads-differ p a j k t u at there ((one.2).unit ∙ one-place p.units one.0 two.0 one.1 two.1 (units_apart p meets) (one.2).stands
      (two.2).stands names ∙ sym (two.2).unit)

  pub objects_apart : MeetsRules p → (j k : ℕ) (g h : ProtectedUnit) → slice_get (system p a).objects j ≡ Some g
      → slice_get (system p a).objects k ≡ Some h → same_name g.name h.name ≡ true → j ≡ k
  objects_apart meets j k g h at there same =
      let one = object-at p a j g at in
      let two = object-at p a k h there in
      let names : same_name one.1.name two.1.name ≡ true
      = ap (λ n. same_name n two.1.name) (one.2).name ∙ ap (same_name g.name) (two.2).name ∙ same in
      objects-differ p a j k g h at there ((one.2).unit ∙ one-place p.units one.0 two.0 one.1 two.1 (units_apart p meets) (one.2).stands
      (two.2).stands names ∙ sym (two.2).unit)
