-- A task that runs is one of the tasks of its program, with its priority.
use Rattle.std.specs.Prelude.{◌≡◌, ℕ, slice_get, Option, Some, option_map, refl}
use Rattle.std.proofs.Common.{ap}
use Rattle.seq_tree.specs.Names.{Name}
use Rattle.seq_tree.specs.Lists.{Each}
use Rattle.ada_tree.specs.Programs.{Form, Unit, Program}
use Rattle.arrivals_tree.specs.Arriving.{Arrivals}
use Rattle.ods_tree.specs.Flats as flats
use Rattle.ods_tree.specs.Walk.{only_if}
use Rattle.guarantee.specs.Software.{Task, task_by}
use Rattle.guarantee.specs.ResponseLaw.{Ranked, priority_of, ranked}
use Rattle.machine.specs.Systems.{TaskUnit, ReleasePattern, Periodic, Requested, system}
use Rattle.law_calls.proofs.Shared.Systems.{thread_form, thread-at}
use Rattle.law_lists.proofs.Shared.Lists.{each-made}

-- a task of the system among those of the program
pub record IsRanked (P : Ranked → Type 0) (t : TaskUnit) : Type 0 where
  pub ranked : Ranked
  pub priority : ranked.priority ≡ t.priority
  pub block : ranked.task.block ≡ t.block
  pub holds : P ranked

pub ranked-at : (p : Program) (a : Arrivals) (P : Ranked → Type 0) → Each P (ranked p) → (i : ℕ) (t : TaskUnit)
    → slice_get (system p a).threads i ≡ Some t → IsRanked P t
ranked-at p a P each i t at =
    let found = thread-at p a i t at in by found.0 found.1 (found.2).stands t.timing (found.2).form
  where
    made : Name → Form → Option Ranked
    made name form = option_map (λ z. record { task = z; priority = priority_of form }) (task_by name form)

    by : (k : ℕ) (u : Unit) → slice_get p.units k ≡ Some u → (x : ReleasePattern) → thread_form t x u.form → IsRanked P t
    by k u stands (Periodic offset period) form =
        let task : Task = record { name = u.name; timing = flats.Cyclic period offset; vars = t.vars; block = t.block } in
        let r : Ranked = record { task = task; priority = t.priority } in
        record {
          ranked = r;
          priority = refl;
          block = refl;
          holds = each-made P (λ v. option_map (λ z. record { task = z; priority = priority_of v.form }) (task_by v.name v.form)) p.units k u r
              each stands
              (ap (λ f. option_map (λ (z : Task). let q : Ranked = record { task = z; priority = priority_of f } in q) (task_by u.name f)) form);
        }
    by k u stands (Requested op ceiling separation jitter external) form =
        let task : Task = record { name = u.name; timing = flats.Sporadic op separation (only_if external jitter); vars = t.vars; block = t.block } in
        let r : Ranked = record { task = task; priority = t.priority } in
        record {
          ranked = r;
          priority = refl;
          block = refl;
          holds = each-made P (λ v. option_map (λ z. record { task = z; priority = priority_of v.form }) (task_by v.name v.form)) p.units k u r
              each stands
              (ap (λ f. option_map (λ (z : Task). let q : Ranked = record { task = z; priority = priority_of f } in q) (task_by u.name f)) form);
        }
