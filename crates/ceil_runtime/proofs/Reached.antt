-- What a piece reaches, before its effect and in it.
use Rattle.std.specs.Prelude.{◌≡◌, ℕ, ◌<◌, List, length, map, Option, Some, None, option_map, slice_get, unwrap_or, refl}
use Rattle.std.proofs.Common.{ap, ◌∙◌, sym, arith}
use Rattle.std.proofs.lemmas.List.{length-map}
use Rattle.std.proofs.lemmas.Option.{slice_get-map}
use Rattle.seq_tree.specs.declared.tree.Costs.{Costs}
use Rattle.ada_tree.specs.declared.program.Unit as units
use Rattle.machine.specs.Effects.{ceiling_by, ceiling_of, task_unit}
use Rattle.machine.specs.States.{Control}
use Rattle.ceil_runtime.specs.Processing.{AreAlike, system_by}
use Rattle.ceil_runtime.specs.Stepping.{HasUnit}
use Rattle.task_runtime.specs.Written.{system_of, thread_of, timing_of}
use Rattle.task_runtime.specs.declared.task.Task.{Task}

-- the unit and the ceiling of a task that is requested
module _ (until : ℕ) (costs : Costs) (us : List units.Unit) (tasks : List Task) (k : ℕ) (u : Task) (here : slice_get tasks k ≡ Some u) where
  thread_here : slice_get (map (λ t. thread_of t.progress.stack.thread) tasks) k ≡ Some (thread_of u.progress.stack.thread)
  thread_here = slice_get-map (λ t. thread_of t.progress.stack.thread) tasks k ∙ ap (option_map (λ t. thread_of t.progress.stack.thread)) here

  pub asked-unit : task_unit (system_by until costs us tasks) k ≡ u.progress.stack.thread.unit
  asked-unit = ap (λ o. unwrap_or (option_map (λ t. t.unit) o) 0) thread_here

  pub asked-ceiling : ceiling_of (system_by until costs us tasks) (Control k) ≡ ceiling_by (timing_of u.progress.stack.thread.timing)
  asked-ceiling = ap (λ o. unwrap_or (option_map (λ t. ceiling_by t.timing) o) 0) thread_here

-- a task that a piece concerns is one of the machine's
pub among-tasks : (us : List units.Unit) (tasks : List Task) → AreAlike us tasks → (i : ℕ) (t : Task) → slice_get tasks i ≡ Some t → (k : ℕ)
    → k < length (system_of t.progress.stack.thread).threads → k < length tasks
among-tasks us tasks alike i t at k h =
    let same = ap (λ y. length y.threads) (alike i t at) in
    omega (arith, h, same, length-map tasks (λ u. thread_of u.progress.stack.thread))

-- a unit of a task is one of a task before, where the tasks are written the same
pub unit-before : (tasks tasks' : List Task) → map (λ u. thread_of u.progress.stack.thread) tasks'
    ≡ map (λ u. thread_of u.progress.stack.thread) tasks → (k : ℕ) (u : Task) → slice_get tasks' k ≡ Some u
    → HasUnit tasks u.progress.stack.thread.unit
unit-before tasks tasks' same k u at = by_place (slice_get tasks k) refl
  where
    both : option_map (λ v. thread_of v.progress.stack.thread) (slice_get tasks k) ≡ Some (thread_of u.progress.stack.thread)
    both =
        sym (slice_get-map (λ v. thread_of v.progress.stack.thread) tasks k) ∙ ap (λ xs. slice_get xs k) (sym same)
        ∙ slice_get-map (λ v. thread_of v.progress.stack.thread) tasks' k ∙ ap (option_map (λ v. thread_of v.progress.stack.thread)) at

    by_place : (o : Option Task) → slice_get tasks k ≡ o → HasUnit tasks u.progress.stack.thread.unit
    by_place None is = absurd (cc (ap (option_map (λ v. thread_of v.progress.stack.thread)) (sym is) ∙ both))
    by_place (Some w) is = record {
      place = k;
      task = w;
      here = is;
      is_unit = ap (λ h. h.unit) (sym (one (ap (option_map (λ v. thread_of v.progress.stack.thread)) (sym is) ∙ both)));
    }
      where
        one : Some (thread_of w.progress.stack.thread) ≡ Some (thread_of u.progress.stack.thread)
            → thread_of w.progress.stack.thread ≡ thread_of u.progress.stack.thread
        one e = cc
