-- The tasks of a program are the threads that the processor runs, in the same order.
use Rattle.std.specs.Prelude.{◌≡◌, ℕ, true, false, Some, None, slice_get, option_map}
use Rattle.std.proofs.Common.{sym, ◌∙◌, ap, subst}
use Rattle.std.proofs.lemmas.Option.{slice_get-map}
use Rattle.seq_tree.specs.Lists.{Each}
use Rattle.seq_tree.specs.Operations.{Signature}
use Rattle.ada_tree.specs.Programs.{Program}
use Rattle.arrivals_tree.specs.Arriving.{Arrivals}
use Rattle.ods_tree.specs.Flats as flats
use Rattle.machine.specs.Systems.{TaskUnit, ReleasePattern, Periodic, Requested, system}
use Rattle.guarantee.specs.Software.{Task, program_software}
use Rattle.law_written.proofs.Shared.Claims.{task_at, timing_at}
use Rattle.law_written.proofs.Shared.Units.{tasks_of}
use Rattle.law_lists.proofs.Shared.Lists.{each-by, each-map}
use Rattle.law_lists.proofs.Shared.Places.{mapped-at}

module _ (p : Program) (r : Arrivals) where
  -- what holds of each thread's task holds of each task
  pub each_task : (P : Task → Type 0) → ((k : ℕ) (th : TaskUnit) → slice_get (system p r).threads k ≡ Some th → P (task_at th))
      → Each P (program_software p).tasks
  each_task P all = subst (Each P) (sym (tasks_of p r)) (each-map task_at P (system p r).threads
      (each-by (λ th. P (task_at th)) (system p r).threads all))

  -- the thread of a task, and the task of a thread
  pub thread_of : (k : ℕ) (t : Task) → slice_get (program_software p).tasks k ≡ Some t → (th : TaskUnit)
      × (slice_get (system p r).threads k ≡ Some th) × (task_at th ≡ t)
  thread_of k t e = mapped-at task_at (system p r).threads k t (ap (λ ts. slice_get ts k) (sym (tasks_of p r)) ∙ e)

  pub task_of : (k : ℕ) (th : TaskUnit) → slice_get (system p r).threads k ≡ Some th → slice_get (program_software p).tasks k ≡ Some (task_at th)
  task_of k th at = ap (λ ts. slice_get ts k) (tasks_of p r) ∙ slice_get-map task_at (system p r).threads k ∙ ap (option_map task_at) at

-- a task that takes no requests from outside, by its thread
pub record IsInternal (timing : ReleasePattern) (op : Signature) (separation : ℕ) : Type 0 where
  pub ceiling : ℕ
  pub jitter : ℕ
  pub is : timing ≡ Requested op ceiling separation jitter false

pub internal : (timing : ReleasePattern) (op : Signature) (separation : ℕ) → timing_at timing ≡ flats.Sporadic op separation None
    → IsInternal timing op separation
internal (Periodic offset period) op separation e = absurd (differ e)
  where
    differ : flats.Cyclic period offset ≡ flats.Sporadic op separation None → ⊥
    differ q = cc
internal (Requested op' ceiling s jitter true) op separation e = absurd (differ e)
  where
    differ : flats.Sporadic op' s (Some jitter) ≡ flats.Sporadic op separation None → ⊥
    differ q = cc
internal (Requested op' ceiling s jitter false) op separation e =
    let one : op' ≡ op = ops op' op s separation e in
    let two : s ≡ separation = numbers op' op s separation e in
    record {
      ceiling = ceiling;
      jitter = jitter;
      is = ap (λ z. Requested z ceiling s jitter false) one ∙ ap (λ z. Requested op ceiling z jitter false) two;
    }
  where
    ops : (a b : Signature) (m n : ℕ) → flats.Sporadic a m None ≡ flats.Sporadic b n None → a ≡ b
    ops a b m n q = cc

    numbers : (a b : Signature) (m n : ℕ) → flats.Sporadic a m None ≡ flats.Sporadic b n None → m ≡ n
    numbers a b m n q = cc
