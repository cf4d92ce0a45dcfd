-- A task of which no piece has started has nothing left, and one of which a piece has started is ready.
use Rattle.std.specs.Prelude.{◌≡◌, ℕ, true, List, Option, Some, None, slice_get, refl}
use Rattle.std.proofs.Common.{sym, ◌∙◌, ap, subst, inl, inr}
use Rattle.std.proofs.lemmas.Option.{same_Some}
use Rattle.ceil_runtime.specs.Processing.{IsDue}
use Rattle.task_runtime.specs.Readies.{is_ready}
use Rattle.task_runtime.specs.declared.piece.Piece as piece
use Rattle.task_runtime.specs.declared.task.Task.{Task}
use Rattle.linker.specs.declared.program.LinkedUnits.{LinkedUnits}
use Rattle.ceil_runtime.specs.Snapshots.{AreAtWork}
use Rattle.task_runtime.proofs.Shared.TasksAtWork.{piece-ready}

-- what is due of the task at a place, from the task: by lemmas, since a search takes seconds in the machine's context
module _ (c : LinkedUnits) (tasks : List Task) (at_work : AreAtWork c tasks) (i : ℕ) (t : Task) (here : slice_get tasks i ≡ Some t) where
  same_task : (u : Task) → slice_get tasks i ≡ Some u → t ≡ u
  same_task u there = same_Some t u (sym here ∙ there)

  pub due-then : t.left ≡ 0 → IsDue tasks i t.progress.piece
  due-then used = by_piece t.progress.piece refl
    where
      by_piece : (o : Option piece.Piece) → t.progress.piece ≡ o → IsDue tasks i o
      by_piece None is = λ u there. inl (ap (λ (v : Task). v.progress.piece) (sym (same_task u there)) ∙ is)
      by_piece (Some p) is =
          λ u there. subst (λ (v : Task). (v.progress.piece ≡ Some p) × (is_ready v.readiness ≡ true)
          × (v.left ≡ 0)) (same_task u there) (is, piece-ready c t (at_work i t here) p is, used)

  pub due-else : (t.left ≡ 0 → ⊥) → IsDue tasks i None
  due-else some = λ u there. inr (λ none. some (ap (λ (v : Task). v.left) (same_task u there) ∙ none))
