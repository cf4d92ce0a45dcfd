-- A processor whose task has effects: before its piece, and after it, where what is still to be done for others is not done yet. Then the other
-- tasks, the lists and the phase are as they were before the piece.
use Rattle.std.specs.Prelude.{◌≡◌, ℕ, true, false, List, set, slice_get, Some}
use Rattle.task_runtime.specs.Alongs.{HasDone}
use Rattle.task_runtime.specs.Doings.{IsDeed}
use Rattle.task_runtime.specs.Readies.{is_ready}
use Rattle.task_runtime.specs.Tasks.{ActsAs, task_of}
use Rattle.task_runtime.specs.Written.{system_of}
use Rattle.task_runtime.specs.declared.effects.Act.{Act}
use Rattle.task_runtime.specs.declared.piece.Deed.{Deed}
use Rattle.task_runtime.specs.declared.piece.Piece.{Piece}
use Rattle.task_runtime.specs.declared.task.Task.{Task}
use Rattle.ceil_runtime.specs.Snapshots.{IsWholeAt, Snapshot}
use Rattle.ceil_runtime.specs.declared.processor.Phase.TheVariants.{Effects}

-- the task at this place has effects, and the run goes on
pub record IsActing (s : Snapshot) (i : ℕ) : Type 0 where
  pub whole : IsWholeAt s
  pub phase : s.phase ≡ Effects (Some i)
  pub goes_on : s.stopped ≡ false

-- this is the task, and the ticks of this piece are used, which reaches this
pub record IsDoing (s : Snapshot) (i : ℕ) (p : Piece) (d : Deed) (t : Task) : Type 0 where
  pub acting : IsActing s i
  pub here : slice_get s.tasks i ≡ Some t
  pub piece : t.progress.piece ≡ Some p
  pub ready : is_ready t.readiness ≡ true
  pub due : t.left ≡ 0
  pub deed : IsDeed s.code t.progress.stack p d
  pub reaches : ActsAs (system_of t.progress.stack.thread) (task_of t) d

-- a processor with these tasks
abbrev pub with_tasks : List Task → Snapshot → Snapshot
with_tasks ts s = record s { tasks = ts }

-- the task at this place was one of these tasks, and has done its piece since; nothing else has changed
pub record HasActed (ts : List Task) (s : Snapshot) (i : ℕ) (act : Act) (t t' : Task) : Type 0 where
  pub acting : IsActing (with_tasks ts s) i
  pub here : slice_get ts i ≡ Some t
  pub due : t.left ≡ 0
  pub done : HasDone s.code s.costs act t t'
  pub tasks : s.tasks ≡ set ts i t'
