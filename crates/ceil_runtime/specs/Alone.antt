-- A task that goes on alone: pieces that are nothing to others, and ticks at which nothing else is due.
-- The steps of the machine that are left out on the way tell nothing and change nothing but the time.
use Rattle.std.specs.Prelude.{◌≡◌, ℕ, ◌<◌, ◌≤◌, List, [], map, Some, slice_get}
use Rattle.link_queue.specs.Queues.{Each}
use Rattle.law_dispatching.specs.Jumping.{NoArrival}
use Rattle.ceil_runtime.specs.Acted.{IsActing}
use Rattle.ceil_runtime.specs.Left.{left}
use Rattle.ceil_runtime.specs.Processing.{Follows, IsBelow}
use Rattle.ceil_runtime.specs.Snapshots.{Snapshot, running_at}
use Rattle.ceil_runtime.specs.Stepping.{steps_left}
use Rattle.task_runtime.specs.declared.task.Task.{Task}
use Rattle.task_runtime.specs.declared.thread.Thread.{Thread}

-- up to this time nothing but the task at this place is due: no release, no arrival and no horizon comes before it
pub record IsAlone (s : Snapshot) (i limit : ℕ) : Type 0 where
  pub later : s.time ≤ limit
  pub horizon : limit ≤ s.until
  pub wake : Each (λ e. limit ≤ e.1) s.queues.asleep
  pub arrival : (n : ℕ) → s.time ≤ n → n < limit → NoArrival n s.arrivals
  -- where some time is left, the task would be dispatched again
  pub first : s.time < limit → (t : Task) → slice_get s.tasks i ≡ Some t → IsBelow t.active s.queues.ready

-- the tasks as they are written
abbrev pub threads_at : List Task → List Thread
threads_at tasks = map (λ t. t.progress.stack.thread) tasks

-- steps that tell nothing, of a task that has effects and goes on alone
pub record GoesAlone (s s' : Snapshot) (i limit : ℕ) : Type 0 where
  pub acting : IsActing s' i
  pub alone : IsAlone s' i limit
  pub follows : Follows (running_at s) [] (running_at s')
  pub threads : threads_at s'.tasks ≡ threads_at s.tasks
  pub nears : steps_left s' ≤ steps_left s
  pub falls : left (running_at s') ≤ left (running_at s)
