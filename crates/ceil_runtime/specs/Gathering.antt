-- The tasks of a program's units, gathered one unit after another.
-- A task knows the place of its unit, from 0.
use Rattle.std.specs.Prelude.{◌≡◌, ℕ, suc, ◌≤◌, ◌++◌, List, map, length, option_to_list, Some, slice_get}
use Rattle.arrivals_tree.specs.Arriving.{durations}
use Rattle.arrivals_tree.specs.declared.arrivals.WorkList.{WorkList}
use Rattle.ada_tree.specs.Trees.{unit_of}
use Rattle.ada_tree.specs.declared.program.Unit as units
use Rattle.machine.specs.Systems.{thread_by}
use Rattle.task_runtime.specs.Libraries.{handed}
use Rattle.task_runtime.specs.Written.{thread_of, written_as}
use Rattle.task_runtime.specs.declared.thread.Thread.{Thread}

-- a fact of each task
abbrev pub AllThreads : (Thread → Type 0) → List Thread → Type 0
AllThreads P threads = (i : ℕ) (t : Thread) → slice_get threads i ≡ Some t → P t

-- a task of these units, which stands where it says, and what is handed in
pub record IsThreadOf (lists : List WorkList) (us : List units.Unit) (t : Thread) : Type 0 where
  pub work : t.work.now ≡ lists
  pub units : t.units.now ≡ us
  pub at : slice_get (map unit_of us) t.unit ≡ Some (written_as t)

-- tasks to which the one of this unit was added, where it is one
pub record Adds (work : List WorkList) (us : List units.Unit) (place : ℕ) (u : units.Unit) (before now : List Thread) : Type 0 where
  pub threads : map thread_of now
      ≡ map thread_of before ++ option_to_list (thread_by (durations (handed work) place) place (unit_of u).name (unit_of u).form)
  pub each : slice_get (map unit_of us) place ≡ Some (unit_of u) → AllThreads (IsThreadOf work us) before → AllThreads (IsThreadOf work us) now
  pub few : length now ≤ suc (length before)
