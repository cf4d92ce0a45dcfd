-- A processor at an instant, by what is read off its machine: what runs, where its run stands, and what always holds there.
use Rattle.std.specs.Prelude.{ℕ, Bool, List, Option}
use Rattle.seq_tree.specs.Variables.{Variables}
use Rattle.seq_tree.specs.declared.tree.Costs.{Costs}
use Rattle.ada_tree.specs.declared.program.Unit as trees
use Rattle.arrivals_tree.specs.declared.arrivals.Arrival.{Arrival}
use Rattle.link_queue.specs.Queues.{Queues}
use Rattle.machine.specs.Systems.{System}
use Rattle.machine.specs.States.{State}
use Rattle.machine.specs.Meanings.{Running}
use Rattle.linker.specs.declared.program.LinkedUnits.{LinkedUnits}
use Rattle.task_runtime.specs.Sounds.{IsAtWork}
use Rattle.task_runtime.specs.declared.task.Task.{Task}
use Rattle.ceil_runtime.specs.Processing.{AllTasks, IsSound, state_by, system_by}
use Rattle.ceil_runtime.specs.Reaching.{IsReached}
use Rattle.ceil_runtime.specs.declared.processor.Phase.{Phase}

-- a processor, without how its machine keeps it
pub record Snapshot : Type 0 where
  pub until : ℕ
  pub costs : Costs
  pub units : List trees.Unit
  pub code : LinkedUnits
  pub stores : List Variables
  pub arrivals : List Arrival
  pub time : ℕ
  pub phase : Phase
  pub ran : Option ℕ
  pub stopped : Bool
  pub tasks : List Task
  pub queues : Queues

-- what runs
abbrev pub system_at : Snapshot → System
system_at s = system_by s.until s.costs s.units s.tasks

-- where it stands
abbrev pub state_at : Snapshot → State
state_at s = state_by s.stores s.arrivals s.time s.phase s.ran s.stopped s.tasks s.queues.ready

abbrev pub running_at : Snapshot → Running
running_at s = record { system = system_at s; state = state_at s }

-- each task is at work over its code
abbrev pub AreAtWork : LinkedUnits → List Task → Type 0
AreAtWork c tasks = AllTasks (λ t. IsAtWork c t.progress) tasks

-- its lists are those of its tasks, its tasks are at work over its code, and it stands where a run comes to
pub record IsWholeAt (s : Snapshot) : Type 0 where
  pub sound : IsSound s.until s.time s.phase s.ran s.units s.tasks s.queues
  pub at_work : AreAtWork s.code s.tasks
  pub reached : IsReached (system_at s) (state_at s)
