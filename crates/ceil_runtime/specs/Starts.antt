-- The opening of a processor: which tasks it can be opened for, and how far it has come.
use Rattle.std.specs.Prelude.{◌≡◌, ℕ, ◌<◌, ◌^◌, false, List, [], map}
use Rattle.arrivals_tree.specs.Acceptance.{has_nothing}
use Rattle.arrivals_tree.specs.declared.arrivals.Arrival.{Arrival}
use Rattle.seq_tree.specs.declared.tree.Costs.{Costs}
use Rattle.ada_tree.specs.Trees.{unit_of}
use Rattle.ada_tree.specs.declared.program.Unit as units
use Rattle.link_queue.specs.Queues.{Queues, in_time}
use Rattle.machine.specs.Systems.{System, libraries_from, objects_from}
use Rattle.machine.specs.Meanings.{Running}
use Rattle.machine.specs.States.{first_task, first_time, opening}
use Rattle.law_dispatching.specs.Queueing.{AreSleeping}
use Rattle.ceil_runtime.specs.Processing.{AllTasks, IsKept}
use Rattle.task_runtime.specs.Tasks.{task_of}
use Rattle.task_runtime.specs.Written.{durations_of, thread_of, timing_of}
use Rattle.task_runtime.specs.declared.thread.Thread.{Thread}
use Rattle.linker.specs.declared.program.LinkedUnits.{LinkedUnits}
use Rattle.task_runtime.specs.Sounds.{CanWork, IsAtWork}
use Rattle.task_runtime.specs.declared.thread.Timing.{Timing}
use Rattle.task_runtime.specs.declared.thread.Timing.TheVariants.{Periodic, Requested}
use Rattle.task_runtime.specs.declared.task.Task.{Task}

-- what runs, where these are the tasks
abbrev pub system_for : ℕ → Costs → List units.Unit → List Thread → System
system_for until costs us threads = record {
  until = until;
  costs = costs;
  libraries = libraries_from 0 (map unit_of us);
  objects = objects_from 0 (map unit_of us);
  threads = map thread_of threads;
}

-- a task of these units that can run over linked code
pub record CanStart (us : List units.Unit) (t : Thread) : Type 0 where
  pub works : CanWork t
  pub units : t.units.now ≡ us
  pub offset : first_time (timing_of t.timing) < 2 ^ 32
  pub long : has_nothing (durations_of t) ≡ false

-- these tasks at the opening, before all effects
abbrev pub opened : ℕ → Costs → List units.Unit → List Arrival → List Thread → Running
opened until costs us arrivals threads =
    record { system = system_for until costs us threads; state = opening (system_for until costs us threads) arrivals }

-- the lists with a task that has not run yet: it sleeps until its first time, where it has times of its own
abbrev pub first_slept : Timing → ℕ → Queues → Queues
first_slept (Periodic offset period) task q = record q { asleep = in_time (task, offset) q.asleep }
first_slept (Requested op ceiling separation jitter external) task q = q

-- tasks that are open so far
pub record AreOpen (until : ℕ) (us : List units.Unit) (code : LinkedUnits) (threads : List Thread) (tasks : List Task) (q : Queues) : Type 0 where
  pub tasks_are : map task_of tasks ≡ map first_task (map thread_of threads)
  pub threads_are : map (λ t. t.progress.stack.thread) tasks ≡ threads
  pub ready : q.ready ≡ []
  pub sleeping : AreSleeping (map task_of tasks) 0 q.asleep
  pub kept : AllTasks (IsKept until 0 us) tasks
  pub at_work : AllTasks (λ t. IsAtWork code t.progress) tasks
