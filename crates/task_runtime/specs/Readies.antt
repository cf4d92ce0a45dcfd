-- Whether a task can run, and its control structure.
-- A task with times of its own sleeps between its activations; one that is released by requests waits.
use Rattle.std.specs.Prelude.{ℕ, Bool, true, false}
use Rattle.machine.specs.States as states
use Rattle.task_runtime.specs.declared.readiness.Gate.{Gate}
use Rattle.task_runtime.specs.declared.readiness.Readiness.{Readiness}
use Rattle.task_runtime.specs.declared.readiness.Readiness.TheVariants.{Asleep, Waiting, Ready}
use Rattle.task_runtime.specs.declared.thread.Timing.{Timing}
use Rattle.task_runtime.specs.declared.thread.Timing.TheVariants.{Periodic, Requested}

-- whether it can run; where it sleeps, it sleeps until its next time
abbrev pub readiness_of : Readiness → ℕ → states.Readiness
readiness_of Asleep next = states.Asleep next
readiness_of Waiting next = states.Waiting
readiness_of Ready next = states.Ready

-- the control structure
abbrev pub gate_of : Gate → states.Gate
gate_of g = record { value = g.value; open' = g.«open» }

-- whether a task is ready
abbrev pub is_ready : Readiness → Bool
is_ready Asleep = false
is_ready Waiting = false
is_ready Ready = true

-- whether a task may rest so: it sleeps where it has times of its own, and waits where it is released by requests
abbrev pub rests_as : Readiness → Timing → Bool
rests_as Asleep (Periodic offset period) = true
rests_as Asleep (Requested op ceiling separation jitter external) = false
rests_as Waiting (Periodic offset period) = false
rests_as Waiting (Requested op ceiling separation jitter external) = true
rests_as Ready w = true
