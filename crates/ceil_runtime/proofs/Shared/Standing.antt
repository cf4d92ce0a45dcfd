-- Where a machine stands: not past its horizon, and before it where a tick is to be used.
use Rattle.std.proofs.Common.{◌≡◌, ℕ, ◌+◌, ◌≤◌, List, Option, arith}
use Rattle.link_queue.specs.Queues.{Queues}
use Rattle.machine.specs.States as states
use Rattle.ceil_runtime.specs.declared.processor.Machine.{Machine}
use Rattle.ceil_runtime.specs.declared.processor.Phase.{Phase}
use Rattle.ceil_runtime.specs.declared.processor.Phase.TheVariants.{Effects, Delays, Arriving, Use}
use Rattle.task_runtime.specs.declared.task.Task.{Task}
use Rattle.ceil_runtime.specs.Processing.{HoldsIn, phase_of}
use Rattle.ceil_runtime.specs.Shown.{IsWhole, running_of}

pub within-horizon : (m : Machine) → IsWhole m → (running_of m).state.time ≤ (running_of m).system.until
within-horizon m whole = whole.sound.in_time

ahead_in : (phase : Phase) (until time : ℕ) (ran : Option ℕ) (tasks : List Task) (q : Queues) → HoldsIn phase until time ran tasks q
    → phase_of phase ≡ states.Use → time + 1 ≤ until
ahead_in (Effects running) until time ran tasks q h e = absurd (cc)
ahead_in Delays until time ran tasks q h e = absurd (cc)
ahead_in Arriving until time ran tasks q h e = absurd (cc)
ahead_in Use until time ran tasks q h e = omega (arith, h.0)

pub before-horizon : (m : Machine) → IsWhole m → (running_of m).state.phase ≡ states.Use → (running_of m).state.time + 1 ≤ (running_of m).system.until
before-horizon m whole e = ahead_in m.phase m.until m.time m.ran m.tasks.items m.links whole.sound.here e
