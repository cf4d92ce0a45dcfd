-- What a program means under arrivals: all that is told from the opening to the stop of the run.
-- A run that has stopped tells nothing more, so that any number of steps that is large enough gives it.
use Rattle.std.specs.Prelude.{◌≡◌, ℕ, zero, suc, true, List, []}
use Rattle.ada_tree.specs.Programs.{Program}
use Rattle.trace_tree.specs.declared.event.Event.{Event}
use Rattle.arrivals_tree.specs.Arriving.{Arrivals}
use Rattle.machine.specs.Systems.{System, system}
use Rattle.machine.specs.States.{State, opening}
use Rattle.machine.specs.Releases.{Next, after}
use Rattle.machine.specs.Steps.{step}

-- what follows a step
abbrev pub and_then : (State → Next) → Next → Next
and_then more next = after next.1 (more next.0)

-- so many steps, and what they tell
abbrev pub run : System → ℕ → State → Next
run y zero s = (s, [])
run y (suc n) s = and_then (run y n) (step y s)

-- what is told from a state on, up to the stop of the run
pub record Rest (y : System) (s : State) (told : List Event) : Type 0 where
  pub steps : ℕ
  pub stops : (run y steps s).0.stopped ≡ true
  pub tells : (run y steps s).1 ≡ told

-- the state from which a program runs under arrivals
abbrev pub start : Program → Arrivals → State
start p a = opening (system p a) a.items

-- what a program means under arrivals
abbrev pub Meaning : Program → Arrivals → List Event → Type 0
Meaning p a told = Rest (system p a) (start p a) told

-- what runs, and where it stands
pub record Running : Type 0 where
  pub system : System
  pub state : State

-- a program under arrivals at the opening
abbrev pub begun : Program → Arrivals → Running
begun p a = record { system = system p a; state = start p a }

-- what is told from where a run stands, up to its stop
abbrev pub Tells : Running → List Event → Type 0
Tells m told = Rest m.system m.state told
