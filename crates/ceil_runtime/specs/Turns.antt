-- What an answer of the machine says of the events told and of where the run then stands.
-- A run ends with the horizon or with a stop, and neither comes before the end.
use Rattle.std.specs.Prelude.{◌≡◌, ℕ, ◌<◌, Bool, true, false, List, [], ◌∷◌, ◌++◌, length}
use Rattle.std.specs.List.{list_any}
use Rattle.trace_tree.specs.declared.event.Event.{Event}
use Rattle.trace_tree.specs.declared.event.Event.TheVariants as event
use Rattle.machine.specs.Meanings.{Running}
use Rattle.ceil_runtime.specs.declared.processor.Turn.{Turn}
use Rattle.ceil_runtime.specs.declared.processor.Turn.TheVariants.{More, Horizon, CeilingViolation}

-- whether an event is the last of a run
abbrev pub is_last : Event → Bool
is_last (event.Stop time task unit priority ceiling) = true
is_last (event.Horizon time) = true
is_last _ = false

-- events of which the last one, and no other, ends the run
abbrev pub EndsWith : Event → List Event → Type 0
EndsWith last told = (front : List Event) × (told ≡ front ++ last ∷ []) × (list_any is_last front ≡ false)

-- what an answer says
abbrev pub Turned : Turn → List Event → Running → Type 0
Turned More told r = (0 < length told) × (list_any is_last told ≡ false) × (r.state.stopped ≡ false)
Turned Horizon told r = EndsWith (event.Horizon r.state.time) told × (r.state.stopped ≡ true)
Turned (CeilingViolation time task object priority ceiling) told r =
    EndsWith (event.Stop time task object priority ceiling) told × (r.state.stopped ≡ true)

-- a number that falls where the run goes on
abbrev pub FallsAt : Turn → ℕ → ℕ → Type 0
FallsAt More old new = new < old
FallsAt _ old new = Unit {0}

-- the answer to the last event of a run
abbrev pub last_turn : Event → Turn
last_turn (event.Stop time task unit priority ceiling) = CeilingViolation time task unit priority ceiling
last_turn _ = Horizon
