-- Requests and the ends of activations: none ends at the time of a request, after it.
-- An activation ends with a piece of FINISH, which takes a tick at least, so the processor has a tick to run after each request.
use Rattle.std.specs.Prelude.{ℕ, ◌<◌, List, [], ◌∷◌, ⊤}
use Rattle.ada_tree.specs.Programs.{Program}
use Rattle.ada_tree.specs.Rules.{MeetsRules}
use Rattle.arrivals_tree.specs.Arriving.{Arrivals}
use Rattle.machine.specs.Meanings.{Meaning}
use Rattle.trace_tree.specs.declared.event.Event as machine
use Rattle.guarantee.specs.Events.{Request, End, Event, By, named}

-- each end is after this time
abbrev pub EndAfter : ℕ → List Event → Type 0
EndAfter time [] = ⊤
EndAfter time (By at task (End used) ∷ told) = (time < at) × EndAfter time told
EndAfter time (_ ∷ told) = EndAfter time told

-- each request comes a tick or more before every later end
abbrev pub RequestsComeBeforeEnds : List Event → Type 0
RequestsComeBeforeEnds [] = ⊤
RequestsComeBeforeEnds (By time task (Request target value) ∷ told) = EndAfter time told × RequestsComeBeforeEnds told
RequestsComeBeforeEnds (_ ∷ told) = RequestsComeBeforeEnds told

-- so it is in every run of a program that meets the rules
abbrev pub RunsRequestBeforeEnds : Type 0
RunsRequestBeforeEnds =
    (p : Program) (r : Arrivals) (trace : List machine.Event) → MeetsRules p → Meaning p r trace → RequestsComeBeforeEnds (named p trace)
