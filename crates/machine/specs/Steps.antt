-- One step of the processor: an effect, a release, an arrival, the use of a tick, or nothing but the end of a part of the instant.
-- The steps of one instant are what happens at one tick.
use Rattle.std.specs.Prelude.{ℕ, ◌+◌, ◌-◌, Bool, true, false, List, [], ◌∷◌, nat_le, ◌==◌, Option, Some, None, slice_get, if◌then◌else◌}
use Rattle.arrivals_tree.specs.declared.arrivals.Arrival.{Arrival}
use Rattle.trace_tree.specs.declared.event.Event.TheVariants as event
use Rattle.seq_tree.specs.Lists.{change, first_where}
use Rattle.machine.specs.Systems.{System}
use Rattle.machine.specs.Pieces.{Piece}
use Rattle.machine.specs.Deeds.{done}
use Rattle.machine.specs.States.{State, Task, Phase, Effects, Delays, Arriving, Use, Readiness, Asleep, Waiting, Ready}
use Rattle.machine.specs.Dispatch.{dispatched}
use Rattle.machine.specs.Releases.{Next, after, release, serve}
use Rattle.machine.specs.Effects.{takes_effect}

-- on to the next part of the instant
abbrev pub goes_to : Phase → State → Next
goes_to phase s = (record s { phase = phase }, [])

-- effects: of the task that used the tick before, while its first piece has no ticks left
abbrev pub effect_of : System → ℕ → Task → List Piece → State → Next
effect_of y i t [] s = goes_to Delays s
effect_of y i t (p ∷ ps) s = if t.left == 0 then takes_effect y i t (done y p t.vars ps) s else goes_to Delays s

-- effects of a task, where there is one
abbrev pub effect_at : System → ℕ → Option Task → State → Next
effect_at y i None s = goes_to Delays s
effect_at y i (Some t) s = effect_of y i t t.pieces s

-- effects of the task that used the tick before
abbrev pub effect_step : System → Option ℕ → State → Next
effect_step y None s = goes_to Delays s
effect_step y (Some i) s = effect_at y i (slice_get s.tasks i) s

-- whether a sleeper is to be released
abbrev pub is_due : ℕ → Readiness → Bool
is_due time (Asleep until) = nat_le until time
is_due time Waiting = false
is_due time Ready = false

-- delays: the first sleeping task in order of units whose time has come
abbrev pub delay_step : System → Option (ℕ × Task) → State → Next
delay_step y None s = goes_to Arriving s
delay_step y (Some sleeper) s = release y sleeper.0 s

-- the horizon, where its time has come
abbrev pub horizon_step : System → State → Next
horizon_step y s = if s.time == y.until then (record s { stopped = true }, event.Horizon s.time ∷ []) else goes_to Use s

-- an arrival for the task at this place
abbrev pub arrive_at : System → Arrival → Option (ℕ × Task) → State → Next
arrive_at y a None s = (s, [])
arrive_at y a (Some t) s =
    after (event.Arrive s.time a.task a.value ∷ [])
    (serve y t.0 (record s { tasks = change t.0 (λ u. record u { gate = record { value = a.value; open' = true } }) s.tasks }))

-- arrivals: the next one, where its time has come, and then the horizon
abbrev pub arrival_step : System → List Arrival → State → Next
arrival_step y [] s = horizon_step y s
arrival_step y (a ∷ others) s =
    if a.time == s.time then arrive_at y a (first_where (λ t. t.thread.unit == a.task) s.tasks) (record s { arrivals = others }) else horizon_step y s

-- use: the task that is dispatched uses one tick
abbrev pub use_step : System → Option ℕ → State → Next
use_step y None s = (record s { time = s.time + 1; phase = Effects; ran = None }, [])
use_step y (Some i) s = (
  record s {
    time = s.time + 1;
    phase = Effects;
    ran = Some i;
    tasks = change i (λ t. record t { left = t.left - 1; used = t.used + 1 }) s.tasks;
  },
  [],
)

-- a step, by the part of the instant
abbrev pub step_in : Phase → System → State → Next
step_in Effects y s = effect_step y s.ran s
step_in Delays y s = delay_step y (first_where (λ t. is_due s.time t.readiness) s.tasks) s
step_in Arriving y s = arrival_step y s.arrivals s
step_in Use y s = use_step y (dispatched s.tasks s.orders) s

-- a step; a run that has stopped makes none
abbrev pub step : System → State → Next
step y s = if s.stopped then (s, []) else step_in s.phase y s
