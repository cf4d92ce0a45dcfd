-- A number that falls in a run up to its stop.
-- It counts the events that may still be told: two at most for each effect that may still follow in the instant, one for each sleeper,
-- and two for an arrival.
use Rattle.std.specs.Prelude.{◌≡◌, ℕ, ◌+◌, ◌-◌, ◌*◌, ◌≤◌, false, List, [], ◌∷◌, length, ◌==◌, if◌then◌else◌, Option, Some, None, slice_get}
use Rattle.trace_tree.specs.declared.event.Event.{Event}
use Rattle.machine.specs.Pieces.{Piece, Printing, Finishing}
use Rattle.machine.specs.States.{State, Task, Phase, Effects, Delays, Arriving, Use, Readiness, Ready, Waiting, Asleep}
use Rattle.machine.specs.Meanings.{Running}
use Rattle.task_runtime.specs.Effort.{effort, most_ends}

-- twice the events that the first piece tells
abbrev pub first_tells : List Piece → ℕ
first_tells [] = 0
first_tells (Printing value ∷ ps) = 2
first_tells (Finishing ∷ ps) = 2
first_tells (_ ∷ ps) = 0

-- the effects that a task may still have in an instant
abbrev pub effort_of : ℕ → Option Task → ℕ
effort_of most None = 0
effort_of most (Some t) = if t.left == 0 then effort most t.pieces else 0

-- those of the task that used the tick before
abbrev pub ran_effort : ℕ → List Task → Option ℕ → ℕ
ran_effort most tasks None = 0
ran_effort most tasks (Some i) = effort_of most (slice_get tasks i)

-- the tasks that may still be released in an instant
abbrev pub sleeper : Readiness → ℕ
sleeper (Asleep until) = 1
sleeper Waiting = 0
sleeper Ready = 0

-- the tasks that sleep
abbrev pub sleepers : List Task → ℕ
sleepers [] = 0
sleepers (t ∷ ts) = sleeper t.readiness + sleepers ts

-- the events that an instant may still tell, by its part
abbrev pub rank : ℕ → Phase → State → ℕ
rank most Effects s = 2 * ran_effort most s.tasks s.ran + sleepers s.tasks
rank most Delays s = sleepers s.tasks
rank most Arriving s = 0
rank most Use s = 0

-- the number that falls with each event
abbrev pub left : Running → ℕ
left r =
    (r.system.until - r.state.time) * (2 * most_ends r.system + length r.system.threads) + rank (most_ends r.system) r.state.phase r.state
    + 2 * length r.state.arrivals

-- a run that goes on has as many events less to tell
abbrev pub Falls : Running → List Event → Running → Type 0
Falls r told r' = r'.state.stopped ≡ false → left r' + length told ≤ left r
