-- How a sporadic unit stands after some events: which requests wait, since when it is idle, and whether all was as it should be.
-- Times are in ticks.
use Rattle.std.specs.Prelude.{ℕ, ◌<◌, ◌==◌, Bool, true, false, not, ◌&&◌, ◌||◌, List, [], ◌∷◌, ◌++◌, map, max, Option, Some, None, ⊤}
use Rattle.seq_tree.specs.Lists.{change}
use Rattle.trace_tree.specs.declared.event.Event.{Event}
use Rattle.trace_tree.specs.declared.event.Event.TheVariants.{Release, Arrive, Request, End}
use Rattle.guarantee.specs.Requests.{Pending}
use Rattle.law_walks.specs.Walks.{same_value}
use Rattle.trace_checks.specs.declared.waiting.Pending as code
use Rattle.trace_checks.specs.declared.waiting.Waiting.{Waiting}

-- how a unit stands
pub record Serving : Type 0 where
  pub queue : List Pending
  pub idle : Option ℕ
  pub broken : Bool

abbrev pub pending_of : code.Pending → Pending
pending_of w = record { time = w.time; value = w.value }

abbrev pub serving_of : Waiting → Serving
serving_of w = record { queue = map pending_of w.queue.items; idle = w.idle; broken = w.broken }

-- before the first event
abbrev pub nothing_waits : Serving
nothing_waits = record { queue = []; idle = Some 0; broken = false }

-- behind a request
abbrev pub asked : ℕ → Option ℕ → Serving → Serving
asked time value s = record { queue = s.queue ++ record { time = time; value = value } ∷ []; idle = s.idle; broken = s.broken }

-- behind a release
abbrev pub taken_by : ℕ → Option ℕ → List Pending → Option ℕ → Bool → Serving
taken_by time value queue None broken = record { queue = queue; idle = None; broken = true }
taken_by time value [] (Some since) broken = record { queue = []; idle = Some since; broken = true }
taken_by time value (first ∷ queue) (Some since) broken = record {
  queue = queue;
  idle = None;
  broken = broken || not ((time == max first.time since) && same_value value first.value);
}

abbrev pub taken : ℕ → Option ℕ → Serving → Serving
taken time value s = taken_by time value s.queue s.idle s.broken

-- behind an end
abbrev pub idle_behind : ℕ → Option ℕ → Option ℕ
idle_behind time None = Some time
idle_behind time (Some since) = Some since

abbrev pub done : ℕ → Serving → Serving
done time s = record { queue = s.queue; idle = idle_behind time s.idle; broken = s.broken }

-- whether all is as it should be where no event follows
abbrev pub rests : List Pending → Option ℕ → Bool
rests [] idle = true
rests (first ∷ queue) None = true
rests (first ∷ queue) (Some since) = false

abbrev pub is_served : Serving → Bool
is_served s = not s.broken && rests s.queue s.idle

-- how units stand behind an event
abbrev pub serving_after : List Serving → Event → List Serving
serving_after ss (Release time task value) = change task (taken time value) ss
serving_after ss (Arrive time task value) = change task (asked time value) ss
serving_after ss (Request time task target value) = change target (asked time value) ss
serving_after ss (End time task used) = change task (done time) ss
serving_after ss _ = ss

-- the unit that an event concerns is one of so many
abbrev pub IsWithin : ℕ → Event → Type 0
IsWithin size (Release time task value) = task < size
IsWithin size (Arrive time task value) = task < size
IsWithin size (Request time task target value) = target < size
IsWithin size (End time task used) = task < size
IsWithin size _ = ⊤
