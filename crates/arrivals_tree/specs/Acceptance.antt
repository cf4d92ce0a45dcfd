-- Which arrivals are accepted for a program: what may be wrong with an item, tried in the order of the file.
-- A separation is kept by nominal times, which an arrival may be later than by at most the jitter.
use Rattle.std.specs.Prelude.{◌≡◌, ℕ, ◌+◌, Bool, List, [], ◌∷◌, ◌++◌, map, filter, length, max, not, nat_lt, ◌==◌, Option, Some, None, slice_get}
use Rattle.std.specs.List.{list_any}
use Rattle.seq_tree.specs.Operations.{Signature}
use Rattle.seq_tree.specs.Faults.{or_else, fault_if}
use Rattle.ada_tree.specs.Programs.{Program, Unit, Form, Passive, Shared, Cyclic, Sporadic, is_task}
use Rattle.arrivals_tree.specs.declared.arrivals.Arrival.{Arrival}
use Rattle.arrivals_tree.specs.Arriving.{Arrivals, Durations}

-- what may be wrong
pub data ArrivalFault : Type 0 where
  -- a time below the one before
  Falling : ArrivalFault
  -- durations of what is no task, or a request of what is no external task
  Unknown : ArrivalFault
  -- a value that is missing or isn't asked for, or a duration of nothing
  Unfit : ArrivalFault
  -- a separation that isn't kept
  Early : ArrivalFault
  -- a horizon that is too far
  Far : ArrivalFault

-- whether a duration of nothing is among these
abbrev pub has_nothing : List ℕ → Bool
has_nothing ticks = list_any (λ n. n == 0) ticks

-- durations of the unit at a place
abbrev pub durations_fault : Option Unit → List ℕ → Option ArrivalFault
durations_fault None ticks = Some Unknown
durations_fault (Some u) ticks = or_else (fault_if (not (is_task u.form)) Unknown) (fault_if (has_nothing ticks) Unfit)

-- whether a value is there exactly where the operation has a parameter
abbrev pub fits : Signature → Option ℕ → Bool
fits op None = length op.params == 0
fits op (Some value) = nat_lt 0 (length op.params)

-- the nominal times plus the jitter: each is the later of the arrival and of the one before plus the separation
abbrev pub next_nominal : ℕ → Option ℕ → ℕ → ℕ
next_nominal separation None time = time
next_nominal separation (Some before) time = max time (before + separation)

-- the last of these after so many arrivals, where there are any
abbrev pub nominal : ℕ → Option ℕ → List ℕ → Option ℕ
nominal separation last [] = last
nominal separation last (time ∷ times) = nominal separation (Some (next_nominal separation last time)) times

-- the times of the earlier arrivals of a task
abbrev pub earlier_times : ℕ → List Arrival → List ℕ
earlier_times task before = map (λ a. a.time) (filter (λ a. a.task == task) before)

-- the time of the last arrival, and 0 where there is none
abbrev pub last_time : List Arrival → ℕ
last_time [] = 0
last_time (a ∷ []) = a.time
last_time (a ∷ b ∷ more) = last_time (b ∷ more)

-- a request from outside of a task, after the earlier ones
abbrev pub request_fault : Bool → Signature → ℕ → ℕ → List Arrival → Arrival → Option ArrivalFault
request_fault external op separation jitter before a =
    or_else (fault_if (not external) Unknown)
    (or_else (fault_if (not (fits op a.value)) Unfit)
    (fault_if (nat_lt (a.time + jitter) (next_nominal separation (nominal separation None (earlier_times a.task before)) a.time)) Early))

-- a request from outside of a unit
abbrev pub request_fault_by : Form → List Arrival → Arrival → Option ArrivalFault
request_fault_by (Passive ops) before a = Some Unknown
request_fault_by (Shared ceiling vars ops) before a = Some Unknown
request_fault_by (Cyclic priority offset period vars block) before a = Some Unknown
request_fault_by (Sporadic priority ceiling op separation jitter external vars block) before a = request_fault external op separation jitter before a

-- a request from outside of the unit at a place
abbrev pub request_fault_at : Option Unit → List Arrival → Arrival → Option ArrivalFault
request_fault_at None before a = Some Unknown
request_fault_at (Some u) before a = request_fault_by u.form before a

-- what is wrong with a request, its time first
abbrev pub item_fault : Program → List Arrival → Arrival → Option ArrivalFault
item_fault p before a =
    or_else (fault_if (nat_lt a.time (last_time before)) Falling) (request_fault_at (slice_get p.units a.task) before a)

-- the first fault of the requests
abbrev pub requests_fault : Program → List Arrival → List Arrival → Option ArrivalFault
requests_fault p before [] = None
requests_fault p before (a ∷ more) = or_else (item_fault p before a) (requests_fault p (before ++ a ∷ []) more)

-- the first fault of the durations
abbrev pub works_fault : Program → List Durations → Option ArrivalFault
works_fault p [] = None
works_fault p (w ∷ ws) = or_else (durations_fault (slice_get p.units w.task) w.ticks) (works_fault p ws)

-- the first fault of all
abbrev pub first_fault : ℕ → Program → Arrivals → Option ArrivalFault
first_fault limit p a =
    or_else (fault_if (nat_lt limit a.until) Far) (or_else (works_fault p a.work) (requests_fault p [] a.items))

-- arrivals in which nothing is wrong, up to the farthest horizon allowed
abbrev pub IsAccepted : ℕ → Program → Arrivals → Type 0
IsAccepted limit p a = first_fault limit p a ≡ None
