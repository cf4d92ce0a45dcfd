-- The first unit for which something isn't as it should be, by what is kept of each unit.
-- A unit that is no thread of the kind that is asked for is as it should be.
use Rattle.std.specs.Prelude.{ℕ, Bool, true, false, List, [], ◌∷◌, Option, Some, None, if◌then◌else◌}
use Rattle.seq_tree.specs.Names.{Name}
use Rattle.ada_tree.specs.Programs.{Form, Unit, Passive, Shared, Cyclic, Sporadic}
use Rattle.guarantee.specs.Events.{Event}
use Rattle.guarantee.specs.Requests.{Notice, notices}
use Rattle.guarantee.specs.Releases.{Released, releases}
use Rattle.law_traces.specs.Checks.{on_time, are_served}
use Rattle.trace_checks.specs.Serving.{Serving}

-- the first unit for which the answer is no, where there is one
abbrev pub first_failing : {S : Type 0} → (Unit → S → List Event → Bool) → List Unit → List S → List Event → Option Name
first_failing answer [] ss told = None
first_failing answer (u ∷ us) [] told = None
first_failing answer (u ∷ us) (s ∷ ss) told = if answer u s told then first_failing answer us ss told else Some u.name

-- releases on time from the next one on, where all were before
abbrev pub on_time_by : ℕ → ℕ → Option ℕ → List Released → Bool
on_time_by period until None rs = false
on_time_by period until (Some next) rs = on_time period until next rs

-- the releases of a cyclic unit, by its next release
abbrev pub periodic_by : ℕ → Name → Form → Option ℕ → List Event → Bool
periodic_by until name (Passive ops) next told = true
periodic_by until name (Shared ceiling vars ops) next told = true
periodic_by until name (Cyclic priority offset period vars block) next told = on_time_by period until next (releases name told)
periodic_by until name (Sporadic priority ceiling op separation jitter external vars block) next told = true

abbrev pub is_periodic_by : ℕ → Unit → Option ℕ → List Event → Bool
is_periodic_by until u next told = periodic_by until u.name u.form next told

-- requests served from those that wait on, where all were before
abbrev pub served_by : Serving → List Notice → Bool
served_by s ns = if s.broken then false else are_served s.queue s.idle ns

-- the requests and releases of a sporadic unit, by how it stands
abbrev pub requested_by : Name → Form → Serving → List Event → Bool
requested_by name (Passive ops) s told = true
requested_by name (Shared ceiling vars ops) s told = true
requested_by name (Cyclic priority offset period vars block) s told = true
requested_by name (Sporadic priority ceiling op separation jitter external vars block) s told = served_by s (notices name told)

abbrev pub is_requested_by : Unit → Serving → List Event → Bool
is_requested_by u s told = requested_by u.name u.form s told
