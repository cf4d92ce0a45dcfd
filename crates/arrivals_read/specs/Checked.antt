-- What the check of an item finds. A request is judged by the time of the one before it and by the last nominal time of its task,
-- which are kept; the definitions judge it by all requests before it.
use Rattle.std.specs.Prelude.{◌≡◌, ℕ, ◌+◌, ◌<◌, ◌≤◌, Bool, not, nat_lt, List, [], ◌∷◌, ◌++◌, length, get_or, Option, Some, None, Result, Ok, Err}
use Rattle.std.specs.Prelude.{slice_get, if◌then◌else◌, ⊤}
use Rattle.seq_tree.specs.Operations.{Signature}
use Rattle.ada_tree.specs.Programs as programs
use Rattle.ada_tree.specs.Programs.{Program, Form, Passive, Shared, Cyclic, Sporadic}
use Rattle.arrivals_tree.specs.declared.arrivals.Arrival.{Arrival}
use Rattle.arrivals_tree.specs.Acceptance as acceptance
use Rattle.arrivals_tree.specs.Acceptance.{Falling, Unknown, Unfit, Early, fits, next_nominal, nominal, earlier_times, last_time, item_fault}
use Rattle.arrivals_read.specs.declared.checks.Cause.{Cause}
use Rattle.arrivals_read.specs.declared.checks.Cause.TheVariants as cause
use Rattle.arrivals_read.specs.declared.checks.Seen.{Seen}

-- what is wrong
abbrev pub fault_named : Cause → acceptance.ArrivalFault
fault_named cause.Falling = Falling
fault_named cause.Unknown = Unknown
fault_named cause.Unfit = Unfit
fault_named cause.Early = Early

-- the nominal time to which a request moves its task, or what is wrong with it
abbrev pub moved : Bool → Signature → ℕ → ℕ → Option ℕ → Arrival → Result ℕ acceptance.ArrivalFault
moved external op separation jitter before a =
    if not external then Err Unknown
    else if not (fits op a.value) then Err Unfit
    else if nat_lt (a.time + jitter) (next_nominal separation before a.time) then Err Early
    else Ok (next_nominal separation before a.time)

-- the same for a request of a unit
abbrev pub moved_by : Form → Option ℕ → Arrival → Result ℕ acceptance.ArrivalFault
moved_by (Passive ops) before a = Err Unknown
moved_by (Shared ceiling vars ops) before a = Err Unknown
moved_by (Cyclic priority offset period vars block) before a = Err Unknown
moved_by (Sporadic priority ceiling op separation jitter external vars block) before a = moved external op separation jitter before a

-- an answer is this
abbrev pub Judges : Result ℕ Cause → Result ℕ acceptance.ArrivalFault → Type 0
Judges (Ok n) judged = judged ≡ Ok n
Judges (Err found) judged = judged ≡ Err (fault_named found)

-- a nominal time, where there is one, is within what a request that keeps its separation leaves
abbrev pub IsNear : Option ℕ → Type 0
IsNear None = ⊤
IsNear (Some n) = n ≤ 8589934592

-- the separation of a unit, and 0 where it has none
abbrev pub separation_by : Form → ℕ
separation_by (Passive ops) = 0
separation_by (Shared ceiling vars ops) = 0
separation_by (Cyclic priority offset period vars block) = 0
separation_by (Sporadic priority ceiling op separation jitter external vars block) = separation

abbrev pub separation_at : Option programs.Unit → ℕ
separation_at None = 0
separation_at (Some u) = separation_by u.form

-- there is a nominal time for each unit of a program, or none yet
abbrev pub IsSized : Program → Seen → Type 0
IsSized p s = (length s.nominals.items ≡ length p.units) × ((place : ℕ) → IsNear (get_or s.nominals.items place None))

-- what is kept is that of these requests
abbrev pub IsOf : Program → List Arrival → Seen → Type 0
IsOf p earlier s =
    (s.last ≡ last_time earlier)
    × ((place : ℕ) → place < length p.units →
    get_or s.nominals.items place None ≡ nominal (separation_at (slice_get p.units place)) None (earlier_times place earlier))

-- a request behind these was judged, and noted where nothing is wrong
abbrev pub Notes : Program → List Arrival → Arrival → Result (Unit {0}) Cause → Seen → Type 0
Notes p earlier a (Ok done) s = (item_fault p earlier a ≡ None) × IsOf p (earlier ++ a ∷ []) s
Notes p earlier a (Err found) s = item_fault p earlier a ≡ Some (fault_named found)
