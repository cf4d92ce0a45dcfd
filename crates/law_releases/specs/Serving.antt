-- Requests of a sporadic thread that are served in order, up to the first that comes while another is pending; and times of its requests.
-- Its control structure holds one request at a time (Burns and Wellings 1995).
use Rattle.std.specs.Prelude.{◌≡◌, ℕ, Bool, true, false, List, [], ◌∷◌, max, Option, Some, None, ⊤}
use Rattle.seq_tree.specs.Names.{Name}
use Rattle.ods_tree.specs.Flats.{Timing, Cyclic, Sporadic}
use Rattle.guarantee.specs.Events.{Event}
use Rattle.guarantee.specs.Requests.{Notice, Asked, Taken, Done, Pending, notices}

-- requests served in order, up to an overrun: a request of a thread that is active and has one pending. An idle thread takes a request before
-- anything else happens to it
abbrev pub ServedWhile : Option Pending → Option ℕ → List Notice → Type 0
ServedWhile None idle (Asked time value ∷ more) = ServedWhile (Some (record { time = time; value = value })) idle more
ServedWhile (Some first) None (Asked time value ∷ more) = ⊤
ServedWhile (Some first) (Some since) (Asked time value ∷ more) = ⊥
ServedWhile pending (Some since) (Done time ∷ more) = ServedWhile pending (Some since) more
ServedWhile pending None (Done time ∷ more) = ServedWhile pending (Some time) more
ServedWhile (Some first) (Some since) (Taken time value ∷ more) = (time ≡ max first.time since) × (value ≡ first.value) × ServedWhile None None more
ServedWhile None idle (Taken time value ∷ more) = ⊥
ServedWhile (Some first) None (Taken time value ∷ more) = ⊥
ServedWhile None idle [] = ⊤
ServedWhile (Some first) None [] = ⊤
ServedWhile (Some first) (Some since) [] = ⊥

-- no request comes while another is pending
abbrev pub NeverOverruns : Bool → List Notice → Type 0
NeverOverruns pending [] = ⊤
NeverOverruns pending (Asked time value ∷ more) = (pending ≡ false) × NeverOverruns true more
NeverOverruns pending (Taken time value ∷ more) = NeverOverruns false more
NeverOverruns pending (Done time ∷ more) = NeverOverruns pending more

-- the requests of a task, served in order and each once, up to an overrun
abbrev pub IsServedWhile : List Event → Name → Timing → Type 0
IsServedWhile trace name (Cyclic period offset) = ⊤
IsServedWhile trace name (Sporadic op separation jitter) = ServedWhile None (Some 0) (notices name trace)

-- the requests of a task, none of which comes while another is pending
abbrev pub HasNoOverrun : List Event → Name → Timing → Type 0
HasNoOverrun trace name (Cyclic period offset) = ⊤
HasNoOverrun trace name (Sporadic op separation jitter) = NeverOverruns false (notices name trace)

-- the times of requests
abbrev pub asked : List Notice → List ℕ
asked [] = []
asked (Asked time value ∷ ns) = time ∷ asked ns
asked (Taken time value ∷ ns) = asked ns
asked (Done time ∷ ns) = asked ns

-- the times of releases
abbrev pub taken : List Notice → List ℕ
taken [] = []
taken (Asked time value ∷ ns) = taken ns
taken (Taken time value ∷ ns) = time ∷ taken ns
taken (Done time ∷ ns) = taken ns
