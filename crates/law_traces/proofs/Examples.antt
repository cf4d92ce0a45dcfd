-- Examples: traces of a thread that starts another, and of two threads that share an object, with the verdict on each.
use Rattle.std.specs.Prelude.{◌≡◌, ℕ, List, [], ◌∷◌, ◌++◌, Some, None, codes, refl}
use Rattle.seq_tree.specs.Names.{Name}
use Rattle.seq_tree.specs.Expressions.{Number}
use Rattle.seq_tree.specs.Statements.{Call, Work, End, Then}
use Rattle.seq_tree.specs.Operations.{Signature, Operation}
use Rattle.seq_tree.specs.declared.tree.Costs.{Costs}
use Rattle.seq_tree.specs.declared.tree.Mode.TheVariants.{In}
use Rattle.seq_tree.specs.declared.tree.OpName.{OpName}
use Rattle.ods_tree.specs.Flats.{Guarded, Cyclic, Sporadic}
use Rattle.guarantee.specs.Software.{Software, Task}
use Rattle.guarantee.specs.Events.{Event, By, Horizon, Release, Enter, Leave, Request, Print}
use Rattle.guarantee.specs.Events as deed
use Rattle.guarantee.specs.Arrivals.{Arrivals}
use Rattle.law_traces.specs.Checks.{run_of, begins, serves, is_among_served, follows}
use Rattle.law_traces.specs.Verdicts.{Accepted, Times, Requests, Script, judged}
use Rattle.law_traces.specs.Verdicts as verdict

abbrev costs : Costs
costs = record { assign = 1; test = 1; turn = 1; call = 2; nothing = 1; put = 1; finish = 1 }

abbrev up_to : ℕ → Arrivals
up_to until = record { until = until; work = []; items = [] }

-- A THREAD THAT STARTS ANOTHER
abbrev p : Name
p = codes "p"

abbrev s : Name
s = codes "s"

abbrev start : Signature
start = record { name = codes "start"; params = record { name = codes "v"; mode = In } ∷ [] }

abbrev starter : Task
starter = record { name = p; timing = Cyclic 50 0; vars = []; block = Then (Call s (codes "start") (Number 7 ∷ [])) End }

abbrev started : Task
started = record { name = s; timing = Sporadic start 50 None; vars = []; block = Then (Work 4) End }

abbrev pair : Software
pair = record { costs = costs; passive = []; shared = []; tasks = starter ∷ started ∷ [] }

-- from the release of the starter to that of the other, with this value
abbrev first_part : ℕ → List Event
first_part value = By 0 p (Release None) ∷ By 4 p (Request s (Some 7)) ∷ By 4 s (Release (Some value)) ∷ []

-- as it is replayed
as_replayed : judged pair 0 (up_to 12) (first_part 7 ++ By 9 s (deed.End 5) ∷ By 10 p (deed.End 5) ∷ Horizon 12 ∷ []) ≡ Accepted 6
unfolding judged follows run_of begins is_among_served serves
as_replayed = refl

-- the machine of a design has no priorities
without_priorities : judged pair 0 (up_to 12) (first_part 7 ++ By 5 p (deed.End 5) ∷ By 10 s (deed.End 5) ∷ Horizon 12 ∷ []) ≡ Accepted 6
unfolding judged follows run_of begins is_among_served serves
without_priorities = refl

-- too many ticks
used_too_much : judged pair 0 (up_to 12) (first_part 7 ++ By 9 s (deed.End 6) ∷ By 10 p (deed.End 5) ∷ Horizon 12 ∷ []) ≡ Script s
unfolding judged follows run_of begins is_among_served serves
used_too_much = refl

-- another value than was requested
another_value : judged pair 0 (up_to 12) (first_part 8 ++ By 9 s (deed.End 5) ∷ By 10 p (deed.End 5) ∷ Horizon 12 ∷ []) ≡ Requests s
unfolding judged follows run_of begins is_among_served serves
another_value = refl

-- nothing at all
nothing : judged pair 0 (up_to 12) [] ≡ Times
unfolding judged follows run_of begins is_among_served serves
nothing = refl

-- a cyclic thread that is never released
unreleased : judged pair 0 (up_to 12) (Horizon 12 ∷ []) ≡ verdict.Cyclic p
unfolding judged follows run_of begins is_among_served serves
unreleased = refl

-- A THREAD THAT IS REQUESTED FROM OUTSIDE
abbrev asked : Software
asked = record { costs = costs; passive = []; shared = []; tasks = record started { timing = Sporadic start 50 (Some 0) } ∷ [] }

abbrev one_request : Arrivals
one_request = record (up_to 12) { items = record { time = 3; task = s; value = Some 7 } ∷ [] }

-- its arrival is missing
no_arrival : judged asked 0 one_request (Horizon 12 ∷ []) ≡ verdict.Untold
unfolding judged follows run_of begins is_among_served serves
no_arrival = refl

as_asked : judged asked 0 one_request (By 3 s (deed.Arrive (Some 7)) ∷ By 3 s (Release (Some 7)) ∷ By 8 s (deed.End 5) ∷ Horizon 12 ∷ []) ≡ Accepted 4
unfolding judged follows run_of begins is_among_served serves
as_asked = refl

another_arrival : judged asked 0 one_request (By 3 s (deed.Arrive (Some 8)) ∷ By 3 s (Release (Some 8)) ∷ By 8 s (deed.End 5) ∷ Horizon 12 ∷ [])
    ≡ verdict.Untold
unfolding judged follows run_of begins is_among_served serves
another_arrival = refl

-- TWO THREADS THAT SHARE AN OBJECT
abbrev set : OpName
set = record { object = codes "q"; op = codes "set" }

abbrev setting : Operation
setting = record { sig = record { name = codes "set"; params = [] }; locals = []; block = Then (Work 3) End }

abbrev object : Guarded
object = record { name = codes "q"; vars = []; ops = setting ∷ [] }

abbrev caller : Name → ℕ → ℕ → Task
caller name period offset = record { name = name; timing = Cyclic period offset; vars = []; block = Then (Call (codes "q") (codes "set") []) End }

abbrev sharing : Software
sharing = record { costs = costs; passive = []; shared = object ∷ []; tasks = caller (codes "l") 20 0 ∷ caller (codes "h") 10 3 ∷ [] }

abbrev l : Name
l = codes "l"

abbrev h : Name
h = codes "h"

-- the first twelve ticks, with other events behind the release of h
abbrev shared_part : List Event → List Event
shared_part others =
    By 0 l (Release None) ∷ By 2 l (Enter set []) ∷ By 3 h (Release None) ∷ (others ++ By 5 l (Leave set []) ∷ By 7 h (Enter set [])
    ∷ By 10 h (Leave set []) ∷ By 11 h (deed.End 6) ∷ By 12 l (deed.End 6) ∷ Horizon 12 ∷ [])

one_by_one : judged sharing 0 (up_to 12) (shared_part []) ≡ Accepted 9
unfolding judged follows run_of begins is_among_served serves
one_by_one = refl

-- an object is no thread
object_prints : judged sharing 0 (up_to 12) (shared_part (By 4 (codes "q") (Print 1) ∷ [])) ≡ Times
unfolding judged follows run_of begins is_among_served serves
object_prints = refl

-- a second entry before the first has ended: the threads do as their blocks say, the object doesn't
abbrev inside_twice : List Event
inside_twice =
    By 0 l (Release None) ∷ By 2 l (Enter set []) ∷ By 3 h (Release None) ∷ By 5 h (Enter set []) ∷ By 6 l (Leave set []) ∷ By 8 h (Leave set [])
    ∷ By 9 h (deed.End 6) ∷ By 10 l (deed.End 6) ∷ Horizon 12 ∷ []

two_inside : judged sharing 0 (up_to 12) inside_twice ≡ verdict.Shared (codes "q")
unfolding judged follows run_of begins is_among_served serves
two_inside = refl
