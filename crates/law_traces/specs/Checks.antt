-- What is computed of a trace to tell whether a design allows it: one answer for each part of its machine.
-- Times, releases and requests take one pass over the events, scripts and operations a walk along each activation and each operation.
use Rattle.std.specs.Prelude.{ℕ, ◌+◌, Bool, true, false, not, ◌&&◌, ◌||◌, ◌==◌, List, [], ◌∷◌, ◌++◌, map, filter, filter_map, find, nat_le, nat_lt}
use Rattle.std.specs.Prelude.{max}
use Rattle.std.specs.Prelude.{Option, Some, None, unwrap_or, option_map, Result, Ok, Err, bytes_eq, if◌then◌else◌}
use Rattle.std.specs.List.{list_any, list_all}
use Rattle.grammar.specs.Reading.{Halt, left_of, whole_at}
use Rattle.seq_tree.specs.Names.{Name, same_name}
use Rattle.seq_tree.specs.Statements.{Statements}
use Rattle.seq_tree.specs.Operations.{Operation, out_names}
use Rattle.seq_tree.specs.Variables.{Variables, written, kept, reads, opened}
use Rattle.seq_tree.specs.Runs.{Action, Path, silent}
use Rattle.seq_tree.specs.Runs as runs
use Rattle.ods_tree.specs.Flats.{Guarded, Timing, Cyclic, Sporadic}
use Rattle.guarantee.specs.Software.{Software, Task, leads_to}
use Rattle.guarantee.specs.Events.{Deed, Enter, Leave, Request, Print, End, Event, By, Horizon}
use Rattle.guarantee.specs.Arrivals.{Arrival}
use Rattle.guarantee.specs.Order.{is_task_name, is_stop}
use Rattle.guarantee.specs.Releases.{Released, releases}
use Rattle.guarantee.specs.Requests.{Notice, Asked, Taken, Done, Pending, notices, arrival_by}
use Rattle.guarantee.specs.Steps.{Step, moments, steps_of, placed, outermost, inside}
use Rattle.guarantee.specs.Scripts.{Activation, Activations, grouped, least_inside, most_inside, released_vars}
use Rattle.guarantee.specs.Passages.{Passage, Into, Out, passages}
use Rattle.law_walks.specs.Walks.{walk_at, same_value}
use Rattle.law_traces.specs.Clear.{asked_op}
use Rattle.law_traces.specs.Parts.{enters_in}

-- TIMES
abbrev pub in_order : List Task → ℕ → ℕ → List Event → Bool
in_order ts until now [] = false
in_order ts until now (By time task deed ∷ told) = nat_le now time && is_task_name ts task && not (is_stop deed) && in_order ts until time told
in_order ts until now (Horizon time ∷ []) = nat_le now time && (time == until)
in_order ts until now (Horizon time ∷ e ∷ told) = false

-- CYCLIC
abbrev pub on_time : ℕ → ℕ → ℕ → List Released → Bool
on_time period until next [] = nat_lt until next
on_time period until next (r ∷ more) = nat_le next until && (r.time == next) && same_value r.value None && on_time period until (next + period) more

abbrev pub is_periodic : ℕ → List Event → Name → Timing → Bool
is_periodic until trace name (Cyclic period offset) = on_time period until offset (releases name trace)
is_periodic until trace name (Sporadic op separation jitter) = true

-- ARRIVALS
abbrev pub same_arrival : Arrival → Arrival → Bool
same_arrival a b = (a.time == b.time) && same_name a.task b.task && same_value a.value b.value

abbrev pub same_arrivals : List Arrival → List Arrival → Bool
same_arrivals [] [] = true
same_arrivals (a ∷ xs) (b ∷ ys) = same_arrival a b && same_arrivals xs ys
same_arrivals [] (b ∷ ys) = false
same_arrivals (a ∷ xs) [] = false

abbrev pub are_told : ℕ → List Arrival → List Event → Bool
are_told until items told = same_arrivals (filter_map arrival_by told) (filter (λ a. nat_le a.time until) items)

-- REQUESTS
abbrev pub are_served : List Pending → Option ℕ → List Notice → Bool
are_served queue idle (Asked time value ∷ more) = are_served (queue ++ record { time = time; value = value } ∷ []) idle more
are_served queue (Some since) (Done time ∷ more) = are_served queue (Some since) more
are_served queue None (Done time ∷ more) = are_served queue (Some time) more
are_served (first ∷ queue) (Some since) (Taken time value ∷ more) =
    (time == max first.time since) && same_value value first.value && are_served queue None more
are_served [] (Some since) (Taken time value ∷ more) = false
are_served queue None (Taken time value ∷ more) = false
are_served [] idle [] = true
are_served (first ∷ queue) None [] = true
are_served (first ∷ queue) (Some since) [] = false

abbrev pub is_requested : List Event → Name → Timing → Bool
is_requested trace name (Cyclic period offset) = true
is_requested trace name (Sporadic op separation jitter) = are_served [] (Some 0) (notices name trace)

-- RUNS
-- the action that a deed shows, where it shows one
abbrev pub action_of : Software → Deed → Option Action
action_of w (Enter name values) = Some (runs.Enter name values)
action_of w (Leave name values) = Some (runs.Leave name values)
action_of w (Request target value) = Some (runs.Request (record { object = target; op = asked_op w target }) value)
action_of w (Print value) = Some (runs.Print value)
action_of w _ = None

abbrev pub both : {A : Type 0} → Option A → Option (List A) → Option (List A)
both None xs = None
both (Some x) None = None
both (Some x) (Some xs) = Some (x ∷ xs)

-- the script that deeds show, where each shows an action
abbrev pub scripted : Software → List Deed → Option (List Action)
scripted w [] = Some []
scripted w (d ∷ ds) = both (action_of w d) (scripted w ds)

-- what is told by the walk of a block along a script
abbrev pub walked : Software → ℕ → Statements → Variables → List Action → Result Path Halt
walked w depth b vars script = whole_at (walk_at w.costs (leads_to w) depth b vars) script

-- the run that a walk found
abbrev pub run_by : Result Path Halt → Option Path
run_by (Ok p) = Some p
run_by (Err halt) = None

-- whether a walk did not stray
abbrev pub begins_by : Result Path Halt → Bool
begins_by (Ok p) = true
begins_by (Err halt) = left_of halt == 0

-- the run of a block that shows these deeds, where there is one
abbrev pub run_along : Software → ℕ → Statements → Variables → Option (List Action) → Option Path
run_along w depth b vars None = None
run_along w depth b vars (Some script) = run_by (walked w depth b vars script)

unfoldable pub run_of : Software → ℕ → Statements → Variables → List Deed → Option Path
run_of w depth b vars ds = run_along w depth b vars (scripted w ds)

-- whether a run of a block begins with these deeds
abbrev pub begins_along : Software → ℕ → Statements → Variables → Option (List Action) → Bool
begins_along w depth b vars None = false
begins_along w depth b vars (Some script) = begins_by (walked w depth b vars script)

unfoldable pub begins : Software → ℕ → Statements → Variables → List Deed → Bool
begins w depth b vars ds = begins_along w depth b vars (scripted w ds)

-- OBJECTS
-- the operation of an object
abbrev pub op_named : Guarded → Name → Option Operation
op_named g op = find (λ q. same_name q.sig.name op) g.ops

-- the run of an operation that is entered
abbrev pub body_by : Software → ℕ → Variables → List ℕ → List Deed → Option Operation → Option Path
body_by w depth data' values does None = None
body_by w depth data' values does (Some o) = run_of w depth o.block (opened o values ++ data') does

-- whether an operation that is entered is begun
abbrev pub begun_by : Software → ℕ → Variables → List ℕ → List Deed → Option Operation → Bool
begun_by w depth data' values does None = false
begun_by w depth data' values does (Some o) = begins w depth o.block (opened o values ++ data') does

-- whether an operation that is left hands these results out
abbrev pub gives_by : List ℕ → Option Operation → Path → Bool
gives_by results None p = false
gives_by results (Some o) p = bytes_eq results (reads (out_names o.sig.params) p.vars)

-- what is behind an operation that is left, where it had a run
abbrev pub out_by : Guarded → List ℕ → Option Operation → Option Path → (Variables → Bool) → Bool
out_by g results o None next = false
out_by g results o (Some p) next = gives_by results o p && next (kept g.vars p.vars)

-- whether the passages of an object are an entry and an exit, again and again, each with a run between them
abbrev pub one_by_one : Software → ℕ → Guarded → Variables → List Passage → Bool
one_by_one w depth g data' [] = true
one_by_one w depth g data' (Into thread op values does body ∷ []) = begun_by w depth data' values does (op_named g op)
one_by_one w depth g data' (Into thread op values does body ∷ Out other same results ∷ more) =
    same_name thread other && same_name op same
    && out_by g results (op_named g op) (body_by w depth data' values does (op_named g op)) (λ d. one_by_one w depth g d more)
one_by_one w depth g data' (Into thread op values does body ∷ Into other another values' does' body' ∷ more) = false
one_by_one w depth g data' (Out thread op results ∷ more) = false

-- WAYS
-- whether an event is a passage into or out of an object
abbrev pub is_passage : Name → Event → Bool
is_passage object (By time task (Enter name values)) = same_name name.object object
is_passage object (By time task (Leave name values)) = same_name name.object object
is_passage object _ = false

-- whether there is one
abbrev pub is_passed : Name → List Event → Bool
is_passed object told = list_any (is_passage object) told

-- what a thread does inside an operation, from the events behind its entry
abbrev pub does_in : Name → List Event → List Deed
does_in task later = inside (steps_of task (moments later []))

-- a way that takes any ticks up to this number: that of an operation that is never left
abbrev pub endless : ℕ → Path
endless most = record (silent 0 []) { high = most }

-- the object of this name
abbrev pub object_named : Software → Name → Option Guarded
object_named w object = find (λ g. same_name g.name object) w.shared

-- the run of an operation of an object
abbrev pub body_in : Software → ℕ → (Name → Variables) → Name → List ℕ → List Deed → Option Guarded → Option Path
body_in w depth data' op values does None = None
body_in w depth data' op values does (Some g) = body_by w depth (data' g.name) values does (op_named g op)

-- the way through an operation, by whether its object is passed again
abbrev pub way_of : ℕ → Bool → Option Path → Path
way_of most false p = endless most
way_of most true None = endless most
way_of most true (Some p) = p

-- the way through the operation that an event enters
abbrev pub way_in : Software → ℕ → ℕ → (Name → Variables) → Event → List Event → Path
way_in w depth most data' (By time task (Enter name values)) later =
    way_of most (is_passed name.object later) (body_in w depth data' name.op values (does_in task later) (object_named w name.object))
way_in w depth most data' _ later = endless most

-- the data that an operation leaves
abbrev pub kept_in : Option Guarded → Path → Variables → Variables
kept_in None p vars = vars
kept_in (Some g) p vars = kept g.vars p.vars

-- the data of each object after an event
abbrev pub data_after : Software → (Name → Variables) → Event → Path → Name → Variables
data_after w data' (By time task (Enter name values)) p object =
    if same_name name.object object then kept_in (object_named w name.object) p (data' object) else data' object
data_after w data' _ p object = data' object

-- the ways through all operations that are entered, from these data on
abbrev pub ways_from : Software → ℕ → ℕ → (Name → Variables) → List Event → List Path
ways_from w depth most data' [] = []
ways_from w depth most data' (e ∷ later) =
    way_in w depth most data' e later ∷ ways_from w depth most (data_after w data' e (way_in w depth most data' e later)) later

-- the written data of each object
abbrev pub written_in : Software → Name → Variables
written_in w object = unwrap_or (option_map (λ g. written g.vars) (object_named w object)) []

-- the ticks that an event says were used
abbrev pub used_by : Deed → ℕ
used_by (End used) = used
used_by _ = 0

abbrev pub used_in : Event → ℕ
used_in (By time task deed) = used_by deed
used_in (Horizon time) = 0

-- the greatest of them
abbrev pub most_used : List Event → ℕ
most_used [] = 0
most_used (e ∷ told) = max (used_in e) (most_used told)

abbrev pub ways : Software → ℕ → List Event → List Path
ways w depth trace = ways_from w depth (most_used trace) (written_in w) trace

-- whether an object's operations are run one by one
unfoldable pub serves : Software → ℕ → List Event → Guarded → Bool
serves w depth trace g = one_by_one w depth g (written g.vars) (passages g.name (moments trace (ways w depth trace)))

-- SCRIPTS
-- the end of an activation, with the steps before it
pub record Ended : Type 0 where
  pub script : List Step
  pub end : Step
  pub used : ℕ

abbrev pub ended_at : Step → Deed → Option Ended
ended_at s (End used) = Some (record { script = []; end = s; used = used })
ended_at s _ = None

abbrev pub with_step : Step → Option Ended → Option Ended
with_step s None = None
with_step s (Some e) = Some (record { script = s ∷ e.script; end = e.end; used = e.used })

-- steps of which the last is an end
abbrev pub ended : List Step → Option Ended
ended [] = None
ended (s ∷ []) = ended_at s s.deed
ended (s ∷ t ∷ ss) = with_step s (ended (t ∷ ss))

-- whether a number of ticks lies between the least and the most of a run, of the operations that it enters and of the end
abbrev pub is_charged : Software → Activation → Path → ℕ → Bool
is_charged w a p used =
    nat_le (p.low + least_inside a.steps + w.costs.finish) used && nat_le used (p.high + most_inside a.steps + w.costs.finish)

abbrev pub is_nil : {A : Type 0} → List A → Bool
is_nil [] = true
is_nil (x ∷ xs) = false

-- an activation that has ended, by the run that its script shows
abbrev pub whole_by : (Activation → Bool) → Software → Task → Activation → Ended → Option Path → (Variables → Bool) → Bool
whole_by where' w t a e None next = false
whole_by where' w t a e (Some p) next =
    nat_le (a.time + e.used) e.end.time && (not (where' a) || is_charged w a p e.used) && next (kept t.vars p.vars)

-- an activation, by its end, where it has one
abbrev pub activation_by : (Activation → Bool) → Software → ℕ → Task → Variables → Activation → Bool → Option Ended → (Variables → Bool) → Bool
activation_by where' w depth t data' a last None next =
    begins w depth t.block (released_vars t a.value data') (map (λ s. s.deed) (outermost a.steps)) && last
activation_by where' w depth t data' a last (Some e) next =
    whole_by where' w t a e (run_of w depth t.block (released_vars t a.value data') (map (λ s. s.deed) e.script)) next

abbrev pub are_runs : (Activation → Bool) → Software → ℕ → Task → Variables → List Activation → Bool
are_runs where' w depth t data' [] = true
are_runs where' w depth t data' (a ∷ more) =
    activation_by where' w depth t data' a (is_nil more) (ended (outermost a.steps)) (λ d. are_runs where' w depth t d more)

-- whether an activation enters only objects that are served
unfoldable pub is_among_served : Software → ℕ → List Event → Activation → Bool
is_among_served w depth trace a = list_all (λ g. not (enters_in g.name a) || serves w depth trace g) w.shared

abbrev pub are_activations : (Activation → Bool) → Software → ℕ → Task → Activations → Bool
are_activations where' w depth t g = is_nil g.before && are_runs where' w depth t (written t.vars) g.activations

-- whether a thread's steps are activations
unfoldable pub follows : Software → ℕ → List Event → Task → Bool
follows w depth trace t =
    are_activations (is_among_served w depth trace) w depth t (grouped (placed 0 (steps_of t.name (moments trace (ways w depth trace)))))
