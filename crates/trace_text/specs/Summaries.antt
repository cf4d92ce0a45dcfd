-- The summary of a trace: for each task how often it was released and ended and its greatest response, with a bound that was promised
-- for it, and how many events there were. A response is the time from a release to the task's next end.
-- The format is this project's own.
use Rattle.std.specs.Prelude.{ℕ, ◌-◌, List, [], ◌∷◌, ◌++◌, length, filter_map, flat_map, min, max, ◌==◌}
use Rattle.std.specs.Prelude.{if◌then◌else◌, Option, Some, None, option_to_list, codes, decimal}
use Rattle.std.specs.List.{enumerate_from}
use Rattle.seq_tree.specs.Names.{Name, same_name}
use Rattle.ada_tree.specs.Programs.{Program, Unit, is_task}
use Rattle.trace_tree.specs.declared.event.Event.{Event}
use Rattle.trace_tree.specs.declared.event.Event.TheVariants.{Release, End}
use Rattle.trace_text.specs.declared.bound.NamedBound.{NamedBound}

-- the time at which an event releases a task, where it does
abbrev pub release_time : ℕ → Event → Option ℕ
release_time task (Release time of value) = if of == task then Some time else None
release_time task _ = None

-- the time at which an event ends an activation of a task, where it does
abbrev pub end_time : ℕ → Event → Option ℕ
end_time task (End time of used) = if of == task then Some time else None
end_time task _ = None

-- the first that is there
abbrev pub sooner : Option ℕ → Option ℕ → Option ℕ
sooner (Some time) later = Some time
sooner None later = later

-- the time of the first end of a task
abbrev pub next_end : ℕ → List Event → Option ℕ
next_end task [] = None
next_end task (e ∷ told) = sooner (end_time task e) (next_end task told)

-- the response of a release and an end, where both are there; 0 where the time falls
abbrev pub response_of : Option ℕ → Option ℕ → Option ℕ
response_of (Some from) (Some to) = Some (to - from)
response_of (Some from) None = None
response_of None to = None

-- the responses of a task
abbrev pub responses : ℕ → List Event → List ℕ
responses task [] = []
responses task (e ∷ told) = option_to_list (response_of (release_time task e) (next_end task told)) ++ responses task told

-- the greatest of these, and 0 of none
abbrev pub greatest : List ℕ → ℕ
greatest [] = 0
greatest (n ∷ ns) = max n (greatest ns)

-- a count as it is kept, in 64 bits
abbrev pub kept_count : ℕ → ℕ
kept_count n = min n 18446744073709551615

-- the bound of this name, and 0 where there is none
abbrev pub bound_of : Name → List NamedBound → ℕ
bound_of name [] = 0
bound_of name (b ∷ bounds) = if same_name b.name name then b.response else bound_of name bounds

-- a number with the words before it
abbrev pub labelled : List ℕ → ℕ → List ℕ
labelled label n = label ++ decimal n

-- what was counted of a task
abbrev pub counts : (releases ends greatest' : ℕ) → List ℕ
counts releases ends greatest' = labelled (codes " releases ") releases ++ (labelled (codes " ends ") ends ++ labelled (codes " greatest ") greatest')

-- the line of a task
abbrev pub task_line : List NamedBound → Name → (releases ends greatest' : ℕ) → List ℕ
task_line bounds name releases ends greatest' =
    codes "thread " ++ (name ++ (counts releases ends greatest' ++ (labelled (codes " bound ") (bound_of name bounds) ++ codes "\n")))

-- the line of the unit at a place, where it is a task
abbrev pub unit_line : List NamedBound → List Event → ℕ × Unit → List ℕ
unit_line bounds told u =
    if is_task u.1.form then task_line bounds u.1.name (kept_count (length (filter_map (release_time u.0) told)))
    (kept_count (length (filter_map (end_time u.0) told))) (greatest (responses u.0 told))
    else []

-- the line of the count of events
abbrev pub count_line : ℕ → List ℕ
count_line n = labelled (codes "lines ") n ++ codes "\n"

-- the summary of a trace of a program
abbrev pub summary : Program → List NamedBound → List Event → List ℕ
summary p bounds told = flat_map (unit_line bounds told) (enumerate_from 0 p.units) ++ count_line (kept_count (length told))
