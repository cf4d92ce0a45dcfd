-- What is kept of the events that were noted, and how one more event changes it.
use Rattle.std.specs.Prelude.{ℕ, zero, suc, ◌+◌, ◌-◌, ◌<◌, List, [], ◌∷◌, ◌++◌, length, filter_map, min, max, if◌then◌else◌, Option}
use Rattle.std.specs.Prelude.{Some, None, option_to_list, ⊤}
use Rattle.seq_tree.specs.Lists.{change}
use Rattle.ada_tree.specs.Programs.{Unit, is_task}
use Rattle.trace_tree.specs.declared.event.Event.{Event}
use Rattle.trace_tree.specs.declared.event.Event.TheVariants.{Release, End}
use Rattle.trace_text.specs.declared.bound.NamedBound.{NamedBound}
use Rattle.trace_text.specs.declared.tally.Tally.{Tally}
use Rattle.trace_text.specs.Summaries.{end_time, greatest, kept_count, next_end, release_time, responses, task_line}

-- a release without an end behind it
abbrev pub unended : Option ℕ → Option ℕ → Option ℕ
unended release None = release
unended release (Some end') = None

-- the times of releases of a task without an end behind them
abbrev pub open_times : ℕ → List Event → List ℕ
open_times task [] = []
open_times task (e ∷ told) = option_to_list (unended (release_time task e) (next_end task told)) ++ open_times task told

-- the smaller of two, where the second is there
abbrev pub lower : ℕ → Option ℕ → ℕ
lower n None = n
lower n (Some m) = min n m

-- the least of these
abbrev pub least : List ℕ → Option ℕ
least [] = None
least (n ∷ ns) = Some (lower n (least ns))

-- what is kept of a task
abbrev pub tally : List Event → ℕ → Tally
tally told task = record {
  releases = kept_count (length (filter_map (release_time task) told));
  ends = kept_count (length (filter_map (end_time task) told));
  greatest = greatest (responses task told);
  waiting = least (open_times task told);
}

-- what is kept of so many tasks from a place on
abbrev pub tallies_from : ℕ → ℕ → List Event → List Tally
tallies_from place zero told = []
tallies_from place (suc n) told = tally told place ∷ tallies_from (suc place) n told

-- what is kept of tasks, and of all events
pub record Tallies : Type 0 where
  pub tasks : List Tally
  pub lines : ℕ

-- what is kept of events where there are so many units
abbrev pub tallies : ℕ → List Event → Tallies
tallies size told = record { tasks = tallies_from 0 size told; lines = kept_count (length told) }

-- how long a release waited for an end at this time
abbrev pub waited : ℕ → Option ℕ → ℕ
waited time None = 0
waited time (Some from) = time - from

-- after a release
abbrev pub released : ℕ → Tally → Tally
released time t = record { releases = kept_count (t.releases + 1); ends = t.ends; greatest = t.greatest; waiting = Some (lower time t.waiting) }

-- after an end
abbrev pub ended : ℕ → Tally → Tally
ended time t = record { releases = t.releases; ends = kept_count (t.ends + 1); greatest = max t.greatest (waited time t.waiting); waiting = None }

-- after an event
abbrev pub tasks_after : Event → List Tally → List Tally
tasks_after (Release time task value) ts = change task (released time) ts
tasks_after (End time task used) ts = change task (ended time) ts
tasks_after _ ts = ts

-- the task that an event releases or ends is one of so many
abbrev pub IsBelow : ℕ → Event → Type 0
IsBelow size (Release time task value) = task < size
IsBelow size (End time task used) = task < size
IsBelow size _ = ⊤

-- the lines of units, with what is kept of them
abbrev pub tally_lines : List NamedBound → List Unit → List Tally → List ℕ
tally_lines bounds [] ts = []
tally_lines bounds (u ∷ us) [] = []
tally_lines bounds (u ∷ us) (t ∷ ts) =
    (if is_task u.form then task_line bounds u.name t.releases t.ends t.greatest else []) ++ tally_lines bounds us ts

-- after an event
abbrev pub noted : Event → Tallies → Tallies
noted e t = record { tasks = tasks_after e t.tasks; lines = kept_count (t.lines + 1) }
