-- How far threads are while a trace is read, by the places of units.
use Rattle.std.specs.Prelude.{◌≡◌, ℕ, Bool, true, List, [], ◌∷◌, map, slice_get, option_map, Option, Some, None, ⊤}
use Rattle.seq_tree.specs.Lists.{change}
use Rattle.seq_tree.specs.Variables.{written}
use Rattle.ada_tree.specs.Programs.{Program}
use Rattle.trace_tree.specs.declared.event.Event as machine
use Rattle.trace_tree.specs.declared.event.Event.TheVariants as event
use Rattle.trace_tree.specs.Placed.{IsUnit}
use Rattle.guarantee.specs.Software.{Software, Task, program_software}
use Rattle.guarantee.specs.Events.{Event, named_event}
use Rattle.law_trace_places.specs.Places.{guarded_at, task_at, task_in}
use Rattle.law_traces.specs.Progress as laws
use Rattle.law_traces.specs.Progress.{is_well}
use Rattle.law_traces.specs.Services as services
use Rattle.law_traces.specs.Services.{is_served, is_sound}
use Rattle.trace_scripts.specs.Serving.{service_at}
use Rattle.trace_scripts.specs.Threads.{IsOf, progress_of, step_by}
use Rattle.trace_scripts.specs.declared.moves.Threads.{Threads}
use Rattle.trace_scripts.specs.declared.progress.Thread.{Thread}

-- a thread's task, where there is one
abbrev pub AreOf : Option Task → Option Thread → Type 0
AreOf None None = ⊤
AreOf None (Some h) = ⊥
AreOf (Some t) None = ⊥
AreOf (Some t) (Some h) = IsOf t h

-- whether the object that an event enters is served, by the states of objects behind the trace
abbrev pub good_at : Program → List services.Service → ℕ → Bool
good_at p os unit = is_served (λ g. is_sound (service_at unit os)) (guarded_at p unit)

abbrev pub good_with : Program → List services.Service → machine.Event → Bool
good_with p os (event.Enter time task unit op values) = good_at p os unit
good_with p os (event.Release time task value) = true
good_with p os (event.Arrive time task value) = true
good_with p os (event.Leave time task unit op values) = true
good_with p os (event.Request time task target value) = true
good_with p os (event.Print time task value) = true
good_with p os (event.End time task used) = true
good_with p os (event.Stop time task unit priority ceiling) = true
good_with p os (event.Horizon time) = true

-- one of its own events, where the unit has a thread
abbrev pub move_by : Program → ℕ → Bool → ℕ × ℕ → Event → Option Task → laws.Progress → laws.Progress
move_by p depth good charge e None s = s
move_by p depth good charge e (Some t) s = step_by p depth t good charge e s

abbrev pub moved_at : Program → ℕ → Bool → ℕ × ℕ → machine.Event → ℕ → List laws.Progress → List laws.Progress
moved_at p depth good charge e task ss = change task (move_by p depth good charge (named_event p e) (task_at p task)) ss

-- after an event; arrivals are no steps of their threads
unfoldable pub threads_with : Program → ℕ → Bool → machine.Event → ℕ × ℕ → List laws.Progress → List laws.Progress
threads_with p depth good (event.Release time task value) c ss = moved_at p depth good c (event.Release time task value) task ss
threads_with p depth good (event.Arrive time task value) c ss = ss
threads_with p depth good (event.Enter time task unit op values) c ss = moved_at p depth good c (event.Enter time task unit op values) task ss
threads_with p depth good (event.Leave time task unit op values) c ss = moved_at p depth good c (event.Leave time task unit op values) task ss
threads_with p depth good (event.Request time task target value) c ss = moved_at p depth good c (event.Request time task target value) task ss
threads_with p depth good (event.Print time task value) c ss = moved_at p depth good c (event.Print time task value) task ss
threads_with p depth good (event.End time task used) c ss = moved_at p depth good c (event.End time task used) task ss
threads_with p depth good (event.Stop time task unit priority ceiling) c ss =
    moved_at p depth good c (event.Stop time task unit priority ceiling) task ss
threads_with p depth good (event.Horizon time) c ss = ss

-- at first: every thread at its written data
abbrev pub idle_at_first : Option Task → laws.Progress
idle_at_first None = laws.Astray
idle_at_first (Some t) = laws.Idle (written t.vars)

abbrev pub threads_first : Program → List laws.Progress
threads_first p = map (λ u. idle_at_first (task_in u)) p.units

-- after these events, with the ticks of each
unfoldable pub threads_from : Program → ℕ → List services.Service → List machine.Event → List (ℕ × ℕ) → List laws.Progress → List laws.Progress
threads_from p depth os [] cs ss = ss
threads_from p depth os (e ∷ es) [] ss = ss
threads_from p depth os (e ∷ es) (c ∷ cs) ss = threads_from p depth os es cs (threads_with p depth (good_with p os e) e c ss)

abbrev pub threads_of : Program → List machine.Event → Threads → List laws.Progress
threads_of p es h = map (progress_of p es) h.states.items

-- whether the steps of a thread are activations, where the unit has one
abbrev pub well_by : Software → ℕ → Option Task → laws.Progress → Bool
well_by w depth None s = true
well_by w depth (Some t) s = is_well w depth t s

-- what is said of each thread, by how far units are
abbrev pub AreFollowing : Program → ℕ → List laws.Progress → (Task → Bool) → Type 0
AreFollowing p depth ss following = (u : ℕ) (t : Task) → IsUnit p u → task_at p u ≡ Some t
    → option_map (is_well (program_software p) depth t) (slice_get ss u) ≡ Some (following t)
