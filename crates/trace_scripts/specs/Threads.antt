-- How far a thread is, as the code holds it, and what a step changes of it.
use Rattle.std.specs.Prelude.{◌≡◌, ◌+◌, ◌&&◌, ◌||◌, ◌-◌, ◌==◌, ℕ, Bool, true, false, List, Option, Some, None, nat_le, not, if◌then◌else◌}
use Rattle.seq_tree.specs.Runs as runs
use Rattle.seq_tree.specs.Trees.{block_of}
use Rattle.ada_tree.specs.Programs.{Program}
use Rattle.guarantee.specs.Software.{Task, params_of, program_software}
use Rattle.guarantee.specs.Events.{Event, Release, By, Horizon}
use Rattle.law_traces.specs.Progress as laws
use Rattle.law_traces.specs.Progress.{after_deed, all_shown, is_good, step_on, with_last}
use Rattle.trace_tree.specs.declared.event.Event as machine
use Rattle.trace_scripts.specs.Scripts.{shown_of}
use Rattle.trace_scripts.specs.declared.progress.Course.{Course}
use Rattle.trace_scripts.specs.declared.progress.Progress.{Progress}
use Rattle.trace_scripts.specs.declared.progress.Progress.TheVariants.{Idle, Active, Astray}
use Rattle.trace_scripts.specs.declared.progress.Thread.{Thread}

abbrev pub course_of : Program → List machine.Event → Course → laws.Course
course_of p es c = record {
  time = c.time;
  value = c.value;
  depth = c.depth;
  shown = shown_of p es c.script;
  end = c.end;
  among = c.among;
  low = c.low;
  high = c.high;
}

-- its times and ticks alone
abbrev pub times_of : Course → laws.Course
times_of c = record {
  time = c.time;
  value = c.value;
  depth = c.depth;
  shown = None;
  end = c.end;
  among = c.among;
  low = c.low;
  high = c.high;
}

-- a thread's task
pub record IsOf (t : Task) (h : Thread) : Type 0 where
  pub params : params_of t.timing ≡ h.params.now
  pub vars : t.vars ≡ h.vars.now
  pub block : t.block ≡ block_of h.block.now

-- an activation after an event of its thread; the truth value says whether the object is served, where the event enters one
abbrev pub after_event : Program → Bool → ℕ × ℕ → Event → laws.Course → laws.Course
after_event p good charge (By time task deed) c = after_deed (program_software p) (is_good (λ object. good) deed) charge time deed c
after_event p good charge (Horizon time) c = c

-- whether the ticks of an activation are right: within the time since its release, and between the bounds where they are asked
abbrev pub charged_by : ℕ → laws.Course → (low high at used : ℕ) → Bool
charged_by finish c low high at used =
    nat_le (c.time + used) at && (not c.among || (nat_le (low + c.low + finish) used && nat_le used (high + c.high + finish)))

-- an activation after a deed that shows this action, where it stands outside of operations
abbrev pub seen_if : Bool → Option runs.Action → laws.Course → laws.Course
seen_if outside a c = record c {
  shown = if outside then with_last (all_shown c.shown c.end) a else c.shown;
  end = if outside then None else c.end;
}

-- after an entry
abbrev pub entered_if : Option runs.Action → Bool → ℕ × ℕ → laws.Course → laws.Course
entered_if a good charge c = record (seen_if (c.depth == 0) a c) {
  depth = c.depth + 1;
  among = c.among && good;
  low = c.low + (if good then charge.0 else 0);
  high = c.high + (if good then charge.1 else 0);
}

-- after an exit
abbrev pub left_if : Option runs.Action → laws.Course → laws.Course
left_if a c = record (seen_if (c.depth - 1 == 0) a c) { depth = c.depth - 1 }

-- after an end
abbrev pub finished_if : Bool → (time used : ℕ) → laws.Course → laws.Course
finished_if outside time used c = record c {
  shown = if outside then all_shown c.shown c.end else c.shown;
  end = if outside then Some (time, used) else c.end;
}

-- how far a thread is
abbrev pub progress_of : Program → List machine.Event → Progress → laws.Progress
progress_of p es (Idle env) = laws.Idle env.slots.items
progress_of p es (Active env course) = laws.Active env.slots.items (course_of p es course)
progress_of p es Astray = laws.Astray

-- after one of its own events
abbrev pub step_by : Program → ℕ → Task → Bool → ℕ × ℕ → Event → laws.Progress → laws.Progress
step_by p depth t good charge (By time task deed) s =
    step_on (program_software p) depth t (is_good (λ object. good) deed) charge time deed s
step_by p depth t good charge (Horizon time) s = s

-- the release that an event is
abbrev pub released_in : Event → Option (ℕ × Option ℕ)
released_in (By time task (Release value)) = Some (time, value)
released_in _ = None

-- whether an event is the end of the trace
abbrev pub is_at_horizon : Event → Bool
is_at_horizon (By time task deed) = false
is_at_horizon (Horizon time) = true
