-- The activations of a thread, one step at a time: what its current activation has shown, how many ticks the operations that it entered may
-- have taken, and whether each of these objects is served.
use Rattle.std.specs.Prelude.{ℕ, zero, ◌+◌, Bool, true, false, not, ◌&&◌, ◌||◌, ◌==◌, List, [], ◌∷◌, ◌++◌, Option, Some, None, is_some, nat_le}
use Rattle.std.specs.Prelude.{if◌then◌else◌}
use Rattle.seq_tree.specs.Names.{Name, same_name}
use Rattle.seq_tree.specs.Variables.{Variables, kept}
use Rattle.seq_tree.specs.Runs.{Action, Path}
use Rattle.guarantee.specs.Software.{Software, Task}
use Rattle.guarantee.specs.Events.{Deed, Release, Enter, End, Event, By, Horizon}
use Rattle.guarantee.specs.Steps.{depth_of, depth_after, is_own}
use Rattle.guarantee.specs.Scripts.{released_vars}
use Rattle.law_traces.specs.Checks.{action_of, run_along, begins_along}
use Rattle.law_traces.specs.Entries.{Shown}

-- an activation so far
pub record Course : Type 0 where
  -- its release
  pub time : ℕ
  pub value : Option ℕ
  -- how many operations the thread is inside
  pub depth : ℕ
  -- the script of what it did outside of operations, before an end that came last
  pub shown : Shown
  -- the time of that end and the ticks that it says were used
  pub end : Option (ℕ × ℕ)
  -- whether all objects that it entered are served
  pub among : Bool
  -- the fewest and the most ticks of the operations that it entered, where they are
  pub low : ℕ
  pub high : ℕ

-- how far a thread is
pub data Progress : Type 0 where
  -- it was not released, and its data are these
  Idle : (data' : Variables) → Progress
  -- it runs from these data
  Active : (data' : Variables) (course : Course) → Progress
  -- its steps are no activations
  Astray : Progress

-- an activation at its release
abbrev pub course_from : ℕ → Option ℕ → Course
course_from time value =
    record { time = time; value = value; depth = 0; shown = Some []; end = None; among = true; low = 0; high = 0 }

-- one action more
abbrev pub with_last : Shown → Option Action → Shown
with_last None a = None
with_last (Some as') None = None
with_last (Some as') (Some a) = Some (as' ++ a ∷ [])

-- the script with an end that came last: it shows none
abbrev pub all_shown : Shown → Option (ℕ × ℕ) → Shown
all_shown shown None = shown
all_shown shown (Some f) = None

-- the end that a deed is
abbrev pub end_by : ℕ → Deed → Option (ℕ × ℕ)
end_by time (End used) = Some (time, used)
end_by time _ = None

-- the script after a deed, where it isn't an end
abbrev pub shown_by : Software → Deed → Shown → Shown
shown_by w (End used) shown = shown
shown_by w d shown = with_last shown (action_of w d)

-- whether the object that a deed enters is served
abbrev pub is_good : (Name → Bool) → Deed → Bool
is_good served (Enter name values) = served name.object
is_good served _ = true

-- ticks of the way through the operation that a deed enters, where the object is served
abbrev pub ticks_by : Bool → Deed → ℕ → ℕ
ticks_by true (Enter name values) ticks = ticks
ticks_by _ _ ticks = 0

-- an activation after a deed, by whether it stands outside of operations
abbrev pub seen_at : Software → Bool → ℕ → Deed → Course → Course
seen_at w outside time deed c = record c {
  shown = if outside then shown_by w deed (all_shown c.shown c.end) else c.shown;
  end = if outside then end_by time deed else c.end;
}

-- an activation after the ticks of a deed
abbrev pub charged_in : Bool → ℕ × ℕ → Deed → Course → Course
charged_in good charge deed c = record c {
  depth = depth_after c.depth deed;
  among = c.among && good;
  low = c.low + ticks_by good deed charge.0;
  high = c.high + ticks_by good deed charge.1;
}

-- an activation after a deed
abbrev pub after_deed : Software → Bool → ℕ × ℕ → ℕ → Deed → Course → Course
after_deed w good charge time deed c = charged_in good charge deed (seen_at w (depth_of c.depth deed == 0) time deed c)

-- whether a number of ticks lies between the least and the most of a run, of the operations that were entered and of the end
abbrev pub is_within : Software → Course → Path → ℕ → Bool
is_within w c p used = nat_le (p.low + c.low + w.costs.finish) used && nat_le used (p.high + c.high + w.costs.finish)

-- the data that an activation leaves, by its run and its end
abbrev pub left_by : Software → Task → Course → Option Path → Option (ℕ × ℕ) → Option Variables
left_by w t c p None = None
left_by w t c None (Some f) = None
left_by w t c (Some p) (Some f) =
    if nat_le (c.time + f.1) f.0 && (not c.among || is_within w c p f.1) then Some (kept t.vars p.vars) else None

-- the data that an activation leaves, where it is a whole run and an end
abbrev pub left_by_course : Software → ℕ → Task → Variables → Course → Option Variables
left_by_course w depth t data' c = left_by w t c (run_along w depth t.block (released_vars t c.value data') c.shown) c.end

-- the next activation
abbrev pub again_by : ℕ → Option ℕ → Option Variables → Progress
again_by time value None = Astray
again_by time value (Some data') = Active data' (course_from time value)

-- a thread in an activation after a step at this depth
abbrev pub active_by : Software → ℕ → Task → Bool → ℕ × ℕ → ℕ → ℕ → Deed → Variables → Course → Progress
active_by w depth t good charge time zero (Release value) data' c = again_by time value (left_by_course w depth t data' c)
active_by w depth t good charge time _ deed data' c = Active data' (after_deed w good charge time deed c)

-- a thread that was not released after a step
abbrev pub idle_by : ℕ → Deed → Variables → Progress
idle_by time (Release value) data' = Active data' (course_from time value)
idle_by time _ data' = Astray

-- a thread after a step
abbrev pub step_on : Software → ℕ → Task → Bool → ℕ × ℕ → ℕ → Deed → Progress → Progress
step_on w depth t good charge time deed (Idle data') = idle_by time deed data'
step_on w depth t good charge time deed (Active data' c) = active_by w depth t good charge time (depth_of c.depth deed) deed data' c
step_on w depth t good charge time deed Astray = Astray

-- whether the last activation may stand
abbrev pub ends_by : Software → ℕ → Task → Variables → Course → Option (ℕ × ℕ) → Bool
ends_by w depth t data' c None = begins_along w depth t.block (released_vars t c.value data') c.shown
ends_by w depth t data' c (Some f) = is_some (left_by_course w depth t data' c)

-- whether a thread's steps are activations
abbrev pub is_well : Software → ℕ → Task → Progress → Bool
is_well w depth t (Idle data') = true
is_well w depth t (Active data' c) = ends_by w depth t data' c c.end
is_well w depth t Astray = false

-- a thread after an event, where the event is one of its own
abbrev pub moved_by : Software → ℕ → Task → (Name → Bool) → Event → ℕ × ℕ → Progress → Progress
moved_by w depth t served (By time task deed) charge s =
    if same_name task t.name && is_own deed then step_on w depth t (is_good served deed) charge time deed s else s
moved_by w depth t served (Horizon time) charge s = s

-- a thread after events, with the ticks of each
abbrev pub moved_from : Software → ℕ → Task → (Name → Bool) → List Event → List (ℕ × ℕ) → Progress → Progress
moved_from w depth t served [] cs s = s
moved_from w depth t served (e ∷ later) [] s = s
moved_from w depth t served (e ∷ later) (c ∷ cs) s = moved_from w depth t served later cs (moved_by w depth t served e c s)
