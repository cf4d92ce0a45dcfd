-- What releases and effects keep of a state: the time, the part of the instant, the task that ran and the arrivals.
use Rattle.std.specs.Prelude.{◌≡◌, ℕ, Bool, true, false, ◌&&◌, List, [], nat_lt, slice_get, Option, Some, None, if◌then◌else◌, refl}
use Rattle.seq_tree.specs.Lists.{change}
use Rattle.seq_tree.specs.Variables.{Variables}
use Rattle.trace_tree.specs.declared.event.Event.{Event}
use Rattle.machine.specs.Systems.{System}
use Rattle.machine.specs.Pieces.{Piece}
use Rattle.machine.specs.Deeds.{Act, Silent, Print, Enter, Leave, Ask, Keep, Open, Ended, Finish}
use Rattle.machine.specs.States.{State, Task, Resource, Object, Control}
use Rattle.machine.specs.Releases.{release, release_task, serve, serve_task, is_waiting}
use Rattle.machine.specs.Effects.{acted, entry, entered_at, stopped_at, exit, ended, ceiling_of}

-- what stays
pub record IsSame (s s' : State) : Type 0 where
  pub time : s'.time ≡ s.time
  pub phase : s'.phase ≡ s.phase
  pub ran : s'.ran ≡ s.ran
  pub arrivals : s'.arrivals ≡ s.arrivals

same : (s : State) → IsSame s s
same s = record { time = refl; phase = refl; ran = refl; arrivals = refl }

pub release_task-same : (y : System) (i : ℕ) (o : Option Task) (s : State) → IsSame s (release_task y i o s).0
release_task-same y i None s = same s
release_task-same y i (Some t) s = record { time = refl; phase = refl; ran = refl; arrivals = refl }

pub release-same : (y : System) (i : ℕ) (s : State) → IsSame s (release y i s).0
release-same y i s = release_task-same y i (slice_get s.tasks i) s

serve_task-same : (y : System) (i : ℕ) (o : Option Task) (s : State) → IsSame s (serve_task y i o s).0
serve_task-same y i None s = same s
serve_task-same y i (Some t) s = by (is_waiting t.readiness && t.gate.open')
  where
    by : (b : Bool) → IsSame s (if b then release y i s else (s, [])).0
    by true = release-same y i s
    by false = same s

pub serve-same : (y : System) (i : ℕ) (s : State) → IsSame s (serve y i s).0
serve-same y i s = serve_task-same y i (slice_get s.tasks i) s

entry-same : (y : System) (i : ℕ) (t : Task) (c : Resource) (told : List Event) (vars : Variables) (ps : List Piece) (s : State)
    → IsSame s (entry y i t c told vars ps s).0
entry-same y i t c told vars ps s = by c (nat_lt (ceiling_of y c) t.active)
  where
    by : (z : Resource) (b : Bool) → IsSame s (if b then stopped_at y t z s else entered_at y i z told vars ps s).0
    by z true = record { time = refl; phase = refl; ran = refl; arrivals = refl }
    by (Object k) false = record { time = refl; phase = refl; ran = refl; arrivals = refl }
    by (Control k) false = record { time = refl; phase = refl; ran = refl; arrivals = refl }

pub acted-same : (y : System) (i : ℕ) (t : Task) (a : Act) (vars : Variables) (ps : List Piece) (s : State) → IsSame s (acted y i t a vars ps s).0
acted-same y i t Silent vars ps s = record { time = refl; phase = refl; ran = refl; arrivals = refl }
acted-same y i t (Print v) vars ps s = record { time = refl; phase = refl; ran = refl; arrivals = refl }
acted-same y i t (Enter object op values) vars ps s = entry-same y i t (Object object) _ vars ps s
acted-same y i t (Leave object op values data') vars ps s = record { time = refl; phase = refl; ran = refl; arrivals = refl }
acted-same y i t (Ask task) vars ps s = entry-same y i t (Control task) [] vars ps s
acted-same y i t (Keep task v) vars ps s = record { time = refl; phase = refl; ran = refl; arrivals = refl }
acted-same y i t (Open task) vars ps s = record { time = refl; phase = refl; ran = refl; arrivals = refl }
acted-same y i t (Ended task v) vars ps s =
    let s' : State = exit y i vars ps s in
    let r : IsSame s' (serve y task s').0 = serve-same y task s' in
    record { time = r.time; phase = r.phase; ran = r.ran; arrivals = r.arrivals }
acted-same y i t Finish vars ps s =
    let s' : State = record s { tasks = change i (ended vars) s.tasks } in
    let r : IsSame s' (serve y i s').0 = serve-same y i s' in
    record { time = r.time; phase = r.phase; ran = r.ran; arrivals = r.arrivals }
