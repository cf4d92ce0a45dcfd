-- What releases and effects keep and tell: threads and the time stay, and every event is one of a thread at this time.
use Rattle.std.specs.Prelude.{◌≡◌, ◌⊎◌, ℕ, zero, suc, Bool, true, false, ◌&&◌, ◌||◌, List, [], ◌∷◌, map, nat_lt, Option, Some, None, slice_get}
use Rattle.std.specs.Prelude.{option_map, ⊤, refl, if◌then◌else◌}
use Rattle.std.specs.List.{list_any}
use Rattle.std.proofs.Common.{sym, ◌∙◌, ap, inl, inr}
use Rattle.std.proofs.lemmas.Option.{slice_get-map}
use Rattle.seq_tree.specs.Lists.{change, Each}
use Rattle.seq_tree.specs.Variables.{Variables}
use Rattle.trace_tree.specs.declared.event.Event.{Event}
use Rattle.trace_tree.specs.declared.event.Event.TheVariants as event
use Rattle.machine.specs.Systems.{System, TaskUnit}
use Rattle.machine.specs.Pieces.{Piece}
use Rattle.machine.specs.Deeds.{Act, Silent, Print, Enter, Leave, Ask, Keep, Open, Ended, Finish}
use Rattle.machine.specs.States.{State, Task, Resource, Object, Control}
use Rattle.machine.specs.Releases.{Next, after, going, released, release_task, release, is_waiting, serve_task, serve}
use Rattle.machine.specs.Effects.{acted, entry, entered_at, stopped_at, exit, go, ended, inside_now, outside_now, lent, ceiling_of, task_unit}
use Rattle.law_calls.proofs.Shared.Tasks.{going-thread, released-thread, outside-thread}

-- the threads of tasks
abbrev pub threads_of : List Task → List TaskUnit
threads_of ts = map (λ t. t.thread) ts

-- a unit of one of these threads
abbrev pub HasUnit : List TaskUnit → ℕ → Type 0
HasUnit ths unit = (k : ℕ) × (th : TaskUnit) × (slice_get ths k ≡ Some th) × (th.unit ≡ unit)

-- an event of a thread at this time, or a stop
abbrev pub IsNow : List TaskUnit → ℕ → Event → Type 0
IsNow ths now (event.Release time task value) = (time ≡ now) × HasUnit ths task
IsNow ths now (event.Arrive time task value) = (time ≡ now) × HasUnit ths task
IsNow ths now (event.Enter time task unit op values) = (time ≡ now) × HasUnit ths task
IsNow ths now (event.Leave time task unit op values) = (time ≡ now) × HasUnit ths task
IsNow ths now (event.Request time task target value) = (time ≡ now) × HasUnit ths task
IsNow ths now (event.Print time task value) = (time ≡ now) × HasUnit ths task
IsNow ths now (event.End time task used) = (time ≡ now) × HasUnit ths task
IsNow ths now (event.Stop time task unit priority ceiling) = ⊤
IsNow ths now (event.Horizon time) = ⊥

-- whether an event is a stop
abbrev pub is_stopping : Event → Bool
is_stopping (event.Stop time task unit priority ceiling) = true
is_stopping _ = false

-- what goes on within an instant
pub record Goes (ths : List TaskUnit) (s : State) (next : Next) : Type 0 where
  pub threads : threads_of next.0.tasks ≡ ths
  pub time : next.0.time ≡ s.time
  pub phase : next.0.phase ≡ s.phase
  pub told : Each (IsNow ths s.time) next.1
  pub stops : (next.0.stopped ≡ s.stopped) ⊎ (list_any is_stopping next.1 ≡ true)

-- threads through a change
pub change-threads : (i : ℕ) (f : Task → Task) (ts : List Task) → ((t : Task) → (f t).thread ≡ t.thread) → threads_of (change i f ts) ≡ threads_of ts
change-threads i f [] same = refl
change-threads zero f (t ∷ ts) same = ap (λ th. th ∷ threads_of ts) (same t)
change-threads (suc i) f (t ∷ ts) same = ap (λ ths. t.thread ∷ ths) (change-threads i f ts same)

-- the unit of a task
pub unit_of : (ths : List TaskUnit) (ts : List Task) (i : ℕ) (t : Task) → slice_get ts i ≡ Some t → threads_of ts ≡ ths → HasUnit ths t.thread.unit
unit_of ths ts i t here same =
    (i, t.thread, ap (λ hs. slice_get hs i) (sym same) ∙ slice_get-map (λ u. u.thread) ts i ∙ ap (option_map (λ u. u.thread)) here, refl)

-- nothing
stays : (ths : List TaskUnit) (s : State) → threads_of s.tasks ≡ ths → Goes ths s (s, [])
stays ths s same = record { threads = same; time = refl; phase = refl; told = tt; stops = inl refl }

-- from a state that differs in its tasks, order numbers and stores alone
from_moved : (ths : List TaskUnit) (s s' : State) (next : Next) → s'.time ≡ s.time → s'.phase ≡ s.phase → s'.stopped ≡ s.stopped → Goes ths s' next
    → Goes ths s next
from_moved ths s s' next time phase stopped g = record {
  threads = g.threads;
  time = g.time ∙ time;
  phase = g.phase ∙ phase;
  told = rw (← time) g.told;
  stops = elim g.stops [ inl e ↦ inl (e ∙ stopped) | inr e ↦ inr e ];
}

-- an event before
told_before : (ths : List TaskUnit) (s : State) (e : Event) (next : Next) → IsNow ths s.time e → is_stopping e ≡ false → Goes ths s next
    → Goes ths s (after (e ∷ []) next)
told_before ths s e next now quiet g = record {
  threads = g.threads;
  time = g.time;
  phase = g.phase;
  told = (now, g.told);
  stops = elim g.stops [ inl h ↦ inl h | inr h ↦ inr (ap (λ b. b || list_any is_stopping next.1) quiet ∙ h) ];
}

-- a release
pub release_task-goes : (y : System) (ths : List TaskUnit) (i : ℕ) (o : Option Task) (s : State) → slice_get s.tasks i ≡ o → threads_of s.tasks ≡ ths
    → Goes ths s (release_task y i o s)
release_task-goes y ths i None s here same = stays ths s same
release_task-goes y ths i (Some t) s here same = record {
  threads = change-threads i (released y.costs) s.tasks (released-thread y.costs) ∙ same;
  time = refl;
  phase = refl;
  told = ((refl, unit_of ths s.tasks i t here same), tt);
  stops = inl refl;
}

pub release-goes : (y : System) (ths : List TaskUnit) (i : ℕ) (s : State) → threads_of s.tasks ≡ ths → Goes ths s (release y i s)
release-goes y ths i s same = release_task-goes y ths i (slice_get s.tasks i) s refl same

serve_task-goes : (y : System) (ths : List TaskUnit) (i : ℕ) (o : Option Task) (s : State) → threads_of s.tasks ≡ ths
    → Goes ths s (serve_task y i o s)
serve_task-goes y ths i None s same = stays ths s same
serve_task-goes y ths i (Some t) s same = by (is_waiting t.readiness && t.gate.open')
  where
    by : (b : Bool) → Goes ths s (if b then release y i s else (s, []))
    by true = release-goes y ths i s same
    by false = stays ths s same

pub serve-goes : (y : System) (ths : List TaskUnit) (i : ℕ) (s : State) → threads_of s.tasks ≡ ths → Goes ths s (serve y i s)
serve-goes y ths i s same = serve_task-goes y ths i (slice_get s.tasks i) s same

-- an entry
entry-goes : (y : System) (ths : List TaskUnit) (i : ℕ) (t : Task) (section : Resource) (told : List Event) (vars : Variables) (ps : List Piece)
    (s : State)
    → Each (IsNow ths s.time) told → threads_of s.tasks ≡ ths → Goes ths s (entry y i t section told vars ps s)
entry-goes y ths i t section told vars ps s now same = by section (nat_lt (ceiling_of y section) t.active)
  where
    by : (c : Resource) (b : Bool) → Goes ths s (if b then stopped_at y t c s else entered_at y i c told vars ps s)
    by c true = record { threads = same; time = refl; phase = refl; told = (tt, tt); stops = inr refl }
    by (Object object) false = record {
      threads = change-threads i (λ u. going y.costs (lent (Object object) s vars) ps
          (inside_now (Object object) (ceiling_of y (Object object)) u)) s.tasks
          (λ u. going-thread y.costs (lent (Object object) s vars) ps (inside_now (Object object) (ceiling_of y (Object object)) u)) ∙ same;
      time = refl;
      phase = refl;
      told = now;
      stops = inl refl;
    }
    by (Control task) false = record {
      threads = change-threads i (λ u. going y.costs vars ps (inside_now (Control task) (ceiling_of y (Control task)) u)) s.tasks
          (λ u. going-thread y.costs vars ps (inside_now (Control task) (ceiling_of y (Control task)) u)) ∙ same;
      time = refl;
      phase = refl;
      told = now;
      stops = inl refl;
    }

-- the threads after an exit and as a task goes on
exit-threads : (y : System) (i : ℕ) (vars : Variables) (ps : List Piece) (s : State) → threads_of (exit y i vars ps s).tasks ≡ threads_of s.tasks
exit-threads y i vars ps s =
    change-threads i (λ u. going y.costs vars ps (outside_now u)) s.tasks
    (λ u. going-thread y.costs vars ps (outside_now u) ∙ outside-thread u.inside u)

go-threads : (y : System) (i : ℕ) (vars : Variables) (ps : List Piece) (s : State) → threads_of (go y i vars ps s).tasks ≡ threads_of s.tasks
go-threads y i vars ps s = change-threads i (going y.costs vars ps) s.tasks (going-thread y.costs vars ps)

-- a deed
pub acted-goes : (y : System) (ths : List TaskUnit) (i : ℕ) (t : Task) (act : Act) (vars : Variables) (ps : List Piece) (s : State)
    → slice_get s.tasks i ≡ Some t → threads_of s.tasks ≡ ths → Goes ths s (acted y i t act vars ps s)
acted-goes y ths i t Silent vars ps s here same =
    record { threads = go-threads y i vars ps s ∙ same; time = refl; phase = refl; told = tt; stops = inl refl }
acted-goes y ths i t (Print v) vars ps s here same =
    record {
      threads = go-threads y i vars ps s ∙ same;
      time = refl;
      phase = refl;
      told = ((refl, unit_of ths s.tasks i t here same), tt);
      stops = inl refl;
    }
acted-goes y ths i t (Enter object op values) vars ps s here same =
    entry-goes y ths i t (Object object) _ vars ps s ((refl, unit_of ths s.tasks i t here same), tt) same
acted-goes y ths i t (Leave object op values data') vars ps s here same =
    record {
      threads = exit-threads y i vars ps s ∙ same;
      time = refl;
      phase = refl;
      told = ((refl, unit_of ths s.tasks i t here same), tt);
      stops = inl refl;
    }
acted-goes y ths i t (Ask task) vars ps s here same = entry-goes y ths i t (Control task) [] vars ps s tt same
acted-goes y ths i t (Keep task v) vars ps s here same = record {
  threads = change-threads task (λ u. record u { gate = record u.gate { value = v } }) (go y i vars ps s).tasks (λ u.
      refl) ∙ go-threads y i vars ps s ∙ same;
  time = refl;
  phase = refl;
  told = tt;
  stops = inl refl;
}
acted-goes y ths i t (Open task) vars ps s here same = record {
  threads = change-threads task (λ u. record u { gate = record u.gate { open' = true } }) (go y i vars ps s).tasks (λ u.
      refl) ∙ go-threads y i vars ps s ∙ same;
  time = refl;
  phase = refl;
  told = tt;
  stops = inl refl;
}
acted-goes y ths i t (Ended task v) vars ps s here same =
    told_before ths s (event.Request s.time t.thread.unit (task_unit y task) v) (serve y task (exit y i vars ps s))
    (refl, unit_of ths s.tasks i t here same) refl
    (from_moved ths s (exit y i vars ps s) _ refl refl refl (serve-goes y ths task (exit y i vars ps s) (exit-threads y i vars ps s ∙ same)))
acted-goes y ths i t Finish vars ps s here same =
    told_before ths s (event.End s.time t.thread.unit t.used) (serve y i (record s { tasks = change i (ended vars) s.tasks }))
    (refl, unit_of ths s.tasks i t here same) refl
    (from_moved ths s (record s { tasks = change i (ended vars) s.tasks }) _ refl refl refl
    (serve-goes y ths i (record s { tasks = change i (ended vars) s.tasks }) (change-threads i (ended vars) s.tasks (λ u. refl) ∙ same)))
