-- What a run tells has no stop, or one stop, at its end.
use Rattle.std.proofs.Common.{◌≡◌, ℕ, zero, suc, Bool, true, false, List, [], ◌∷◌, ◌++◌, Option, Some, None, refl, sym, ap, subst, ◌∙◌}
use Rattle.std.proofs.Common.{append_assoc, append-nil, inl, inr}
use Rattle.std.specs.Prelude.{◌⊎◌, ◌&&◌, ◌==◌, nat_lt, slice_get, if◌then◌else◌}
use Rattle.seq_tree.specs.Lists.{change, first_where}
use Rattle.seq_tree.specs.Variables.{Variables}
use Rattle.arrivals_tree.specs.declared.arrivals.Arrival.{Arrival}
use Rattle.arrivals_tree.specs.Arriving.{Arrivals}
use Rattle.ada_tree.specs.Programs.{Program}
use Rattle.trace_tree.specs.declared.event.Event.{Event}
use Rattle.trace_tree.specs.declared.event.Event.TheVariants as event
use Rattle.trace_tree.specs.Lines.{unit_name}
use Rattle.machine.specs.Systems.{System, system}
use Rattle.machine.specs.Pieces.{Piece}
use Rattle.machine.specs.Deeds.{Act, Silent, Print, Enter, Leave, Ask, Keep, Open, Ended, Finish, done}
use Rattle.machine.specs.States.{State, Task, Phase, Effects, Delays, Arriving, Use, Resource, Object, Control}
use Rattle.machine.specs.Dispatch.{dispatched}
use Rattle.machine.specs.Effects.{ceiling_of, section_unit, entered_at, stopped_at, entry, exit, ended, acted, object_unit}
use Rattle.machine.specs.Releases.{Next, release_task, release, is_waiting, serve_task, serve}
use Rattle.machine.specs.Steps.{goes_to, effect_of, effect_at, effect_step, is_due, delay_step, horizon_step, arrive_at, arrival_step, use_step}
use Rattle.machine.specs.Steps.{step_in, step}
use Rattle.machine.specs.Meanings.{run, Meaning}
use Rattle.machine.proofs.Shared.RunLaws.{stopped_stays}
use Rattle.law_lists.proofs.Shared.Lists.{each-append}
use Rattle.law_ceilings.specs.Ceilings.{GoesOn}
use Rattle.hrthood_top.specs.Violations.{RunsOut, EndsAt, Violation}

-- a step that tells a stop alone, behind which the run has stopped
record Stopping (next : Next) : Type 0 where
  time : ℕ
  task : ℕ
  object : ℕ
  priority : ℕ
  ceiling : ℕ
  tells : next.1 ≡ event.Stop time task object priority ceiling ∷ []
  stopped : next.0.stopped ≡ true

-- a step tells no stop, or a stop alone
abbrev Steps : Next → Type 0
Steps next = RunsOut next.1 ⊎ Stopping next

release-out : (y : System) (k : ℕ) (s : State) → RunsOut (release y k s).1
release-out y k s = by (slice_get s.tasks k)
  where
    by : (o : Option Task) → RunsOut (release_task y k o s).1
    by None = tt
    by (Some t) = (tt, tt)

serve-out : (y : System) (k : ℕ) (s : State) → RunsOut (serve y k s).1
serve-out y k s = by (slice_get s.tasks k)
  where
    by_test : (b : Bool) → RunsOut (if b then release y k s else (s, [])).1
    by_test true = release-out y k s
    by_test false = tt

    by : (o : Option Task) → RunsOut (serve_task y k o s).1
    by None = tt
    by (Some t) = by_test (is_waiting t.readiness && t.gate.open')

entry-steps : (y : System) (i : ℕ) (t : Task) (section : Resource) (told : List Event) (vars : Variables) (ps : List Piece) (s : State) → RunsOut told
    → Steps (entry y i t section told vars ps s)
entry-steps y i t section told vars ps s out = by (nat_lt (ceiling_of y section) t.active)
  where
    by : (b : Bool) → Steps (if b then stopped_at y t section s else entered_at y i section told vars ps s)
    by true = inr (record {
      time = s.time;
      task = t.thread.unit;
      object = section_unit y section;
      priority = t.active;
      ceiling = ceiling_of y section;
      tells = refl;
      stopped = refl;
    })
    by false = inl out

acted-steps : (y : System) (i : ℕ) (t : Task) (act : Act) (vars : Variables) (ps : List Piece) (s : State) → Steps (acted y i t act vars ps s)
acted-steps y i t Silent vars ps s = inl tt
acted-steps y i t (Print v) vars ps s = inl (tt, tt)
acted-steps y i t (Enter object op values) vars ps s
    = entry-steps y i t (Object object) (event.Enter s.time t.thread.unit (object_unit y object) op values ∷ []) vars ps s (tt, tt)
acted-steps y i t (Leave object op values data') vars ps s = inl (tt, tt)
acted-steps y i t (Ask task) vars ps s = entry-steps y i t (Control task) [] vars ps s tt
acted-steps y i t (Keep task v) vars ps s = inl tt
acted-steps y i t (Open task) vars ps s = inl tt
acted-steps y i t (Ended task v) vars ps s = inl (tt, serve-out y task (exit y i vars ps s))
acted-steps y i t Finish vars ps s = inl (tt, serve-out y i (record s { tasks = change i (ended vars) s.tasks }))

effect-steps : (y : System) (o : Option ℕ) (s : State) → Steps (effect_step y o s)
effect-steps y None s = inl tt
effect-steps y (Some i) s = at (slice_get s.tasks i)
  where
    by : (t : Task) (p : Piece) (ps : List Piece) (b : Bool)
        → Steps (if b then acted y i t (done y p t.vars ps).act (done y p t.vars ps).vars (done y p t.vars ps).pieces s else goes_to Delays s)
    by t p ps true = acted-steps y i t (done y p t.vars ps).act (done y p t.vars ps).vars (done y p t.vars ps).pieces s
    by t p ps false = inl tt

    of : (t : Task) (ps : List Piece) → Steps (effect_of y i t ps s)
    of t [] = inl tt
    of t (p ∷ ps) = by t p ps (t.left == 0)

    at : (o : Option Task) → Steps (effect_at y i o s)
    at None = inl tt
    at (Some t) = of t t.pieces

delay-steps : (y : System) (o : Option (ℕ × Task)) (s : State) → Steps (delay_step y o s)
delay-steps y None s = inl tt
delay-steps y (Some sleeper) s = inl (release-out y sleeper.0 s)

horizon-steps : (y : System) (s : State) → Steps (horizon_step y s)
horizon-steps y s = by (s.time == y.until)
  where
    by : (b : Bool) → Steps (if b then (record s { stopped = true }, event.Horizon s.time ∷ []) else goes_to Use s)
    by true = inl (tt, tt)
    by false = inl tt

arrival-steps : (y : System) (as' : List Arrival) (s : State) → Steps (arrival_step y as' s)
arrival-steps y [] s = horizon-steps y s
arrival-steps y (a ∷ others) s = by (a.time == s.time)
  where
    later : State
    later = record s { arrivals = others }

    at : (o : Option (ℕ × Task)) → Steps (arrive_at y a o later)
    at None = inl tt
    at (Some t) = inl (
      tt,
      serve-out y t.0 (record later {
        tasks
            = change t.0 (λ u. record u { gate = record { value = a.value; open' = true } }) later.tasks;
      }),
    )

    by : (b : Bool) → Steps (if b then arrive_at y a (first_where (λ t. t.thread.unit == a.task) s.tasks) later else horizon_step y s)
    by true = at (first_where (λ t. t.thread.unit == a.task) s.tasks)
    by false = horizon-steps y s

use-steps : (y : System) (o : Option ℕ) (s : State) → Steps (use_step y o s)
use-steps y None s = inl tt
use-steps y (Some i) s = inl tt

phase-steps : (y : System) (phase : Phase) (s : State) → Steps (step_in phase y s)
phase-steps y Effects s = effect-steps y s.ran s
phase-steps y Delays s = delay-steps y (first_where (λ t. is_due s.time t.readiness) s.tasks) s
phase-steps y Arriving s = arrival-steps y s.arrivals s
phase-steps y Use s = use-steps y (dispatched s.tasks s.orders) s

step-steps : (y : System) (s : State) → Steps (step y s)
step-steps y s = by s.stopped
  where
    by : (b : Bool) → Steps (if b then (s, []) else step_in s.phase y s)
    by true = inl tt
    by false = phase-steps y s.phase s

-- what ends with a stop
pub record EndsInStop (told : List Event) : Type 0 where
  pub front : List Event
  pub time : ℕ
  pub task : ℕ
  pub object : ℕ
  pub priority : ℕ
  pub ceiling : ℕ
  pub last : told ≡ front ++ event.Stop time task object priority ceiling ∷ []

-- a step that stops is the last
stops_there : (y : System) (n : ℕ) (next : Next) → Stopping next → EndsInStop (next.1 ++ (run y n next.0).1)
stops_there y n next h =
    let nothing : (run y n next.0).1 ≡ [] = ap (λ z. z.1) (stopped_stays y n next.0 h.stopped) in
    record {
      front = [];
      time = h.time;
      task = h.task;
      object = h.object;
      priority = h.priority;
      ceiling = h.ceiling;
      last = ap (λ es. next.1 ++ es) nothing ∙ append-nil next.1 ∙ h.tells;
    }

-- what a run tells behind a step that does not stop
behind : (es more : List Event) → RunsOut es → RunsOut more ⊎ EndsInStop more → RunsOut (es ++ more) ⊎ EndsInStop (es ++ more)
behind es more out (inl rest) = inl (each-append GoesOn es more out rest)
behind es more out (inr h) = inr (record {
  front = es ++ h.front;
  time = h.time;
  task = h.task;
  object = h.object;
  priority = h.priority;
  ceiling = h.ceiling;
  last = ap (λ z. es ++ z) h.last ∙ sym (append_assoc es h.front (event.Stop h.time h.task h.object h.priority h.ceiling ∷ []));
})

ends_by : (y : System) (n : ℕ) (next : Next) → Steps next → RunsOut (run y n next.0).1 ⊎ EndsInStop (run y n next.0).1
    → RunsOut (next.1 ++ (run y n next.0).1) ⊎ EndsInStop (next.1 ++ (run y n next.0).1)
ends_by y n next (inl out) rest = behind next.1 (run y n next.0).1 out rest
ends_by y n next (inr h) rest = inr (stops_there y n next h)

run-ends : (y : System) (n : ℕ) (s : State) → RunsOut (run y n s).1 ⊎ EndsInStop (run y n s).1
run-ends y zero s = inl tt
run-ends y (suc n) s = ends_by y n (step y s) (step-steps y s) (run-ends y n (step y s).0)

-- what ends with a stop violates a ceiling
pub violation_told : (p : Program) (told : List Event) → EndsInStop told → (v : Violation) × EndsAt p told v
violation_told p told h = (
  record { time = h.time; task = unit_name p h.task; object = unit_name p h.object; priority = h.priority; ceiling = h.ceiling },
  record { front = h.front; task = h.task; object = h.object; last = h.last; task_name = refl; object_name = refl },
)

-- what a program means comes to the horizon, or ends at a violated ceiling
pub meaning-ends : (p : Program) (a : Arrivals) (told : List Event) → Meaning p a told → RunsOut told ⊎ ((v : Violation) × EndsAt p told v)
meaning-ends p a told m = subst (λ es. RunsOut es ⊎ ((v : Violation) × EndsAt p es v)) m.tells (by (run-ends (system p a) m.steps _))
  where
    by : {es : List Event} → RunsOut es ⊎ EndsInStop es → RunsOut es ⊎ ((v : Violation) × EndsAt p es v)
    by (inl out) = inl out
    by {es} (inr h) = inr (violation_told p es h)

-- what ends at a violated ceiling has a stop
pub stop-told : (front : List Event) (time task object priority ceiling : ℕ)
    → RunsOut (front ++ event.Stop time task object priority ceiling ∷ []) → ⊥
stop-told [] time task object priority ceiling h = h.0
stop-told (e ∷ front) time task object priority ceiling h = stop-told front time task object priority ceiling h.1

pub runs-out-unstopped : (p : Program) (told : List Event) (v : Violation) → RunsOut told → EndsAt p told v → ⊥
runs-out-unstopped p told v out h = stop-told h.front v.time h.task h.object v.priority v.ceiling (subst RunsOut h.last out)

-- two stops at the end of one list are one
record SameStop (time task object priority ceiling time' task' object' priority' ceiling' : ℕ) : Type 0 where
  times : time ≡ time'
  tasks : task ≡ task'
  objects : object ≡ object'
  priorities : priority ≡ priority'
  ceilings : ceiling ≡ ceiling'

last-some : {A : Type 0} (x : A) (xs : List A) → [] ≡ xs ++ x ∷ [] → ⊥
last-some x [] e = cc
last-some x (y ∷ xs) e = cc

last-same : {A : Type 0} (a b : A) (xs ys : List A) → xs ++ a ∷ [] ≡ ys ++ b ∷ [] → a ≡ b
last-same a b [] [] e = cc
last-same a b [] (y ∷ ys) e = absurd (last-some b ys (let t : [] ≡ ys ++ b ∷ [] = cc in t))
last-same a b (x ∷ xs) [] e = absurd (last-some a xs (let t : [] ≡ xs ++ a ∷ [] = cc in t))
last-same a b (x ∷ xs) (y ∷ ys) e = last-same a b xs ys (let t : xs ++ a ∷ [] ≡ ys ++ b ∷ [] = cc in t)

stop-parts : (a b c d e a' b' c' d' e' : ℕ) → ◌≡◌ {A = Event} (event.Stop a b c d e) (event.Stop a' b' c' d' e') → SameStop a b c d e a' b' c' d' e'
stop-parts a b c d e a' b' c' d' e' h = record { times = cc; tasks = cc; objects = cc; priorities = cc; ceilings = cc }

violation-same : (t t' : ℕ) (a a' o o' : List ℕ) (q q' c c' : ℕ) → t ≡ t' → a ≡ a' → o ≡ o' → q ≡ q' → c ≡ c'
    → ◌≡◌ {A = Violation} (record { time = t; task = a; object = o; priority = q; ceiling = c })
    (record { time = t'; task = a'; object = o'; priority = q'; ceiling = c' })
violation-same t t' a a' o o' q q' c c' e f g h i = rw (e, f, g, h, i) refl

-- what is told ends at one violation
pub one-violation : (p : Program) (told : List Event) (v w : Violation) → EndsAt p told v → EndsAt p told w → v ≡ w
one-violation p told v w h k =
    let ends = last-same (event.Stop v.time h.task h.object v.priority v.ceiling) (event.Stop w.time k.task k.object w.priority w.ceiling) h.front
    k.front (sym h.last ∙ k.last) in
    let same = stop-parts v.time h.task h.object v.priority v.ceiling w.time k.task k.object w.priority w.ceiling ends in
    violation-same v.time w.time v.task w.task v.object w.object v.priority w.priority v.ceiling w.ceiling
    same.times (h.task_name ∙ ap (unit_name p) same.tasks ∙ sym k.task_name) (h.object_name ∙ ap (unit_name p) same.objects ∙ sym k.object_name)
    same.priorities same.ceilings
