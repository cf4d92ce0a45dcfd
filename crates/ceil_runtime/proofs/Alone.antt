-- A task that goes on alone: what many ticks and their empty parts come to, and how its steps follow each other.
use Rattle.std.specs.Prelude.{◌≡◌, ◌⊎◌, ℕ, zero, suc, ◌+◌, ◌-◌, ◌*◌, ◌<◌, ◌≤◌, max, false, nat_le, nat_lt, if◌then◌else◌, List, [], ◌∷◌}
use Rattle.std.specs.Prelude.{drop, map, set, Option, Some, None, option_map, slice_get, refl}
use Rattle.std.proofs.Common.{sym, ◌∙◌, ap, subst, arith, inl, inr}
use Rattle.std.proofs.lemmas.Bool.Decides.{nat_tests}
use Rattle.std.proofs.lemmas.Option.{same_Some, slice_get-map}
use Rattle.seq_tree.specs.Variables.{Variables}
use Rattle.seq_tree.specs.declared.tree.Costs.{Costs}
use Rattle.ada_tree.specs.declared.program.Unit as units
use Rattle.arrivals_tree.specs.declared.arrivals.Arrival.{Arrival}
use Rattle.link_queue.specs.Queues.{Each, Entry, IsOrdered, Queues, WakesBefore, at_head, due, outranks, put_behind}
use Rattle.link_queue.proofs.Shared.Lists.{each-map}
use Rattle.machine.specs.Systems.{System}
use Rattle.machine.specs.States as states
use Rattle.law_dispatching.specs.Jumping.{NoArrival}
use Rattle.law_dispatching.specs.Queueing.{AreSleeping, SleepsUntil}
use Rattle.ceil_runtime.specs.Acted.{IsActing}
use Rattle.task_runtime.specs.Alongs.{HasDone, OneAlong, SoMany}
use Rattle.ceil_runtime.specs.Alone.{GoesAlone, IsAlone, threads_at}
use Rattle.task_runtime.specs.Effort.{most_ends}
use Rattle.ceil_runtime.specs.Left.{ran_effort}
use Rattle.ceil_runtime.specs.Processing.{Follows, IsBelow, IsSound, IsWithin, state_by, system_by}
use Rattle.ceil_runtime.specs.Snapshots.{AreAtWork, IsWholeAt, Snapshot, running_at}
use Rattle.ceil_runtime.specs.Stepping.{AreOfTask, HasObject, HasOp, HasUnit, IsNear, IsOfTask, Nothing, One, Steps, steps_by, Told, told_of, Two}
use Rattle.task_runtime.specs.Works.{used_ticks}
use Rattle.task_runtime.specs.Tasks.{task_of}
use Rattle.task_runtime.specs.Written.{system_of}
use Rattle.linker.specs.declared.program.LinkedUnits.{LinkedUnits}
use Rattle.task_runtime.specs.declared.effects.Act.TheVariants as acts
use Rattle.trace_tree.specs.declared.event.Event.{Event}
use Rattle.trace_tree.specs.declared.event.Event.TheVariants as event
use Rattle.ceil_runtime.specs.declared.processor.Phase.TheVariants.{Effects, Delays, Arriving, Use}
use Rattle.task_runtime.specs.declared.task.Task.{Task}
use Rattle.task_runtime.specs.declared.thread.Thread.{Thread}
use Rattle.ceil_runtime.proofs.Aheads.{wake-most}
use Rattle.ceil_runtime.proofs.Advancing.{follows-none, follows-then}
use Rattle.ceil_runtime.proofs.Effected.{end-run, end-sound}
use Rattle.ceil_runtime.proofs.Falling.{falls-use, left_by}
use Rattle.ceil_runtime.proofs.Nearing.{nears-ticks, ran-few}
use Rattle.ceil_runtime.proofs.Phases.{acting, in-acting}
use Rattle.ceil_runtime.proofs.Processed.{Changed, arriving-goes, changed-system, follows-of, get-put, get-set_same, get_within, same-at-work}
use Rattle.ceil_runtime.proofs.Processed.{set-twice, still-reached, use-run, use-sound}
use Rattle.ceil_runtime.proofs.Released.{delays-over, going-active}
use Rattle.ceil_runtime.proofs.Stepped.{going-step}
use Rattle.task_runtime.proofs.Shared.TasksAtWork.{nests-going}

-- put before its equals, a task that no other goes before is the first
ahead-of : (i active : ℕ) (ready : List Entry) → IsBelow active ready → at_head (i, active) ready ≡ (i, active) ∷ ready
ahead-of i active [] below = refl
ahead-of i active (e ∷ es) below =
    ap (λ b. if b then e ∷ put_behind (outranks (i, active)) (i, active) es else (i, active) ∷ e ∷ es) (not_less active e.1 below)
  where
    not_less : (m n : ℕ) → n ≤ m → nat_lt m n ≡ false
    not_less m n h = grind (arith, nat_tests)

-- no sleeper is due before its time
none-due_yet : (time : ℕ) (asleep : List Entry) → Each (λ e. time < e.1) asleep → None ≡ due time asleep
none-due_yet time [] later = refl
none-due_yet time (e ∷ es) later = ap (λ b. if b then Some e.0 else None) (sym (not_yet e.1 time later.0))
  where
    not_yet : (m n : ℕ) → n < m → nat_le m n ≡ false
    not_yet m n h = grind (arith, nat_tests)

-- all ticks that are left of a task's piece, from the effects of one instant to those of the last one
module _ (stores : List Variables) (arrivals : List Arrival) (until time : ℕ) (costs : Costs) (us : List units.Unit) (i : ℕ) (tasks : List Task)
    (q : Queues) (sound : IsSound until time (Effects (Some i)) (Some i) us tasks q) (t t' : Task) (tasks' : List Task) (ticks : ℕ)
    (c : Changed tasks tasks' i t t' (used_ticks ticks)) (all : t.left ≡ ticks) (some : 0 < ticks) (horizon : time + ticks ≤ until)
    (wake : Each (λ e. time + ticks ≤ e.1) q.asleep) (quiet : (n : ℕ) → time ≤ n → n < time + ticks → NoArrival n arrivals)
    (below : IsBelow t.active q.ready) (ready : t'.readiness ≡ t.readiness) (code : LinkedUnits) (at_work' : AreAtWork code tasks') where
  abbrev ahead : List Entry
  ahead = at_head (i, (task_of t).active) q.ready

  ahead-is : ahead ≡ (i, t.active) ∷ q.ready
  ahead-is = ahead-of i t.active q.ready below

  abbrev queue : Queues
  queue = record q { ready = ahead }

  abbrev runs : System
  runs = system_by until costs us tasks

  later : Each (λ e. time < e.1) q.asleep
  later = each-map (λ e. time + ticks ≤ e.1) (λ e. time < e.1) q.asleep (λ e h. omega (arith, h, some)) wake

  delays : IsSound until time Delays (Some i) us tasks queue
  delays = end-sound until time us i (Some i) tasks q sound t c.here queue refl

  using : IsSound until time Use (Some i) us tasks queue
  using = record {
    size = delays.size;
    queued = delays.queued;
    sleeping = delays.sleeping;
    kept = delays.kept;
    here = (omega (arith, some, horizon), later);
    near = delays.near;
    few = delays.few;
    calls = delays.calls;
    in_time = delays.in_time;
  }

  first : ◌≡◌ {A = Option Entry} (slice_get queue.ready 0) (Some (i, t.active))
  first = ap (λ es. slice_get es 0) ahead-is

  others : drop 1 queue.ready ≡ q.ready
  others = ap (drop 1) ahead-is

  same_left : (u : Task) → slice_get tasks i ≡ Some u → ticks ≤ u.left
  same_left u at = let same : t.left ≡ u.left = ap (λ (v : Task). v.left) (same_Some t u (sym c.here ∙ at)) in omega (arith, same, all)

  within : IsWithin tasks queue.ready ticks
  within = subst (λ es. IsWithin tasks es ticks) (sym ahead-is) (λ u at. inr (same_left u at))

  quiet_ahead : (j : ℕ) → j < ticks - 1 → NoArrival (time + suc j) arrivals
  quiet_ahead j h = quiet (time + suc j) (omega arith) (omega (arith, h, some))

  lefts : t'.left ≡ t.left - ticks
  lefts = ap (λ u. u.left) c.does

  uses : t'.used ≡ t.used + ticks
  uses = ap (λ u. u.used) c.does

  works_are : t'.works ≡ t.works
  works_are = ap (λ u. u.works) c.does

  nexts : t'.next ≡ t.next
  nexts = ap (λ u. u.next) c.does

  pub passed-sound : IsSound until (time + ticks) (Effects (Some i)) (Some i) us tasks' q
  passed-sound = use-sound stores arrivals until time costs us (Some i) tasks queue using ticks some horizon wake quiet_ahead i t.active tasks' t t' c
      first within lefts uses works_are nexts ready q (ap (λ es. record q { ready = es }) (sym others))

  ended : Follows (record { system = runs; state = state_by stores arrivals time (Effects (Some i)) (Some i) false tasks q.ready }) []
      (record { system = runs; state = state_by stores arrivals time Delays (Some i) false tasks ahead })
  ended = follows-of runs runs 1 _ _ _ _ [] refl
      (end-run until time us i (Some i) tasks q sound t c.here runs stores arrivals (inr (λ none. omega (arith, none, all, some)))) refl refl

  waited : Follows (record { system = runs; state = state_by stores arrivals time Delays (Some i) false tasks ahead }) []
      (record { system = runs; state = state_by stores arrivals time Arriving (Some i) false tasks ahead })
  waited = follows-of runs runs 1 _ _ _ _ [] refl (delays-over stores arrivals until time costs us (Some i) tasks queue delays
      (none-due_yet time q.asleep later)) refl refl

  not_now : time ≡ until → ⊥
  not_now now = omega (arith, now, some, horizon)

  arrived : Follows (record { system = runs; state = state_by stores arrivals time Arriving (Some i) false tasks ahead }) []
      (record { system = runs; state = state_by stores arrivals time Use (Some i) false tasks ahead })
  arrived = follows-of runs runs 1 _ _ _ _ [] refl (arriving-goes runs stores arrivals time (Some i) tasks ahead
      (quiet time (omega arith) (omega (arith, some))) (λ now. not_now now)) refl refl

  used : Follows (record { system = runs; state = state_by stores arrivals time Use (Some i) false tasks ahead }) []
      (record {
        system = system_by until costs us tasks';
        state = state_by stores arrivals (time + ticks) (Effects (Some i)) (Some i) false tasks'
            q.ready;
      })
  used = follows-of runs (system_by until costs us tasks') (4 * (ticks - 1) + 1) _ _ _ _ [] refl
      (use-run stores arrivals until time costs us (Some i) tasks queue using ticks some horizon wake quiet_ahead i t.active tasks' t t' c
      first within lefts uses works_are nexts ready)
      (ap (λ es. state_by stores arrivals (time + ticks) (Effects (Some i)) (Some i) false tasks' es) others)
      (changed-system tasks tasks' i t t' (used_ticks ticks) c until costs us)

  pub passed-follows : Follows (record { system = runs; state = state_by stores arrivals time (Effects (Some i)) (Some i) false tasks q.ready }) []
      (record {
        system = system_by until costs us tasks';
        state = state_by stores arrivals (time + ticks) (Effects (Some i)) (Some i) false tasks'
            q.ready;
      })
  passed-follows = follows-then _ _ _ [] ended (follows-then _ _ _ [] waited (follows-then _ _ _ [] arrived used))

  few : ran_effort (most_ends (system_by until costs us tasks')) (map task_of tasks') (Some i) ≤ most_ends (system_by until costs us tasks')
  few = ran-few until (time + ticks) costs us tasks' (Some i) passed-sound.kept code at_work'

  same_system : system_by until costs us tasks' ≡ runs
  same_system = changed-system tasks tasks' i t t' (used_ticks ticks) c until costs us

  pub passed-nears : steps_by arrivals (most_ends (system_by until costs us tasks')) until (time + ticks) (Effects (Some i)) tasks' (Some i)
      ≤ steps_by arrivals (most_ends runs) until time (Effects (Some i)) tasks (Some i)
  passed-nears =
      let less = nears-ticks (Some i) arrivals until time (time + ticks) (most_ends runs) (most_ends (system_by until costs us tasks')) tasks tasks'
      (Some i) (Some i) (ap most_ends same_system) (omega (arith, some)) horizon few in
      let e : ℕ = ran_effort (most_ends runs) (map task_of tasks) (Some i) in
      omega (arith, less)

  pub passed-falls : left_by stores arrivals until costs us (time + ticks) (Effects (Some i)) (Some i) false tasks' q.ready
      ≤ left_by stores arrivals until costs us time (Effects (Some i)) (Some i) false tasks q.ready
  passed-falls =
      let less = falls-use stores stores (Some i) arrivals until costs us time ticks (Some i) (Some i) false false tasks tasks' ahead q.ready
      same_system few some horizon in
      omega (arith, less)

-- a task that has changed is written as before
pub threads-put : (tasks : List Task) (i : ℕ) (t t' : Task) → slice_get tasks i ≡ Some t → t'.progress.stack.thread ≡ t.progress.stack.thread
    → threads_at (set tasks i t') ≡ threads_at tasks
threads-put [] i t t' here same = refl
threads-put (u ∷ us) zero t t' here same =
    ap (λ th. th ∷ threads_at us) (same ∙ ap (λ (v : Task). v.progress.stack.thread) (sym (same_Some u t here)))
threads-put (u ∷ us) (suc i) t t' here same = ap (λ ths. u.progress.stack.thread ∷ ths) (threads-put us i t t' here same)

-- a task that has changed is dispatched as before, where its active priority is the same
pub still-below : (tasks : List Task) (i : ℕ) (t t' : Task) (ready : List Entry) → slice_get tasks i ≡ Some t → t'.active ≡ t.active
    → IsBelow t.active ready → (u : Task) → slice_get (set tasks i t') i ≡ Some u → IsBelow u.active ready
still-below tasks i t t' ready here same below u at =
    let now : t' ≡ u = get-set_same tasks i t' u (get_within i tasks t here) at in
    subst (λ (n : ℕ). IsBelow n ready) (sym same ∙ ap (λ (v : Task). v.active) now) below

-- the ticks of the running task of a processor
module _ (s : Snapshot) (i : ℕ) (whole : IsWholeAt (acting s i)) (limit : ℕ) (alone : IsAlone (acting s i) i limit) (t t' : Task) (ticks : ℕ)
    (here : slice_get s.tasks i ≡ Some t) (all : t.left ≡ ticks) (some : 0 < ticks) (fits : s.time + ticks ≤ limit)
    (does : task_of t' ≡ used_ticks ticks (task_of t)) (thread : t'.progress.stack.thread ≡ t.progress.stack.thread)
    (ready : t'.readiness ≡ t.readiness) (progress : t'.progress ≡ t.progress) where
  abbrev tasks_now : List Task
  tasks_now = set s.tasks i t'

  changed : Changed s.tasks tasks_now i t t' (used_ticks ticks)
  changed = record { here = here; set_is = refl; does = does; thread = thread }

  pass_at_work : AreAtWork s.code tasks_now
  pass_at_work = same-at-work s.tasks tasks_now i t t' (used_ticks ticks) changed s.code whole.at_work progress

  horizon_then : s.time + ticks ≤ s.until
  horizon_then = omega (arith, fits, alone.horizon)

  wake_then : Each (λ e. s.time + ticks ≤ e.1) s.queues.asleep
  wake_then = each-map (λ e. limit ≤ e.1) (λ e. s.time + ticks ≤ e.1) s.queues.asleep (λ e h. omega (arith, h, fits)) alone.wake

  quiet_then : (n : ℕ) → s.time ≤ n → n < s.time + ticks → NoArrival n s.arrivals
  quiet_then n from before = alone.arrival n from (omega (arith, before, fits))

  below_then : IsBelow t.active s.queues.ready
  below_then = alone.first (omega (arith, some, fits)) t here

  pass-follows : Follows (running_at (acting s i)) [] (running_at (record (acting s i) { time = s.time + ticks; tasks = tasks_now }))
  pass-follows = passed-follows s.stores s.arrivals s.until s.time s.costs s.units i s.tasks s.queues whole.sound t t' tasks_now ticks changed all
      some horizon_then wake_then quiet_then below_then ready s.code pass_at_work

  pub pass-goes : GoesAlone (acting s i) (record (acting s i) { time = s.time + ticks; tasks = tasks_now }) i limit
  pass-goes = record {
    acting = record {
      whole = record {
        sound = passed-sound s.stores s.arrivals s.until s.time s.costs s.units i s.tasks s.queues whole.sound t t' tasks_now ticks changed all some
            horizon_then wake_then quiet_then below_then ready s.code pass_at_work;
        at_work = pass_at_work;
        reached = still-reached whole pass-follows;
      };
      phase = refl;
      goes_on = refl;
    };
    alone = record {
      later = fits;
      horizon = alone.horizon;
      wake = alone.wake;
      arrival = λ n from before. alone.arrival n (omega (arith, from)) before;
      first = λ less u at. still-below s.tasks i t t' s.queues.ready here (ap (λ v. v.active) does) below_then u at;
    };
    follows = pass-follows;
    threads = threads-put s.tasks i t t' here thread;
    nears = passed-nears s.stores s.arrivals s.until s.time s.costs s.units i s.tasks s.queues whole.sound t t' tasks_now ticks changed all some
        horizon_then wake_then quiet_then below_then ready s.code pass_at_work;
    falls = passed-falls s.stores s.arrivals s.until s.time s.costs s.units i s.tasks s.queues whole.sound t t' tasks_now ticks changed all some
        horizon_then wake_then quiet_then below_then ready s.code pass_at_work;
  }

-- no release comes before the present time
pub asleep-from : (tasks : List states.Task) (time : ℕ) (es : List Entry) → AreSleeping tasks time es → Each (λ e. time ≤ e.1) es
asleep-from tasks time es a = each-map (SleepsUntil tasks time) (λ e. time ≤ e.1) es (λ e h. least e.1 h.1 h.4) a.each
  where
    least : (k until : ℕ) → k ≡ max until time → time ≤ k
    least k until h = omega (arith, h)

-- all wake at this time or later
pub wake-from : (wake n : ℕ) (es : List Entry) → IsOrdered WakesBefore es → Some wake ≡ option_map (λ e. e.1) (slice_get es 0) → n ≤ wake
    → Each (λ e. n ≤ e.1) es
wake-from wake n es ordered first le =
    each-map (λ e. 0 + n ≤ e.1) (λ e. n ≤ e.1) es (λ e h. omega (arith, h)) (wake-most 0 n es wake ordered first (omega (arith, le)))

pub each-most : (n m : ℕ) (es : List Entry) → n ≤ m → Each (λ e. m ≤ e.1) es → Each (λ e. n ≤ e.1) es
each-most n m es le all = each-map (λ e. m ≤ e.1) (λ e. n ≤ e.1) es (λ e h. omega (arith, h, le)) all

-- no steps
pub alone-none : (s : Snapshot) (i limit : ℕ) → IsActing s i → IsAlone s i limit → GoesAlone s s i limit
alone-none s i limit acting alone = record {
  acting = acting;
  alone = alone;
  follows = follows-none (running_at s);
  threads = refl;
  nears = omega arith;
  falls = omega arith;
}

-- steps that follow each other
pub alone-both : (s s' s'' : Snapshot) (i limit : ℕ) → GoesAlone s s' i limit → GoesAlone s' s'' i limit → GoesAlone s s'' i limit
alone-both s s' s'' i limit a b = record {
  acting = b.acting;
  alone = b.alone;
  follows = follows-then (running_at s) (running_at s') (running_at s'') [] a.follows b.follows;
  threads = b.threads ∙ a.threads;
  nears = omega (arith, a.nears, b.nears);
  falls = omega (arith, a.falls, b.falls);
}

-- a task as it is written
abbrev thread_at : Task → Thread
thread_at u = u.progress.stack.thread

-- events of tasks that are written alike
module _ (tasks tasks' : List Task) (same : threads_at tasks' ≡ threads_at tasks) where
  there : (place : ℕ) (t' : Task) → slice_get tasks' place ≡ Some t'
      → (t : Task) × (slice_get tasks place ≡ Some t) × (t'.progress.stack.thread ≡ t.progress.stack.thread)
  there place t' at = by_task (slice_get tasks place) refl
    where
      both : option_map thread_at (slice_get tasks place) ≡ Some (thread_at t')
      both = sym (slice_get-map thread_at tasks place) ∙ ap (λ ths. slice_get ths place) (sym same) ∙ slice_get-map thread_at tasks' place
          ∙ ap (option_map thread_at) at

      by_task : (o : Option Task) → slice_get tasks place ≡ o
          → (t : Task) × (slice_get tasks place ≡ Some t) × (t'.progress.stack.thread ≡ t.progress.stack.thread)
      by_task None e = absurd (cc (sym (ap (option_map thread_at) e) ∙ both))
      by_task (Some t) e = (t, e, sym (same_Some (thread_at t) (thread_at t') (sym (ap (option_map thread_at) e) ∙ both)))

  unit-before : (unit : ℕ) → HasUnit tasks' unit → HasUnit tasks unit
  unit-before unit h =
      let w = there h.place h.task h.here in
      record { place = h.place; task = w.0; here = w.1; is_unit = h.is_unit ∙ ap (λ (th : Thread). th.unit) w.2 }

  op-before : (unit op : ℕ) → HasOp tasks' unit op → HasOp tasks unit op
  op-before unit op h =
      let w = there h.place h.task h.here in
      record {
        place = h.place;
        task = w.0;
        here = w.1;
        object = h.object;
        entered = h.entered;
        at = ap (λ (th : Thread). slice_get (system_of th).objects h.object) (sym w.2) ∙ h.at;
        is_unit = h.is_unit;
        is_op = h.is_op;
      }

  object-before : (unit : ℕ) → HasObject tasks' unit → HasObject tasks unit
  object-before unit h =
      let w = there h.place h.task h.here in
      record {
        place = h.place;
        task = w.0;
        here = w.1;
        object = h.object;
        entered = h.entered;
        at = ap (λ (th : Thread). slice_get (system_of th).objects h.object) (sym w.2) ∙ h.at;
        is_unit = h.is_unit;
      }

  event-before : (e : Event) → IsOfTask tasks' e → IsOfTask tasks e
  event-before (event.Horizon time) h = tt
  event-before (event.Release time task value) h = unit-before task h
  event-before (event.Arrive time task value) h = unit-before task h
  event-before (event.End time task n) h = unit-before task h
  event-before (event.Print time task value) h = unit-before task h
  event-before (event.Enter time task unit op values) h = (unit-before task h.0, op-before unit op h.1)
  event-before (event.Leave time task unit op values) h = (unit-before task h.0, op-before unit op h.1)
  event-before (event.Request time task target value) h = (unit-before task h.0, unit-before target h.1)
  event-before (event.Stop time task unit priority ceiling) h = (unit-before task h.0, by_kind h.1)
    where
      by_kind : HasObject tasks' unit ⊎ HasUnit tasks' unit → HasObject tasks unit ⊎ HasUnit tasks unit
      by_kind (inl o) = inl (object-before unit o)
      by_kind (inr u) = inr (unit-before unit u)

  pub told-before : (told : Told) → AreOfTask tasks' told → AreOfTask tasks told
  told-before Nothing h = tt
  told-before (One e) h = event-before e h
  told-before (Two e f) h = (event-before e h.0, event-before f h.1)

-- a step after them
pub alone-then : (s s' s'' : Snapshot) (i limit : ℕ) (told : Told) → GoesAlone s s' i limit → Steps s' told s'' → Steps s told s''
alone-then s s' s'' i limit told a b = record {
  whole = b.whole;
  follows = follows-then (running_at s) (running_at s') (running_at s'') (told_of told) a.follows b.follows;
  ends = b.ends;
  nears = near told b.nears;
  of = told-before s.tasks s'.tasks a.threads told b.of;
  falls = λ on. let h = b.falls on in omega (arith, h, a.falls);
}
  where
    near : (events : Told) → IsNear events s' s'' → IsNear events s s''
    near Nothing h = omega (arith, h, a.nears)
    near (One e) h = tt
    near (Two e f) h = tt

-- the effect of a piece that is nothing to others
module _ (s : Snapshot) (i : ℕ) (whole : IsWholeAt (acting s i)) (t t' : Task) (here : slice_get s.tasks i ≡ Some t) (due : t.left ≡ 0)
    (d : HasDone s.code s.costs acts.Silent t t') where
  same_active : t'.active ≡ t.active
  same_active = ap (λ u. u.active) d.acts.after ∙ going-active s.costs d.acts.vars d.acts.pieces (task_of t)

  silent-step : Steps (acting s i) Nothing (record (acting s i) { tasks = set s.tasks i t' })
  silent-step =
      let a = d.acts in
      going-step s i whole t t' here due acts.Silent d (nests-going t t' s.costs a.vars a.pieces a.after d.inside)
      a.after Nothing refl refl tt (omega arith)

  pub silent-goes : (limit : ℕ) → IsAlone (acting s i) i limit → GoesAlone (acting s i) (record (acting s i) { tasks = set s.tasks i t' }) i limit
  silent-goes limit alone =
      let step = silent-step in
      record {
        acting = record { whole = step.whole refl; phase = refl; goes_on = refl };
        alone = record {
          later = alone.later;
          horizon = alone.horizon;
          wake = alone.wake;
          arrival = alone.arrival;
          first = λ less u at. still-below s.tasks i t t' s.queues.ready here same_active (alone.first less t here) u at;
        };
        follows = step.follows;
        threads = threads-put s.tasks i t t' here d.thread;
        nears = omega (arith, step.nears);
        falls = let h = step.falls refl in omega (arith, h);
      }

-- a processor at another time, with another task at this place
abbrev pub gone : Snapshot → ℕ → ℕ → Task → Snapshot
gone s i time t = record s { time = time; tasks = set s.tasks i t }

set-same : (tasks : List Task) (i : ℕ) (t : Task) → slice_get tasks i ≡ Some t → set tasks i t ≡ tasks
set-same [] i t here = refl
set-same (u ∷ us) zero t here = ap (λ v. v ∷ us) (sym (same_Some u t here))
set-same (u ∷ us) (suc i) t here = ap (λ vs. u ∷ vs) (set-same us i t here)

gone-none : (s : Snapshot) (i : ℕ) (t : Task) → slice_get s.tasks i ≡ Some t → s ≡ gone s i s.time t
gone-none s i t here = ap (λ ts. record s { tasks = ts }) (sym (set-same s.tasks i t here))

gone-twice : (s : Snapshot) (i before time : ℕ) (u t : Task) → gone (gone s i before u) i time t ≡ gone s i time t
gone-twice s i before time u t = ap (λ ts. record s { time = time; tasks = ts }) (set-twice s.tasks i u t)

-- one turn of a task that goes on alone
alone-one : (s : Snapshot) (i limit : ℕ) → IsActing s i → IsAlone s i limit → (t t' : Task) (time : ℕ) → slice_get s.tasks i ≡ Some t
    → OneAlong s.code s.costs limit s.time t time t' → GoesAlone s (gone s i time t') i limit
alone-one s i limit acts alone t t' time here (inl uses) =
    subst (λ k. GoesAlone s (gone s i k t') i limit) (sym uses.after)
    (in-acting s i acts (λ x. IsAlone x i limit → GoesAlone x (record x { time = s.time + t.left; tasks = set s.tasks i t' }) i limit)
    (λ whole alone'. pass-goes s i whole limit alone' t t' t.left here refl uses.some (omega (arith, uses.fits, uses.after)) uses.task uses.thread
    uses.ready uses.progress) alone)
alone-one s i limit acts alone t t' time here (inr done) =
    subst (λ k. GoesAlone s (gone s i k t') i limit) (sym done.0)
    (in-acting s i acts (λ x. IsAlone x i limit → GoesAlone x (record x { tasks = set s.tasks i t' }) i limit)
    (λ whole alone'. silent-goes s i whole t t' here done.1 done.2 limit alone') alone)

-- and so all of them
pub alone-along : (s : Snapshot) (i limit : ℕ) → IsActing s i → IsAlone s i limit → (t t' : Task) (time n : ℕ) → slice_get s.tasks i ≡ Some t
    → SoMany s.code s.costs limit n s.time t time t' → GoesAlone s (gone s i time t') i limit
alone-along s i limit acts alone t t' time zero here (now, same) =
    let e : s ≡ gone s i time t' = gone-none s i t here ∙ ap (λ k. gone s i k t) (sym now) ∙ ap (gone s i time) (sym same) in
    subst (λ x. GoesAlone s x i limit) e (alone-none s i limit acts alone)
alone-along s i limit acts alone t t' time (suc n) here (before, u, some, one) =
    let g = alone-along s i limit acts alone t u before n here some in
    let there : slice_get (set s.tasks i u) i ≡ Some u = get-put s.tasks i u (get_within i s.tasks t here) in
    let h = alone-one (gone s i before u) i limit g.acting g.alone u t' time there one in
    subst (λ x. GoesAlone s x i limit) (gone-twice s i before time u t')
    (alone-both s (gone s i before u) (gone (gone s i before u) i time t') i limit g h)
