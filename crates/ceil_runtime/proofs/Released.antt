-- The release of a task: at its time, or where it waits; and the end of the delays of an instant.
use Rattle.std.specs.Prelude.{◌≡◌, ℕ, ◌+◌, ◌<◌, ◌≤◌, ◌^◌, min, Bool, true, false, ◌&&◌, ◌||◌, ◌++◌, nat_le, if◌then◌else◌, List, [], ◌∷◌, length, map}
use Rattle.std.specs.Prelude.{Option, Some, None, option_map, slice_get, ℤ, refl}
use Rattle.std.proofs.Common.{sym, ◌∙◌, ap, subst, arith, inl, inr}
use Rattle.std.proofs.lemmas.Bool.Decides.{nat_tests}
use Rattle.std.proofs.lemmas.List.{length-map}
use Rattle.std.proofs.lemmas.Option.{same_Some, slice_get-map, slice_get_within}
use Rattle.seq_tree.specs.Lists.{change}
use Rattle.seq_tree.specs.Variables.{Variables}
use Rattle.seq_tree.specs.declared.tree.Costs.{Costs}
use Rattle.ada_tree.specs.declared.program.Unit as units
use Rattle.arrivals_tree.specs.declared.arrivals.Arrival.{Arrival}
use Rattle.trace_tree.specs.declared.event.Event.TheVariants as event
use Rattle.link_queue.specs.Queues.{Each, Entry, IsFree, IsOrdered, Queues, WakesBefore, after_due, at_tail, due}
use Rattle.link_queue.proofs.Shared.Lists.{each-map}
use Rattle.machine.specs.Pieces.{Piece, Finishing, pieces}
use Rattle.machine.specs.Systems.{System}
use Rattle.machine.specs.States as states
use Rattle.machine.specs.States.{Asleep, Ready, shut}
use Rattle.machine.specs.Dispatch.{put_last}
use Rattle.machine.specs.Releases.{going, is_waiting, next_time, parameter, release, release_task, released, serve, serve_task}
use Rattle.machine.specs.Steps.{delay_step}
use Rattle.machine.specs.Meanings.{run}
use Rattle.law_dispatching.specs.Queueing.{AreQueued, AreSleeping, IsReadyAt, SleepsUntil, places}
use Rattle.law_dispatching.specs.Renumbering.{DifferInOrders, RankAlike}
use Rattle.law_dispatching.proofs.Shared.Queued.{apart-ready, queued-released}
use Rattle.law_dispatching.proofs.Shared.Ranks.{queued-places, ranks-alike}
use Rattle.law_dispatching.proofs.Shared.Sleeping.{apart-awake, first-due, none-due, sleeping-awake, sleeping-fewer}
use Rattle.law_dispatching.proofs.Shared.Places.{get-within}
use Rattle.ceil_runtime.specs.Processing.{HoldsIn, IsKept, IsSound, order_of, state_by, system_by}
use Rattle.task_runtime.specs.Effort.{sections_among}
use Rattle.task_runtime.specs.Progressed.{is_idle}
use Rattle.task_runtime.specs.Lefts.{pieces_left}
use Rattle.task_runtime.specs.Readies.{is_ready, readiness_of, rests_as}
use Rattle.task_runtime.specs.Works.{IsNested}
use Rattle.task_runtime.specs.Tasks.{task_of}
use Rattle.task_runtime.specs.Written.{timing_of}
use Rattle.task_runtime.specs.declared.thread.Timing.{Timing}
use Rattle.task_runtime.specs.declared.thread.Timing.TheVariants as timing
use Rattle.task_runtime.specs.declared.task.Task.{Task}
use Rattle.task_runtime.specs.declared.readiness.Readiness as readiness
use Rattle.task_runtime.specs.declared.readiness.Readiness.TheVariants as readies
use Rattle.ceil_runtime.specs.declared.processor.Phase.{Phase}
use Rattle.ceil_runtime.specs.declared.processor.Phase.TheVariants.{Delays, Arriving}
use Rattle.ceil_runtime.proofs.Processed.{changed-alike, Changed, changed-all, changed-length, changed-tasks, here-of, step-run}
use Rattle.task_runtime.proofs.Shared.AtWork.{going-inside}

-- what a task that goes on is dispatched by
pub going-active : (costs : Costs) (vars : Variables) (ps : List Piece) (t : states.Task) → (going costs vars ps t).active ≡ t.active
going-active costs vars [] t = refl
going-active costs vars (p ∷ ps) t = refl

pub going-readiness : (costs : Costs) (vars : Variables) (ps : List Piece) (t : states.Task) → (going costs vars ps t).readiness ≡ t.readiness
going-readiness costs vars [] t = refl
going-readiness costs vars (p ∷ ps) t = refl

pub going-used : (costs : Costs) (vars : Variables) (ps : List Piece) (t : states.Task) → (going costs vars ps t).used ≡ t.used
going-used costs vars [] t = refl
going-used costs vars (p ∷ ps) t = refl

pub going-next : (costs : Costs) (vars : Variables) (ps : List Piece) (t : states.Task) → (going costs vars ps t).next ≡ t.next
going-next costs vars [] t = refl
going-next costs vars (p ∷ ps) t = refl

pub released-used : (costs : Costs) (t : states.Task) → (released costs t).used ≡ 0
released-used costs t = going-used costs _ _ _

pub released-nested : (costs : Costs) (t : Task) → is_ready t.readiness ≡ false → IsNested (task_of t) → IsNested (released costs (task_of t))
released-nested costs t rests h =
    let idle : pieces_left t.progress ≡ []
    = by_pieces (pieces_left t.progress) (or_right (is_ready t.readiness) (is_idle (pieces_left t.progress)) rests t.asleep) in
    let none : length (task_of t).inside ≤ 0 = subst (λ ps. length (task_of t).inside ≤ sections_among ps) idle h in
    let same : (released costs (task_of t)).inside ≡ (task_of t).inside =
    going-inside costs (parameter (task_of t).thread.timing (task_of t).gate.value ++ (task_of t).vars)
    (pieces (task_of t).thread.block (Finishing ∷ []))
    (record (task_of t) { readiness = Ready; next = next_time (task_of t).thread.timing t.next; used = 0; gate = shut }) in
    let many : length (released costs (task_of t)).inside ≡ length (task_of t).inside = ap length same in
    omega (arith, none, many)
  where
    or_right : (a b : Bool) → a ≡ false → (a || b) ≡ true → b ≡ true
    or_right false b e k = k
    or_right true b e k = cc

    by_pieces : (ps : List Piece) → is_idle ps ≡ true → ps ≡ []
    by_pieces [] e = refl
    by_pieces (p ∷ ps) e = cc

pub released-readiness : (costs : Costs) (t : states.Task) → (released costs t).readiness ≡ Ready
released-readiness costs t = going-readiness costs _ _ _

not_asleep : (until : ℕ) → Ready ≡ Asleep until → ⊥
not_asleep until h = cc

-- a task that sleeps, as the processor has it
pub asleep-is : (r : readiness.Readiness) (next until : ℕ) → readiness_of r next ≡ Asleep until → (r ≡ readies.Asleep) × (next ≡ until)
asleep-is readies.Asleep next until h = (refl, asleep_same next until h)
  where
    asleep_same : (a b : ℕ) → Asleep a ≡ Asleep b → a ≡ b
    asleep_same a b k = cc
asleep-is readies.Waiting next until h = absurd (cc)
asleep-is readies.Ready next until h = absurd (not_asleep until h)

pub asleep-apart : (r : readiness.Readiness) (next until : ℕ) → (r ≡ readies.Asleep → ⊥) → readiness_of r next ≡ Asleep until → ⊥
asleep-apart r next until not h = not (asleep-is r next until h).0

pub ready-is : (r : readiness.Readiness) (next : ℕ) → readiness_of r next ≡ Ready → r ≡ readies.Ready
ready-is readies.Asleep next h = absurd (not_asleep next (sym h))
ready-is readies.Waiting next h = absurd (cc)
ready-is readies.Ready next h = refl

pub rests-apart : (r : readiness.Readiness) (next : ℕ) → is_ready r ≡ false → readiness_of r next ≡ Ready → ⊥
rests-apart r next not h = cc (sym not ∙ ap is_ready (ready-is r next h))

-- the entry of the first task that is due
pub record Woken (time task : ℕ) (asleep : List Entry) : Type 0 where
  pub key : ℕ
  pub others : List Entry
  pub whole : asleep ≡ (task, key) ∷ others
  pub now : key ≤ time
  pub rest : after_due time asleep ≡ others

pub woken : (time task : ℕ) (asleep : List Entry) → Some task ≡ due time asleep → Woken time task asleep
woken time task [] h = absurd (cc h)
woken time task (e ∷ es) h = by_test (nat_le e.1 time) refl h
  where
    by_test : (b : Bool) → nat_le e.1 time ≡ b → Some task ≡ (if b then Some e.0 else None) → Woken time task (e ∷ es)
    by_test true test k =
        let same : task ≡ e.0 = same_Some task e.0 k in
        record {
          key = e.1;
          others = es;
          whole = ap (λ i. (i, e.1) ∷ es) (sym same);
          now = le e.1 time test;
          rest = ap (λ b. if b then es else e ∷ es) test;
        }
      where
        le : (m n : ℕ) → nat_le m n ≡ true → m ≤ n
        le m n l = grind (arith, nat_tests)
    by_test false test k = absurd (cc k)

-- none is due
pub none_woken : (time : ℕ) (asleep : List Entry) → None ≡ due time asleep → ((e : Entry) → slice_get asleep 0 ≡ Some e → time < e.1)
    × (after_due time asleep ≡ asleep)
none_woken time [] h = (λ e at. absurd (none e at), refl)
  where
    none : (e : Entry) → None ≡ Some e → ⊥
    none e k = cc
none_woken time (e ∷ es) h = by_test (nat_le e.1 time) refl h
  where
    by_test : (b : Bool) → nat_le e.1 time ≡ b → None ≡ (if b then Some e.0 else None) → ((x : Entry) → slice_get (e ∷ es) 0 ≡ Some x → time < x.1)
        × (after_due time (e ∷ es) ≡ e ∷ es)
    by_test true test k = absurd (cc k)
    by_test false test k = (λ x at. subst (λ (z : Entry). time < z.1) (same x at) (lt e.1 time test), ap (λ b. if b then es else e ∷ es) test)
      where
        same : (x : Entry) → Some e ≡ Some x → e ≡ x
        same x l = cc

        lt : (m n : ℕ) → nat_le m n ≡ false → n < m
        lt m n l = grind (arith, nat_tests)

pub waiting-apart : (r : readiness.Readiness) (next : ℕ) → (r ≡ readies.Waiting → ⊥) → is_waiting (readiness_of r next) ≡ false
waiting-apart readies.Asleep next not = refl
waiting-apart readies.Waiting next not = absurd (not refl)
waiting-apart readies.Ready next not = refl

-- a state with one task changed
abbrev pub changed_at : ℕ → (states.Task → states.Task) → states.State → states.State
changed_at i f s = record s { tasks = change i f s.tasks }

-- a task is released, and stands behind the ready ones of its priority
module _ (costs : Costs) (tasks tasks' : List Task) (os : List ℤ) (ready : List Entry) (i : ℕ) (t t' : Task)
    (c : Changed tasks tasks' i t t' (released costs)) (queued : AreQueued (map task_of tasks) os ready)
    (rests : is_ready t.readiness ≡ false) where
  f_active : (released costs (task_of t)).active ≡ (task_of t').active
  f_active = ap (λ u. u.active) (sym c.does)

  released_ready : (released costs (task_of t)).readiness ≡ Ready
  released_ready = released-readiness costs (task_of t)

  pub is-released : t'.readiness ≡ readies.Ready
  is-released = ready-is t'.readiness t'.next (ap (λ u. u.readiness) c.does ∙ released_ready)

  pub tail-queued : AreQueued (change i (released costs) (map task_of tasks)) (put_last i os) (at_tail (i, (task_of t').active) ready)
  tail-queued =
      subst (λ (l : ℕ). AreQueued (change i (released costs) (map task_of tasks)) (put_last i os) (at_tail (i, l) ready)) f_active
      (queued-released (map task_of tasks) os ready i (task_of t) (released costs) queued (here-of tasks tasks' i t t' (released costs) c)
      (rests-apart t.readiness t.next rests) released_ready)

  now_queued : AreQueued (map task_of tasks') (put_last i os) (at_tail (i, (task_of t').active) ready)
  now_queued =
      subst (λ (ts : List states.Task). AreQueued ts (put_last i os) (at_tail (i, (task_of t').active) ready))
      (sym (changed-tasks tasks tasks' i t t' (released costs) c)) tail-queued

  pub tail-placed : AreQueued (map task_of tasks') (places (length tasks') (at_tail (i, (task_of t').active) ready))
      (at_tail (i, (task_of t').active) ready)
  tail-placed =
      subst (λ (n : ℕ). AreQueued (map task_of tasks') (places n (at_tail (i, (task_of t').active) ready)) (at_tail (i, (task_of t').active) ready))
      (length-map tasks' task_of)
      (queued-places (map task_of tasks') (put_last i os) (at_tail (i, (task_of t').active) ready) now_queued)

  pub tail-ranks : RankAlike (change i (released costs) (map task_of tasks)) (put_last i os)
      (places (length tasks') (at_tail (i, (task_of t').active) ready))
  tail-ranks =
      ranks-alike (change i (released costs) (map task_of tasks)) (put_last i os) (places (length tasks') (at_tail (i, (task_of t').active) ready))
      (at_tail (i, (task_of t').active) ready) tail-queued
      (subst (λ (ts : List states.Task). AreQueued ts (places (length tasks') (at_tail (i, (task_of t').active) ready))
      (at_tail (i, (task_of t').active) ready))
      (changed-tasks tasks tasks' i t t' (released costs) c) tail-placed)

  pub tail-kept : (until time : ℕ) (us : List units.Unit) → IsKept until time us t → t'.works ≤ t.works + min t'.left 1 → t'.next ≤ until + 2 ^ 33
      → IsKept until time us t'
  tail-kept until time us k works next =
      let none : t.left ≡ 0 = k.idle rests in
      let used_none : t'.used ≡ 0 = ap (λ u. u.used) c.does ∙ released-used costs (task_of t) in
      record {
        used = omega (arith, used_none);
        works = omega (arith, works, k.works, none);
        next = next;
        units = ap (λ th. th.units.now) c.thread ∙ k.units;
        idle = λ not. absurd (clash (sym (ap is_ready is-released) ∙ not));
        nested = subst IsNested (sym c.does) (released-nested costs t rests k.nested);
      }
    where
      clash : true ≡ false → ⊥
      clash k' = cc

  pub tail-next : t'.next ≡ next_time (timing_of t.progress.stack.thread.timing) t.next
  tail-next = ap (λ u. u.next) c.does ∙ going-next costs _ _ _

-- a task that waits is one that is released by requests
pub waits-next : (r : readiness.Readiness) (w : Timing) (next : ℕ) → rests_as r w ≡ true → r ≡ readies.Waiting → next_time (timing_of w) next ≡ next
waits-next r (timing.Periodic offset period) next h e = absurd (cc (sym (ap (λ x. rests_as x (timing.Periodic offset period)) e) ∙ h))
waits-next r (timing.Requested op ceiling separation jitter external) next h e = refl

-- a task that waits is released
pub waiting-released : (until time : ℕ) (costs : Costs) (us : List units.Unit) (p : Phase) (ran : Option ℕ) (tasks tasks' : List Task) (q q' : Queues)
    (i : ℕ) (t t' : Task) → ((ts : List Task) (es : List Entry) → order_of p ts es ≡ es)
    → IsSound until time p ran us tasks q → Changed tasks tasks' i t t' (released costs) → t.readiness ≡ readies.Waiting
    → t'.works ≤ t.works + min t'.left 1 → q' ≡ record q { ready = at_tail (i, (task_of t').active) q.ready } → HoldsIn p until time ran tasks' q'
    → IsSound until time p ran us tasks' q'
waiting-released until time costs us p ran tasks tasks' q q' i t t' plain sound c waits works is here =
    let queued : AreQueued (map task_of tasks) (places (length tasks) q.ready) q.ready
    = subst (λ (es : List Entry). AreQueued (map task_of tasks) (places (length tasks) es) es) (plain tasks q.ready) sound.queued in
    let rests : is_ready t.readiness ≡ false = ap is_ready waits in
    let os : List ℤ = places (length tasks) q.ready in
    let len : length tasks' ≡ length tasks = changed-length tasks tasks' i t t' (released costs) c in
    let k : IsKept until time us t = sound.kept i t c.here in
    let next : t'.next ≡ t.next = tail-next costs tasks tasks' os q.ready i t t' c queued rests ∙ waits-next t.readiness
    t.progress.stack.thread.timing t.next t.rests waits in
    record {
      size = ap (λ x. x.size) is ∙ sound.size ∙ sym len;
      queued = subst (λ (x : List Entry). AreQueued (map task_of tasks') (places (length tasks') x) x) (sym
          (plain tasks' q'.ready ∙ ap (λ x. x.ready) is)) (tail-placed costs tasks tasks' os q.ready i t t' c queued rests);
      sleeping = subst (AreSleeping (map task_of tasks') time) (sym (ap (λ x. x.asleep) is))
          (subst (λ (ts : List states.Task). AreSleeping ts time q.asleep) (sym (changed-tasks tasks tasks' i t t' (released costs) c))
          (sleeping-awake (map task_of tasks) time q.asleep i (task_of t) (released costs) sound.sleeping
          (here-of tasks tasks' i t t' (released costs) c)
          (λ n h. asleep-apart t.readiness t.next n (λ e. cc (sym e ∙ waits)) h) (λ n h. not_asleep n (sym (going-readiness costs _ _ _) ∙ h))));
      kept = changed-all tasks tasks' i t t' (released costs) c (IsKept until time us) (IsKept until time us) sound.kept (λ u h. h)
          (tail-kept costs tasks tasks' os q.ready i t t' c queued rests until time us k works (omega (arith, next, k.next)));
      here = here;
      near = sound.near;
      few = omega (arith, len, sound.few);
      calls = changed-alike tasks tasks' i t t' (released costs) c us sound.calls;
      in_time = sound.in_time;
    }

-- a task that waits is in neither list
pub waiting-free : (until time : ℕ) (us : List units.Unit) (p : Phase) (ran : Option ℕ) (tasks : List Task) (q : Queues)
    → IsSound until time p ran us tasks q → Each (IsReadyAt (map task_of tasks)) q.ready
    → (i : ℕ) (t : Task) → slice_get tasks i ≡ Some t → t.readiness ≡ readies.Waiting → IsFree q i
waiting-free until time us p ran tasks q sound each i t here waits =
    let at : slice_get (map task_of tasks) i ≡ Some (task_of t) = slice_get-map task_of tasks i ∙ ap (option_map task_of) here in
    record {
      known = omega (arith, sound.size, slice_get_within tasks i t here);
      not_ready = apart-ready (map task_of tasks) i (task_of t) q.ready at (rests-apart t.readiness t.next (ap is_ready waits)) each;
      not_asleep = apart-awake (map task_of tasks) time i (task_of t) q.asleep at (λ k h. asleep-apart t.readiness t.next k
          (λ e. cc (sym e ∙ waits)) h) sound.sleeping.each;
    }

-- where a task waits with an open control structure, it is released
pub serve-run : (y : System) (i : ℕ) (u : states.Task) (s : states.State) → slice_get s.tasks i ≡ Some u
    → (is_waiting u.readiness && u.gate.open') ≡ true
    → serve y i s ≡ (
      record s {
        tasks = change i (released y.costs) s.tasks;
        orders = put_last i s.orders;
      },
      event.Release s.time u.thread.unit u.gate.value ∷ [],
    )
serve-run y i u s at test = ap (λ o. serve_task y i o s) at ∙ ap (λ b. if b then release y i s else (s, [])) test ∙ ap (λ o. release_task y i o s) at

-- and otherwise nothing happens
pub serve-none : (y : System) (i : ℕ) (u : states.Task) (s : states.State) → slice_get s.tasks i ≡ Some u
    → (is_waiting u.readiness && u.gate.open') ≡ false → serve y i s ≡ (s, [])
serve-none y i u s at test = ap (λ o. serve_task y i o s) at ∙ ap (λ b. if b then release y i s else (s, [])) test

module _ (stores : List Variables) (arrivals : List Arrival) (until time : ℕ) (costs : Costs) (us : List units.Unit) (ran : Option ℕ)
    (tasks : List Task) (q : Queues) (sound : IsSound until time Delays ran us tasks q) where
  -- the delays are over
  pub delays-over : None ≡ due time q.asleep → run (system_by until costs us tasks) 1 (state_by stores arrivals time Delays ran false tasks q.ready)
      ≡ (state_by stores arrivals time Arriving ran false tasks q.ready, [])
  delays-over none =
      step-run (system_by until costs us tasks) (state_by stores arrivals time Delays ran false tasks q.ready)
      (state_by stores arrivals time Arriving ran false tasks q.ready) []
      (ap (λ o. delay_step (system_by until costs us tasks) o (state_by stores arrivals time Delays ran false tasks q.ready))
      (none-due (map task_of tasks) time q.asleep sound.sleeping time (omega arith) (none_woken time q.asleep none).0))

  later-all : (es : List Entry) → ((e : Entry) → slice_get es 0 ≡ Some e → time < e.1) → IsOrdered WakesBefore es → Each (λ e. time < e.1) es
  later-all [] first ordered = tt
  later-all (e ∷ es) first ordered = (first e refl, each-map (WakesBefore e) (λ x. time < x.1) es (λ x w. more x w (first e refl)) ordered.0)
    where
      more : (x : Entry) → WakesBefore e x → time < e.1 → time < x.1
      more x (inl p) k = omega arith
      more x (inr p) k = omega arith

  pub over-sound : (q' : Queues) → None ≡ due time q.asleep → q' ≡ record q { asleep = after_due time q.asleep }
      → IsSound until time Arriving ran us tasks q'
  over-sound q' none is =
      let same : q' ≡ q = is ∙ ap (λ es. record q { asleep = es }) (none_woken time q.asleep none).1 in
      subst (IsSound until time Arriving ran us tasks) (sym same) (record {
        size = sound.size;
        queued = sound.queued;
        sleeping = sound.sleeping;
        kept = sound.kept;
        here = later-all q.asleep (none_woken time q.asleep none).0 sound.sleeping.ordered;
        near = sound.near;
        few = sound.few;
        calls = sound.calls;
        in_time = sound.in_time;
      })

  -- the first task that is due
  module _ (task : ℕ) (first : Some task ≡ due time q.asleep) where
    entry : Woken time task q.asleep
    entry = woken time task q.asleep first

    sleepers : AreSleeping (map task_of tasks) time ((task, entry.key) ∷ entry.others)
    sleepers = subst (AreSleeping (map task_of tasks) time) entry.whole sound.sleeping

    pub woken-known : task < length tasks
    woken-known = let s : SleepsUntil (map task_of tasks) time (task, entry.key) = sleepers.each.0
        in omega (arith, get-within task (map task_of tasks) s.0 s.2, length-map tasks task_of)

    sleeper : SleepsUntil (map task_of tasks) time (task, entry.key)
    sleeper = sleepers.each.0

    pub woken-asleep : (t : Task) → slice_get tasks task ≡ Some t → (t.readiness ≡ readies.Asleep) × (t.next ≤ time)
    woken-asleep t here =
        let same : task_of t ≡ sleeper.0
        = same_Some (task_of t) sleeper.0 (sym (slice_get-map task_of tasks task ∙ ap (option_map task_of) here) ∙ sleeper.2) in
        let a : (t.readiness ≡ readies.Asleep) × (t.next ≡ sleeper.1)
        = asleep-is t.readiness t.next sleeper.1 (ap (λ u. u.readiness) same ∙ sleeper.3) in
        (a.0, omega (arith, a.1, sleeper.4, entry.now))

    module _ (tasks' : List Task) (t t' : Task) (c : Changed tasks tasks' task t t' (released costs)) where
      rests : is_ready t.readiness ≡ false
      rests = ap is_ready (woken-asleep t c.here).0

      pub release-run : run (system_by until costs us tasks) 1 (state_by stores arrivals time Delays ran false tasks q.ready)
          ≡ (
            record (state_by stores arrivals time Delays ran false tasks q.ready) {
              tasks = change task (released costs) (map task_of tasks);
              orders = put_last task (places (length tasks) q.ready);
            },
            event.Release time t.progress.stack.thread.unit t.gate.value ∷ [],
          )
      release-run =
          let s : states.State = state_by stores arrivals time Delays ran false tasks q.ready in
          let y : System = system_by until costs us tasks in
          step-run y s _ _
          (ap (λ o. delay_step y o s) (first-due (map task_of tasks) time (task, entry.key) entry.others (task_of t) sleepers entry.now
          (here-of tasks tasks' task t t' (released costs) c))
          ∙ ap (λ o. release_task y task o s) (here-of tasks tasks' task t t' (released costs) c))

      pub release-differs : DifferInOrders
          (record (state_by stores arrivals time Delays ran false tasks q.ready) {
            tasks = change task (released costs) (map task_of tasks);
            orders = put_last task (places (length tasks) q.ready);
          })
          (state_by stores arrivals time Delays ran false tasks' (at_tail (task, (task_of t').active) q.ready))
      release-differs = record {
        same = ap (λ ts. record (state_by stores arrivals time Delays ran false tasks' (at_tail (task, (task_of t').active) q.ready)) {
          tasks
              = ts;
        }) (changed-tasks tasks tasks' task t t' (released costs) c);
        ranks = tail-ranks costs tasks tasks' (places (length tasks) q.ready) q.ready task t t' c sound.queued rests;
      }

      pub release-sound : (q' : Queues) → q' ≡ record q { ready = at_tail (task, (task_of t').active) q.ready; asleep = after_due time q.asleep }
          → t'.works ≤ t.works + min t'.left 1 → t'.next < t.next + 2 ^ 32
          → IsSound until time Delays ran us tasks' q'
      release-sound q' is works near =
          let len : length tasks' ≡ length tasks = changed-length tasks tasks' task t t' (released costs) c in
          let os : List ℤ = places (length tasks) q.ready in
          let was = woken-asleep t c.here in
          subst (IsSound until time Delays ran us tasks') (sym is) (record {
            size = sound.size ∙ sym len;
            queued = tail-placed costs tasks tasks' os q.ready task t t' c sound.queued rests;
            sleeping = subst (AreSleeping (map task_of tasks') time) (sym entry.rest)
                (subst (λ (ts : List states.Task). AreSleeping ts time entry.others) (sym (changed-tasks tasks tasks' task t t' (released costs) c))
                (sleeping-fewer (map task_of tasks) time (task, entry.key) entry.others (released costs) sleepers
                (λ u k h. not_asleep k (sym (going-readiness costs _ _ _) ∙ h))));
            kept = changed-all tasks tasks' task t t' (released costs) c (IsKept until time us) (IsKept until time us) sound.kept (λ u k. k)
                (tail-kept costs tasks tasks' os q.ready task t t' c sound.queued rests until time us (sound.kept task t c.here) works
                (omega (arith, near, was.1, sound.in_time)));
            here = tt;
            near = sound.near;
            few = omega (arith, len, sound.few);
            calls = changed-alike tasks tasks' task t t' (released costs) c us sound.calls;
            in_time = sound.in_time;
          })
