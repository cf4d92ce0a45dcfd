-- The opening of a processor, task by task.
use Rattle.std.specs.Prelude.{◌≡◌, ◌≢◌, ◌⊎◌, ℕ, zero, suc, ◌<◌, ◌^◌, max, false, List, [], ◌∷◌, ◌++◌, length, map, replicate, Some, None, option_map}
use Rattle.std.specs.Prelude.{slice_get, ℤ, pos, refl}
use Rattle.std.proofs.Common.{sym, ◌∙◌, ap, subst, arith, inl, inr}
use Rattle.std.proofs.lemmas.List.{length-map, map-append}
use Rattle.seq_tree.specs.Variables.{written}
use Rattle.seq_tree.specs.declared.tree.Costs.{Costs}
use Rattle.ada_tree.specs.declared.program.Unit as units
use Rattle.link_queue.specs.Queues.{Entry, IsApart, IsFree, Queues, in_time, wakes_before}
use Rattle.link_queue.proofs.Shared.Lists.{each-map, each-put, in_order-time}
use Rattle.machine.specs.Systems.{System, objects_from}
use Rattle.machine.specs.Meanings.{Running}
use Rattle.machine.specs.States as states
use Rattle.machine.specs.States.{Asleep, first_task, first_time, first_wait, opening}
use Rattle.arrivals_tree.specs.declared.arrivals.Arrival.{Arrival}
use Rattle.law_dispatching.specs.Queueing.{AreQueued, AreSleeping, IsIn, SleepsUntil, places, places_from}
use Rattle.law_dispatching.proofs.Shared.Places.{get-within}
use Rattle.law_dispatching.proofs.Shared.Queued.{in-new, in-put}
use Rattle.law_dispatching.proofs.Shared.Ranks.{length-places}
use Rattle.law_ceilings.specs.Premises.{MayExclude}
use Rattle.ceil_runtime.specs.Reaching.{IsReached}
use Rattle.ceil_runtime.proofs.Reaching.{opening-reached}
use Rattle.ceil_runtime.specs.Processing.{AreAlike, IsKept, IsSound, state_by, system_by}
use Rattle.task_runtime.specs.Lefts.{vars_left, pieces_left}
use Rattle.task_runtime.specs.Readies.{gate_of, readiness_of}
use Rattle.ceil_runtime.specs.Starts.{AreOpen, CanStart, first_slept, opened, system_for}
use Rattle.task_runtime.specs.Works.{IsNested}
use Rattle.task_runtime.specs.Tasks.{IsFresh, task_of}
use Rattle.task_runtime.specs.Insides.{inside_of}
use Rattle.ada_tree.specs.Trees.{unit_of}
use Rattle.ceil_runtime.specs.Gathering.{AllThreads, IsThreadOf}
use Rattle.task_runtime.specs.Libraries.{no_costs, system_from, handed_threads}
use Rattle.arrivals_tree.specs.declared.arrivals.WorkList.{WorkList}
use Rattle.std.proofs.lemmas.Option.{same_Some, slice_get-map}
use Rattle.task_runtime.specs.Written.{system_of, thread_of, timing_of}
use Rattle.task_runtime.specs.declared.thread.Thread.{Thread}
use Rattle.task_runtime.specs.declared.thread.Timing.{Timing}
use Rattle.task_runtime.specs.declared.thread.Timing.TheVariants as timing
use Rattle.task_runtime.specs.declared.task.Task.{Task}
use Rattle.linker.specs.declared.program.LinkedUnits.{LinkedUnits}
use Rattle.task_runtime.specs.Sounds.{IsAtWork}
use Rattle.ceil_runtime.specs.declared.processor.Phase.TheVariants.{Effects}

module _ {A : Type 0} where
  get-push-old : (xs : List A) (y x : A) (i : ℕ) → slice_get xs i ≡ Some x → slice_get (xs ++ y ∷ []) i ≡ Some x
  get-push-old [] y x i at = absurd (cc at)
  get-push-old (z ∷ zs) y x zero at = at
  get-push-old (z ∷ zs) y x (suc i) at = get-push-old zs y x i at

  get-push-new : (xs : List A) (y : A) → slice_get (xs ++ y ∷ []) (length xs) ≡ Some y
  get-push-new [] y = refl
  get-push-new (z ∷ zs) y = get-push-new zs y

  pub get-push : (xs : List A) (y x : A) (i : ℕ) → slice_get (xs ++ y ∷ []) i ≡ Some x → (slice_get xs i ≡ Some x) ⊎ ((i ≡ length xs) × (y ≡ x))
  get-push [] y x zero at = inr (refl, same_Some y x at)
  get-push [] y x (suc i) at = absurd (cc at)
  get-push (z ∷ zs) y x zero at = inl at
  get-push (z ∷ zs) y x (suc i) at = turn (get-push zs y x i at)
    where
      turn : (slice_get zs i ≡ Some x) ⊎ ((i ≡ length zs) × (y ≡ x)) → (slice_get zs i ≡ Some x) ⊎ ((suc i ≡ suc (length zs)) × (y ≡ x))
      turn (inl h) = inl h
      turn (inr h) = inr (ap suc h.0, h.1)

-- one task more sleeps
sleeping-push : (ts : List states.Task) (time : ℕ) (asleep : List Entry) (t : states.Task) (until : ℕ) → AreSleeping ts time asleep
    → t.readiness ≡ Asleep until → AreSleeping (ts ++ t ∷ []) time (in_time (length ts, max until time) asleep)
sleeping-push ts time asleep t until a is = record {
  each = each-put (SleepsUntil (ts ++ t ∷ []) time) (wakes_before (length ts, max until time)) (length ts, max until time) asleep
      (t, until, get-push-new ts t, is, refl)
      (each-map (SleepsUntil ts time) (SleepsUntil (ts ++ t ∷ []) time) asleep (λ e s. (s.0, s.1, get-push-old ts t s.0 e.0 s.2, s.3, s.4)) a.each);
  all = λ j k u here sleeps. by_place j k u sleeps (get-push ts t u j here);
  ordered = in_order-time (length ts, max until time) asleep (each-map (SleepsUntil ts time) (λ e. length ts ≢ e.0) asleep
      (λ e s. λ same. past e s same) a.each) a.ordered;
}
  where
    past : (e : Entry) → SleepsUntil ts time e → length ts ≡ e.0 → ⊥
    past e s same = let h : e.0 < length ts = get-within e.0 ts s.0 s.2 in omega arith

    by_place : (j k : ℕ) (u : states.Task) → u.readiness ≡ Asleep k → (slice_get ts j ≡ Some u) ⊎ ((j ≡ length ts) × (t ≡ u))
        → IsIn j (in_time (length ts, max until time) asleep)
    by_place j k u sleeps (inl h) = in-put j (wakes_before (length ts, max until time)) (length ts, max until time) asleep (a.all j k u h sleeps)
    by_place j k u sleeps (inr h) = in-new j (wakes_before (length ts, max until time)) (length ts, max until time) asleep h.0

-- one task more, which doesn't sleep
waiting-push : (ts : List states.Task) (time : ℕ) (asleep : List Entry) (t : states.Task) → AreSleeping ts time asleep
    → ((k : ℕ) → t.readiness ≡ Asleep k → ⊥) → AreSleeping (ts ++ t ∷ []) time asleep
waiting-push ts time asleep t a awake = record {
  each = each-map (SleepsUntil ts time) (SleepsUntil (ts ++ t ∷ []) time) asleep (λ e s. (s.0, s.1, get-push-old ts t s.0 e.0 s.2, s.3, s.4)) a.each;
  all = λ j k u here sleeps. by_place j k u sleeps (get-push ts t u j here);
  ordered = a.ordered;
}
  where
    by_place : (j k : ℕ) (u : states.Task) → u.readiness ≡ Asleep k → (slice_get ts j ≡ Some u) ⊎ ((j ≡ length ts) × (t ≡ u)) → IsIn j asleep
    by_place j k u sleeps (inl h) = a.all j k u h sleeps
    by_place j k u sleeps (inr h) = absurd (awake k (ap (λ v. v.readiness) h.1 ∙ sleeps))

pub open-none : (until : ℕ) (us : List units.Unit) (code : LinkedUnits) (q : Queues) → q.ready ≡ [] → q.asleep ≡ [] → AreOpen until us code [] [] q
open-none until us code q ready asleep = record {
  tasks_are = refl;
  threads_are = refl;
  ready = ready;
  sleeping = subst (AreSleeping [] 0) (sym asleep) (record { each = tt; all = λ j k u here sleeps. absurd (none here); ordered = tt });
  kept = λ i t at. absurd (none' at);
  at_work = λ i t at. absurd (none' at);
}
  where
    none : {u : states.Task} → None ≡ Some u → ⊥
    none k = cc

    none' : {u : Task} → None ≡ Some u → ⊥
    none' k = cc

module _ (until : ℕ) (us : List units.Unit) (code : LinkedUnits) (threads : List Thread) (tasks : List Task) (q : Queues)
    (o : AreOpen until us code threads tasks q) (t : Task) (th : Thread) (fresh : IsFresh t th) (at' : IsAtWork code t.progress)
    (can : CanStart us th) where
  first : task_of t ≡ first_task (thread_of th)
  first =
      let view : Thread → _ → _ → ℕ → ℕ → ℕ → ℕ → states.Readiness → states.Gate → states.Task
      = λ h vs ps n l u w r g. record (first_task (thread_of h)) {
        vars = vs;
        pieces = ps;
        next = n;
        left = l;
        used = u;
        works = w;
        readiness = r;
        gate = g;
      } in
      let n0 : ℕ = first_time (timing_of th.timing) in
      ap (λ (a : ℕ). record (task_of t) { active = a }) (fresh.active ∙ ap (λ h. h.priority) (sym fresh.thread))
      ∙ ap (λ hs. record (task_of t) { active = t.progress.stack.thread.priority; inside = inside_of hs }) fresh.inside
      ∙ ap (λ n. view t.progress.stack.thread (vars_left t.progress) (pieces_left t.progress) n t.left t.used t.works (readiness_of t.readiness n)
      (gate_of t.gate)) fresh.next
      ∙ ap (λ r. view t.progress.stack.thread (vars_left t.progress) (pieces_left t.progress) n0 t.left t.used t.works r (gate_of t.gate)) fresh.rests
      ∙ ap (λ h. view h (vars_left t.progress) (pieces_left t.progress) n0 t.left t.used t.works (first_wait (timing_of th.timing)) (gate_of t.gate))
      fresh.thread
      ∙ ap (λ vs. view th vs (pieces_left t.progress) n0 t.left t.used t.works (first_wait (timing_of th.timing)) (gate_of t.gate)) fresh.vars
      ∙ ap (λ ps. view th (written th.«data».now) ps n0 t.left t.used t.works (first_wait (timing_of th.timing)) (gate_of t.gate)) fresh.pieces
      ∙ ap (λ l. view th (written th.«data».now) [] n0 l t.used t.works (first_wait (timing_of th.timing)) (gate_of t.gate)) fresh.left
      ∙ ap (λ u. view th (written th.«data».now) [] n0 0 u t.works (first_wait (timing_of th.timing)) (gate_of t.gate)) fresh.used
      ∙ ap (λ w. view th (written th.«data».now) [] n0 0 0 w (first_wait (timing_of th.timing)) (gate_of t.gate)) fresh.works
      ∙ ap (λ g. view th (written th.«data».now) [] n0 0 0 0 (first_wait (timing_of th.timing)) g) fresh.gate

  -- with one task more, and the lists that stand for it
  open-pushed : (q' : Queues) → q'.ready ≡ q.ready → AreSleeping (map task_of tasks ++ task_of t ∷ []) 0 q'.asleep
      → AreOpen until us code (threads ++ th ∷ []) (tasks ++ t ∷ []) q'
  open-pushed q' ready slept =
      let ts_is : map task_of (tasks ++ t ∷ []) ≡ map task_of tasks ++ task_of t ∷ [] = map-append task_of tasks (t ∷ []) in
      record {
        tasks_are = ts_is ∙ ap (λ xs. xs ++ task_of t ∷ []) o.tasks_are ∙ ap (λ u. map first_task (map thread_of threads) ++ u ∷ []) first
            ∙ sym (ap (map first_task) (map-append thread_of threads (th ∷ [])) ∙ map-append first_task (map thread_of threads) (thread_of th ∷ []));
        threads_are = map-append (λ u. u.progress.stack.thread) tasks (t ∷ []) ∙ ap (λ xs. xs ++ t.progress.stack.thread
            ∷ []) o.threads_are ∙ ap (λ h. threads ++ h ∷ []) fresh.thread;
        ready = ready ∙ o.ready;
        sleeping = subst (λ (ts : List states.Task). AreSleeping ts 0 q'.asleep) (sym ts_is) slept;
        kept = λ i u at. by_place i u (get-push tasks t u i at);
        at_work = λ i u at. works_at i u (get-push tasks t u i at);
      }
    where
      keeps : IsKept until 0 us t
      keeps = record {
        used = omega (arith, fresh.used);
        works = omega (arith, fresh.works);
        next = omega (arith, fresh.next, can.offset);
        units = ap (λ h. h.units.now) fresh.thread ∙ can.units;
        idle = λ not. fresh.left;
        nested = subst IsNested (sym first) (omega arith);
      }

      by_place : (i : ℕ) (u : Task) → (slice_get tasks i ≡ Some u) ⊎ ((i ≡ length tasks) × (t ≡ u)) → IsKept until 0 us u
      by_place i u (inl h) = o.kept i u h
      by_place i u (inr h) = subst (IsKept until 0 us) h.1 keeps

      works_at : (i : ℕ) (u : Task) → (slice_get tasks i ≡ Some u) ⊎ ((i ≡ length tasks) × (t ≡ u)) → IsAtWork code u.progress
      works_at i u (inl h) = o.at_work i u h
      works_at i u (inr h) = subst (λ (v : Task). IsAtWork code v.progress) h.1 at'

  -- it sleeps until its offset
  pub open-more : (offset period : ℕ) (q' : Queues) → th.timing ≡ timing.Periodic offset period
      → q' ≡ record q { asleep = in_time (length tasks, offset) q.asleep } → AreOpen until us code (threads ++ th ∷ []) (tasks ++ t ∷ []) q'
  open-more offset period q' timed is =
      let slept : AreSleeping (map task_of tasks ++ task_of t ∷ []) 0 (in_time (length (map task_of tasks), max offset 0) q.asleep) =
      sleeping-push (map task_of tasks) 0 q.asleep (task_of t) offset o.sleeping
      (ap (λ u. u.readiness) first ∙ ap (λ w. first_wait (timing_of w)) timed) in
      let most : max offset 0 ≡ offset = omega arith in
      open-pushed q' (ap (λ x. x.ready) is)
      (subst (AreSleeping (map task_of tasks ++ task_of t ∷ []) 0) (sym (ap (λ x. x.asleep) is))
      (subst (λ (n : ℕ). AreSleeping (map task_of tasks ++ task_of t ∷ []) 0 (in_time (n, offset) q.asleep)) (length-map tasks task_of)
      (subst (λ (n : ℕ). AreSleeping (map task_of tasks ++ task_of t ∷ []) 0 (in_time (length (map task_of tasks), n) q.asleep)) most slept)))

  -- it waits
  pub open-waiting : ((offset period : ℕ) → th.timing ≡ timing.Periodic offset period → ⊥)
      → AreOpen until us code (threads ++ th ∷ []) (tasks ++ t ∷ []) q
  open-waiting other =
      open-pushed q refl (waiting-push (map task_of tasks) 0 q.asleep (task_of t) o.sleeping
      (λ k h. by_timing th.timing refl k (sym (ap (λ u. u.readiness) first) ∙ h)))
    where
      by_timing : (w : Timing) → th.timing ≡ w → (k : ℕ) → first_wait (timing_of th.timing) ≡ Asleep k → ⊥
      by_timing (timing.Periodic offset period) e k h = other offset period e
      by_timing (timing.Requested op ceiling separation jitter external) e k h = cc (sym (ap (λ w. first_wait (timing_of w)) e) ∙ h)

-- it sleeps or waits
pub open-next : (until : ℕ) (us : List units.Unit) (code : LinkedUnits) (threads : List Thread) (tasks : List Task) (q : Queues)
    (o : AreOpen until us code threads tasks q) (t : Task) (th : Thread) → IsFresh t th → IsAtWork code t.progress → CanStart us th
    → (q' : Queues) → q' ≡ first_slept th.timing (length tasks) q → AreOpen until us code (threads ++ th ∷ []) (tasks ++ t ∷ []) q'
open-next until us code threads tasks q o t th fresh at' can q' is = by_timing th.timing refl
  where
    by_timing : (w : Timing) → th.timing ≡ w → AreOpen until us code (threads ++ th ∷ []) (tasks ++ t ∷ []) q'
    by_timing (timing.Periodic offset period) e
        = open-more until us code threads tasks q o t th fresh at' can offset period q' e (is ∙ ap (λ w. first_slept w (length tasks) q) e)
    by_timing (timing.Requested op ceiling separation jitter external) e =
        subst (AreOpen until us code (threads ++ th ∷ []) (tasks ++ t ∷ [])) (sym (is ∙ ap (λ w. first_slept w (length tasks) q) e))
        (open-waiting until us code threads tasks q o t th fresh at' can (λ offset period other. wrong offset period (sym e ∙ other)))
      where
        wrong : (offset period : ℕ) → timing.Requested op ceiling separation jitter external ≡ timing.Periodic offset period → ⊥
        wrong offset period k = cc

-- the next task is in neither list
pub open-free : (until : ℕ) (us : List units.Unit) (code : LinkedUnits) (threads : List Thread) (tasks : List Task) (q : Queues)
    → AreOpen until us code threads tasks q
    → length tasks < q.size → IsFree q (length tasks)
open-free until us code threads tasks q o known = record {
  known = known;
  not_ready = subst (IsApart (length tasks)) (sym o.ready) tt;
  not_asleep = each-map (SleepsUntil (map task_of tasks) 0) (λ e. length tasks ≢ e.0) q.asleep (λ e s. λ same. past e s same) o.sleeping.each;
}
  where
    past : (e : Entry) → SleepsUntil (map task_of tasks) 0 e → length tasks ≡ e.0 → ⊥
    past e s same = let h : e.0 < length (map task_of tasks) = get-within e.0 (map task_of tasks) s.0 s.2
        in omega (arith, h, length-map tasks task_of)

-- without ready tasks all numbers are 0
places-none : (k n : ℕ) → places_from k n [] ≡ replicate n (pos 0)
places-none k zero = refl
places-none k (suc n) = ap (λ zs. pos 0 ∷ zs) (places-none (suc k) n)

threads-of : (ts : List Task) → map (λ t. thread_of t.progress.stack.thread) ts ≡ map thread_of (map (λ t. t.progress.stack.thread) ts)
threads-of [] = refl
threads-of (t ∷ ts) = ap (λ xs. thread_of t.progress.stack.thread ∷ xs) (threads-of ts)

-- the calls of all tasks lead to the same in what is opened
pub open-alike : (us : List units.Unit) (threads : List Thread) (tasks : List Task) → map (λ t. t.progress.stack.thread) tasks ≡ threads
    → AllThreads (λ th. system_of th ≡ system_for 0 no_costs us threads) threads → AreAlike us tasks
open-alike us threads tasks same all = λ i t at.
    let here : slice_get threads i ≡ Some t.progress.stack.thread =
    ap (λ ths. slice_get ths i) (sym same) ∙ slice_get-map (λ u. u.progress.stack.thread) tasks i ∙ ap
    (option_map (λ u. u.progress.stack.thread)) at in
    let system : system_for 0 no_costs us threads ≡ system_by 0 no_costs us tasks =
    ap (λ ths. record (system_for 0 no_costs us threads) { threads = ths }) (ap (map thread_of) (sym same) ∙ sym (threads-of tasks)) in
    all i t.progress.stack.thread here ∙ system

pub start-alike : (work : List WorkList) (us : List units.Unit) (ts : List Thread) → map thread_of ts ≡ handed_threads work 0 (map unit_of us)
    → AllThreads (IsThreadOf work us) ts
    → AllThreads (λ t. system_of t ≡ system_for 0 no_costs us ts) ts
start-alike work us ts are each = λ i t at.
    let is : IsThreadOf work us t = each i t at in
    ap (λ ws. system_from ws (map unit_of t.units.now)) is.work ∙ ap (λ vs. system_from work (map unit_of vs)) is.units
    ∙ ap (λ ths. record (system_for 0 no_costs us ts) { threads = ths }) (sym are)

-- all tasks are open
module _ (until : ℕ) (costs : Costs) (us : List units.Unit) (code : LinkedUnits) (threads : List Thread) (tasks : List Task) (q : Queues)
    (o : AreOpen until us code threads tasks q) (near : until < 2 ^ 32) (few : length tasks < 2 ^ 32) (size : q.size
    ≡ length tasks) (alike : AreAlike us tasks) where
  pub open-sound : IsSound until 0 (Effects None) None us tasks q
  open-sound = record {
    size = size;
    queued = subst (λ (es : List Entry). AreQueued (map task_of tasks) (places (length tasks) es) es) (sym o.ready) (record {
      numbered = length-places 0 (length tasks) [] ∙ sym (length-map tasks task_of);
      each = tt;
      all = λ i t at is. none_ready i t (subst (λ (ts : List states.Task). slice_get ts i ≡ Some t) o.tasks_are at) is;
      ordered = tt;
    });
    sleeping = o.sleeping;
    kept = o.kept;
    here = tt;
    near = near;
    few = few;
    calls = alike;
    in_time = omega arith;
  }
    where
      none_ready : (i : ℕ) (t : states.Task) → slice_get (map first_task (map thread_of threads)) i ≡ Some t → t.readiness ≡ states.Ready → IsIn i []
      none_ready i t at is = by_list threads i at
        where
          by_list : (hs : List Thread) (i : ℕ) → slice_get (map first_task (map thread_of hs)) i ≡ Some t → IsIn i []
          by_list [] i at' = absurd (cc at')
          by_list (h ∷ hs) zero at' = absurd (by_timing h.timing (ap (λ u. u.readiness) (same_Some (first_task (thread_of h)) t at') ∙ is))
            where
              by_timing : (w : Timing) → first_wait (timing_of w) ≡ states.Ready → ⊥
              by_timing (timing.Periodic offset period) k = cc k
              by_timing (timing.Requested op ceiling separation jitter external) k = cc k
          by_list (h ∷ hs) (suc i) at' = by_list hs i at'

  open-state : (arrivals : List Arrival)
      → state_by (map (λ g. written g.vars) (objects_from 0 (map unit_of us))) arrivals 0 (Effects None) None false tasks q.ready
      ≡ opening (system_by until costs us tasks) arrivals
  open-state arrivals =
      let threads_is : map (λ t. thread_of t.progress.stack.thread) tasks ≡ map thread_of threads
      = threads-of tasks ∙ ap (map thread_of) o.threads_are in
      let view : List states.Task → List ℤ → states.State
      = λ ts os. record (state_by (map (λ g. written g.vars) (objects_from 0 (map unit_of us))) arrivals 0
      (Effects None) None false tasks q.ready) { tasks = ts; orders = os } in
      ap (λ es. view (map task_of tasks) (places (length tasks) es)) o.ready ∙ ap (view (map task_of tasks)) (places-none 0 (length tasks))
      ∙ ap (λ ts. view ts (replicate (length tasks) (pos 0))) (o.tasks_are ∙ ap (map first_task) (sym threads_is))
      ∙ ap (λ n. view (map first_task (map (λ t. thread_of t.progress.stack.thread) tasks)) (replicate n (pos 0)))
      (sym (length-map tasks (λ t. thread_of t.progress.stack.thread)))

  pub open-running : (arrivals : List Arrival) → record {
    system = system_by until costs us tasks;
    state = state_by (map (λ g. written g.vars) (objects_from 0 (map unit_of us))) arrivals 0 (Effects None) None false tasks q.ready;
  } ≡ opened until costs us arrivals threads
  open-running arrivals =
      let view : System → states.State → Running = λ y s. record { system = y; state = s } in
      ap (view (system_by until costs us tasks)) (open-state arrivals)
      ∙ ap (λ ts. view (record (system_for until costs us threads) { threads = ts })
      (opening (record (system_for until costs us threads) { threads = ts }) arrivals))
      (threads-of tasks ∙ ap (map thread_of) o.threads_are)

  pub open-reached : (arrivals : List Arrival) → MayExclude (system_for until costs us threads) arrivals → IsReached (system_by until costs us tasks)
      (state_by (map (λ g. written g.vars) (objects_from 0 (map unit_of us))) arrivals 0 (Effects None) None false tasks q.ready)
  open-reached arrivals excludes =
      subst (λ (r : Running). IsReached r.system r.state) (sym (open-running arrivals))
      (opening-reached (system_for until costs us threads) arrivals excludes)

pub slept-size : (w : Timing) (task : ℕ) (q : Queues) → (first_slept w task q).size ≡ q.size
slept-size (timing.Periodic offset period) task q = refl
slept-size (timing.Requested op ceiling separation jitter external) task q = refl
