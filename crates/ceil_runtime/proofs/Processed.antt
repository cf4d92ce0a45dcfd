-- A processor after one of its tasks has changed, and after ticks were used.
use Rattle.std.specs.Prelude.{◌≡◌, ◌⊎◌, ℕ, zero, suc, ◌+◌, ◌-◌, ◌*◌, ◌<◌, ◌≤◌, Bool, true, false, ◌==◌, ◌++◌, if◌then◌else◌, List, [], ◌∷◌, drop}
use Rattle.std.specs.Prelude.{length, map, set, Option, Some, None, option_map, slice_get, refl}
use Rattle.std.proofs.Common.{sym, ◌∙◌, ap, subst, arith, inl, inr, length-set, append-nil}
use Rattle.std.proofs.lemmas.Option.{same_Some, slice_get-map, slice_get_within}
use Rattle.std.proofs.lemmas.Bool.Decides.{nat_tests}
use Rattle.seq_tree.specs.Variables.{Variables}
use Rattle.seq_tree.specs.Lists.{change, first_where}
use Rattle.seq_tree.specs.declared.tree.Costs.{Costs}
use Rattle.ada_tree.specs.declared.program.Unit as units
use Rattle.arrivals_tree.specs.declared.arrivals.Arrival.{Arrival}
use Rattle.trace_tree.specs.declared.event.Event.{Event}
use Rattle.link_queue.specs.Queues.{Each, Entry, Queues, at_head}
use Rattle.machine.specs.Systems.{System}
use Rattle.machine.specs.States as states
use Rattle.machine.specs.Dispatch.{dispatched}
use Rattle.machine.specs.Releases.{Next}
use Rattle.machine.specs.Steps.{step, arrival_step, arrive_at, horizon_step}
use Rattle.machine.specs.Meanings.{Rest, Running, run, and_then}
use Rattle.trace_tree.specs.declared.event.Event.TheVariants as event
use Rattle.law_dispatching.specs.Renumbering.{DifferInOrders}
use Rattle.law_dispatching.proofs.Shared.Renumbered.{renumbered_tells}
use Rattle.machine.proofs.Shared.RunLaws.{Rest-after}
use Rattle.law_dispatching.specs.Jumping.{HasTicks, IsQuiet, NoArrival, ticks_later}
use Rattle.law_dispatching.specs.Queueing.{AreQueued, AreSleeping, places}
use Rattle.std.proofs.lemmas.List.{length-map}
use Rattle.law_dispatching.proofs.Shared.Jumps.{ticks_or_one}
use Rattle.law_dispatching.proofs.Shared.Places.{get-within}
use Rattle.law_dispatching.proofs.Shared.Heads.{dispatched-head}
use Rattle.law_dispatching.proofs.Shared.Queued.{queued-kept}
use Rattle.law_dispatching.proofs.Shared.Running.{running-taken}
use Rattle.law_dispatching.proofs.Shared.Sleeping.{none-due, sleeping-kept, sleeping-later}
use Rattle.task_runtime.specs.Callable.{CallsAlike}
use Rattle.task_runtime.specs.Libraries.{no_costs}
use Rattle.task_runtime.specs.Written.{system_of, thread_of}
use Rattle.ceil_runtime.specs.Processing.{AreAlike, AllTasks, Follows, IsKept, IsSound, IsWithin, order_of, state_by, system_by, with_task}
use Rattle.ceil_runtime.specs.Reaching.{IsReached}
use Rattle.ceil_runtime.specs.Snapshots.{AreAtWork, IsWholeAt, Snapshot, running_at}
use Rattle.task_runtime.specs.Readies.{is_ready}
use Rattle.task_runtime.specs.Works.{IsNested, used_ticks}
use Rattle.task_runtime.specs.Tasks.{task_of}
use Rattle.task_runtime.specs.declared.task.Task.{Task}
use Rattle.linker.specs.declared.program.LinkedUnits.{LinkedUnits}
use Rattle.task_runtime.specs.Sounds.{IsAtWork}
use Rattle.ceil_runtime.specs.declared.processor.Phase.TheVariants.{Effects, Arriving, Use}
use Rattle.ceil_runtime.proofs.Reaching.{reached-renumbered, reached-run}

-- the task of an entry, where there is one
abbrev first_or : ℕ → Option Entry → ℕ
first_or task None = task
first_or task (Some x) = x.0

pub get_within : (i : ℕ) (tasks : List Task) (t : Task) → slice_get tasks i ≡ Some t → i < length tasks
get_within i tasks t at = slice_get_within tasks i t at

-- some steps lead from here to there
pub follows-run : (y : System) (n : ℕ) (s s' : states.State) (told : List Event) → run y n s ≡ (s', told) → (rest : List Event) → Rest y s' rest
    → Rest y s (told ++ rest)
follows-run y n s s' told runs rest r =
    let P : Next → Type 0 = λ z. Rest y z.0 rest → Rest y s (z.1 ++ rest) in
    subst P runs (Rest-after y n s rest) r

-- runs that follow each other
pub follows-of : (y y' : System) (n : ℕ) (s s' s'' t : states.State) (told : List Event) → s ≡ s' → run y n s' ≡ (s'', told) → s'' ≡ t → y' ≡ y
    → Follows (record { system = y; state = s }) told (record { system = y'; state = t })
follows-of y y' n s s' s'' t told before runs after same = record {
  system = same;
  tells = λ rest r. subst (λ (z : states.State). Rest y z (told ++ rest)) (sym before) (follows-run y n s' s'' told runs rest
      (subst (λ (z : states.State). Rest y z rest) (sym after) r));
  reaches = λ r. subst (IsReached y) after (reached-run y n s' s'' told runs (subst (IsReached y) before r));
}

-- one task has changed
pub record Changed (tasks tasks' : List Task) (i : ℕ) (t t' : Task) (f : states.Task → states.Task) : Type 0 where
  pub here : slice_get tasks i ≡ Some t
  pub set_is : tasks' ≡ set tasks i t'
  pub does : task_of t' ≡ f (task_of t)
  pub thread : t'.progress.stack.thread ≡ t.progress.stack.thread

map-set : (tasks : List Task) (i : ℕ) (t t' : Task) (f : states.Task → states.Task) → slice_get tasks i ≡ Some t → task_of t' ≡ f (task_of t)
    → map task_of (set tasks i t') ≡ change i f (map task_of tasks)
map-set [] i t t' f here does = refl
map-set (u ∷ us) zero t t' f here does = ap (λ v. v ∷ map task_of us) (does ∙ ap (λ w. f (task_of w)) (sym (same_Some u t here)))
map-set (u ∷ us) (suc i) t t' f here does = ap (λ vs. task_of u ∷ vs) (map-set us i t t' f here does)

threads-set : (tasks : List Task) (i : ℕ) (t t' : Task) → slice_get tasks i ≡ Some t → t'.progress.stack.thread ≡ t.progress.stack.thread
    → map (λ u. thread_of u.progress.stack.thread) (set tasks i t') ≡ map (λ u. thread_of u.progress.stack.thread) tasks
threads-set [] i t t' here same = refl
threads-set (u ∷ us) zero t t' here same = ap (λ v. v ∷ map (λ u. thread_of u.progress.stack.thread) us)
    (ap thread_of same ∙ ap (λ w. thread_of w.progress.stack.thread) (sym (same_Some u t here)))
threads-set (u ∷ us) (suc i) t t' here same = ap (λ vs. thread_of u.progress.stack.thread ∷ vs) (threads-set us i t t' here same)

all-set : (P Q : Task → Type 0) (tasks : List Task) (i : ℕ) (t' : Task) → AllTasks P tasks → ((u : Task) → P u → Q u) → Q t'
    → AllTasks Q (set tasks i t')
all-set P Q [] i t' all f q = λ j u at. absurd (cc at)
all-set P Q (v ∷ vs) zero t' all f q = λ j u at. by_place j u at
  where
    by_place : (j : ℕ) (u : Task) → slice_get (t' ∷ vs) j ≡ Some u → Q u
    by_place zero u at = subst Q (same_Some t' u at) q
    by_place (suc j) u at = f u (all (suc j) u at)
all-set P Q (v ∷ vs) (suc i) t' all f q = λ j u at. by_place j u at (all-set P Q vs i t' (λ k w here. all (suc k) w here) f q)
  where
    by_place : (j : ℕ) (u : Task) → slice_get (v ∷ set vs i t') j ≡ Some u → AllTasks Q (set vs i t') → Q u
    by_place zero u at later = subst Q (same_Some v u at) (f v (all 0 v refl))
    by_place (suc j) u at later = later j u at

module _ (tasks tasks' : List Task) (i : ℕ) (t t' : Task) (f : states.Task → states.Task) (c : Changed tasks tasks' i t t' f) where
  pub changed-tasks : map task_of tasks' ≡ change i f (map task_of tasks)
  changed-tasks = ap (map task_of) c.set_is ∙ map-set tasks i t t' f c.here c.does

  pub changed-threads : map (λ u. thread_of u.progress.stack.thread) tasks' ≡ map (λ u. thread_of u.progress.stack.thread) tasks
  changed-threads = ap (map (λ u. thread_of u.progress.stack.thread)) c.set_is ∙ threads-set tasks i t t' c.here c.thread

  pub changed-length : length tasks' ≡ length tasks
  changed-length = ap length c.set_is ∙ length-set tasks i t'

  pub changed-all : (P Q : Task → Type 0) → AllTasks P tasks → ((u : Task) → P u → Q u) → Q t' → AllTasks Q tasks'
  changed-all P Q all g q = subst (AllTasks Q) (sym c.set_is) (all-set P Q tasks i t' all g q)

  -- tasks of which one has changed are at work
  pub changed-at-work : (code : LinkedUnits) → AreAtWork code tasks → IsAtWork code t'.progress → AreAtWork code tasks'
  changed-at-work code all now = changed-all (λ u. IsAtWork code u.progress) (λ u. IsAtWork code u.progress) all (λ u h. h) now

  pub same-at-work : (code : LinkedUnits) → AreAtWork code tasks → t'.progress ≡ t.progress → AreAtWork code tasks'
  same-at-work code all same = changed-at-work code all (subst (IsAtWork code) (sym same) (all i t c.here))

  pub changed-system : (until : ℕ) (costs : Costs) (us : List units.Unit) → system_by until costs us tasks' ≡ system_by until costs us tasks
  changed-system until costs us = ap (λ ts. record (system_by until costs us tasks) { threads = ts }) changed-threads

  pub changed-alike : (us : List units.Unit) → AreAlike us tasks → AreAlike us tasks'
  changed-alike us alike =
      let y : System = system_by 0 no_costs us tasks in
      let own : system_of t'.progress.stack.thread ≡ y = ap system_of c.thread ∙ alike i t c.here in
      let all = changed-all (λ u. system_of u.progress.stack.thread ≡ y) (λ u. system_of u.progress.stack.thread ≡ y) alike (λ u h. h) own in
      subst (λ (z : System). AllTasks (λ u. system_of u.progress.stack.thread ≡ z) tasks') (sym (changed-system 0 no_costs us)) all

  -- a task that is there, as a state has it
  pub here-of : slice_get (map task_of tasks) i ≡ Some (task_of t)
  here-of = slice_get-map task_of tasks i ∙ ap (option_map task_of) c.here

-- with another task at one place
pub put-at-work : (code : LinkedUnits) (tasks : List Task) (i : ℕ) (t' : Task) → AreAtWork code tasks → IsAtWork code t'.progress
    → AreAtWork code (set tasks i t')
put-at-work code tasks i t' all now = all-set (λ u. IsAtWork code u.progress) (λ u. IsAtWork code u.progress) tasks i t' all (λ u h. h) now

-- the calls of each task lead to the same in what runs
pub runs-alike : (until : ℕ) (costs : Costs) (us : List units.Unit) (tasks : List Task) → AreAlike us tasks
    → AllTasks (λ t. CallsAlike (system_by until costs us tasks) (system_of t.progress.stack.thread)) tasks
runs-alike until costs us tasks alike = λ i t at. subst (CallsAlike (system_by until costs us tasks)) (sym (alike i t at)) (λ unit op. refl)

-- what is kept goes on as time passes
pub kept-later : (until time later : ℕ) (us : List units.Unit) (t : Task) → time ≤ later → IsKept until time us t → IsKept until later us t
kept-later until time later us t le k = record {
  used = omega (arith, k.used);
  works = omega (arith, k.works);
  next = k.next;
  units = k.units;
  idle = k.idle;
  nested = k.nested;
}

-- what was put at a place
pub get-put : (tasks : List Task) (i : ℕ) (t : Task) → i < length tasks → slice_get (set tasks i t) i ≡ Some t
get-put [] i t h = absurd (none i h)
  where
    none : (i : ℕ) → i < 0 → ⊥
    none j k = omega arith
get-put (v ∷ vs) zero t h = refl
get-put (v ∷ vs) (suc i) t h = get-put vs i t (omega arith)

-- the ticks ahead are quiet
module _ (stores : List Variables) (arrivals : List Arrival) (until time : ℕ) (costs : Costs) (us : List units.Unit) (ran : Option ℕ)
    (tasks : List Task) (q : Queues) (sound : IsSound until time Use ran us tasks q) (ticks : ℕ)
    (some : 0 < ticks) (horizon : time + ticks ≤ until) (wake : Each (λ e. time + ticks ≤ e.1) q.asleep) (none_arrives : (j : ℕ) → j < ticks - 1
    → NoArrival (time + suc j) arrivals) where
  quiet : (j : ℕ) → j < ticks - 1 → IsQuiet (system_by until costs us tasks) (state_by stores arrivals time Use ran false tasks q.ready)
      (time + suc j)
  quiet j h = record {
    no_sleeper = none-due (map task_of tasks) time q.asleep sound.sleeping (time + suc j) (omega arith) (λ e at. first q.asleep wake e at);
    no_arrival = none_arrives j h;
    no_horizon = not_yet (time + suc j) until (omega arith);
  }
    where
      first : (es : List Entry) → Each (λ e. time + ticks ≤ e.1) es → (e : Entry) → slice_get es 0 ≡ Some e → time + suc j < e.1
      first [] all e at = absurd (cc at)
      first (x ∷ xs) all e at = let same : x ≡ e = same_Some x e at in let later : time + ticks ≤ e.1
          = subst (λ (z : Entry). time + ticks ≤ z.1) same all.0 in omega arith

      not_yet : (a b : ℕ) → a < b → (a == b) ≡ false
      not_yet a b k = grind (arith, nat_tests)

  -- what the ticks come to
  pub ticks-run : (o : Option ℕ) → dispatched (map task_of tasks) (places (length tasks) q.ready) ≡ o
      → (ticks ≡ 1) ⊎ HasTicks (map task_of tasks) ticks o
      → run (system_by until costs us tasks) (4 * (ticks - 1) + 1) (state_by stores arrivals time Use ran false tasks q.ready)
      ≡ (ticks_later o ticks (state_by stores arrivals time Use ran false tasks q.ready), [])
  ticks-run o first has =
      let s : states.State = state_by stores arrivals time Use ran false tasks q.ready in
      let n_is : suc (ticks - 1) ≡ ticks = omega arith in
      let runs : run (system_by until costs us tasks) (4 * (ticks - 1) + 1) s ≡ (ticks_later (dispatched s.tasks s.orders) (suc (ticks - 1)) s, []) =
      ticks_or_one (system_by until costs us tasks) (ticks - 1) s refl refl (by_ticks has) quiet in
      runs ∙ ap (λ n. let next : Next = (ticks_later (dispatched s.tasks s.orders) n s, [])
      in next) n_is ∙ ap (λ d. let next : Next = (ticks_later d ticks s, []) in next) first
    where
      by_ticks : (ticks ≡ 1) ⊎ HasTicks (map task_of tasks) ticks o → (ticks - 1 ≡ 0)
          ⊎ HasTicks (map task_of tasks) (suc (ticks - 1)) (dispatched (map task_of tasks) (places (length tasks) q.ready))
      by_ticks (inl one) = inl (omega arith)
      by_ticks (inr h) = inr (subst (λ (n : ℕ). HasTicks (map task_of tasks) n (dispatched (map task_of tasks) (places (length tasks) q.ready)))
          (omega arith) (subst (HasTicks (map task_of tasks) ticks) (sym first) h))

  -- without a ready task
  pub idle-run : slice_get q.ready 0 ≡ None
      → run (system_by until costs us tasks) (4 * (ticks - 1) + 1) (state_by stores arrivals time Use ran false tasks q.ready)
      ≡ (state_by stores arrivals (time + ticks) (Effects None) None false tasks q.ready, [])
  idle-run none = ticks-run None (dispatched-head (map task_of tasks) (places (length tasks) q.ready) q.ready sound.queued ∙ ap
      (option_map (λ e. e.0)) none) (inr tt)

  pub idle-sound : IsSound until (time + ticks) (Effects None) None us tasks q
  idle-sound = record {
    size = sound.size;
    queued = sound.queued;
    sleeping = sleeping-later (map task_of tasks) time (time + ticks) q.asleep sound.sleeping (omega arith) wake;
    kept = λ i t at. kept-later until time (time + ticks) us t (omega arith) (sound.kept i t at);
    here = tt;
    near = sound.near;
    few = sound.few;
    calls = sound.calls;
    in_time = horizon;
  }

  -- the first ready task
  module _ (task level : ℕ) (tasks' : List Task) (t t' : Task) (c : Changed tasks tasks' task t t' (used_ticks ticks))
      (first : ◌≡◌ {A = Option Entry} (slice_get q.ready 0) (Some (task, level))) (within : IsWithin tasks q.ready ticks)
      (left : t'.left ≡ t.left - ticks) (used : t'.used ≡ t.used + ticks) (works : t'.works ≡ t.works) (next : t'.next ≡ t.next) (ready : t'.readiness
      ≡ t.readiness) where
    has : (ticks ≡ 1) ⊎ HasTicks (map task_of tasks) ticks (Some task)
    has = by_ready q.ready first within
      where
        by_ready : (ready : List Entry) → ◌≡◌ {A = Option Entry} (slice_get ready 0) (Some (task, level)) → IsWithin tasks ready ticks
            → (ticks ≡ 1) ⊎ HasTicks (map task_of tasks) ticks (Some task)
        by_ready [] none w = absurd (cc none)
        by_ready (e ∷ es) is w = by_left (w t (ap (slice_get tasks) (head_is is) ∙ c.here))
          where
            head_is : ◌≡◌ {A = Option Entry} (Some e) (Some (task, level)) → e.0 ≡ task
            head_is k = ap (first_or task) k

            by_left : (ticks ≡ 1) ⊎ (ticks ≤ t.left) → (ticks ≡ 1) ⊎ HasTicks (map task_of tasks) ticks (Some task)
            by_left (inl one) = inl one
            by_left (inr le) = inr (λ u at. lefts u (same_Some _ _ (sym (here-of tasks tasks' task t t' (used_ticks ticks) c) ∙ at)))
              where
                lefts : (u : states.Task) → task_of t ≡ u → ticks ≤ u.left
                lefts u same = let l : t.left ≡ u.left = ap (λ v. v.left) same in omega (arith, le, l)

    -- the task is taken off the ready list, and stands first in the order of dispatch
    use-order : order_of (Effects (Some task)) tasks' (drop 1 q.ready) ≡ q.ready
    use-order =
        ap (λ o. with_task task o (drop 1 q.ready)) (ap (λ ts. slice_get ts task) c.set_is ∙ get-put tasks task t' (get_within task tasks t c.here))
        ∙ by_ready q.ready first sound.queued
      where
        by_ready : (ready : List Entry) → ◌≡◌ {A = Option Entry} (slice_get ready 0) (Some (task, level))
            → AreQueued (map task_of tasks) (places (length tasks) q.ready) ready → at_head (task, (task_of t').active) (drop 1 ready) ≡ ready
        by_ready [] none w = absurd (cc none)
        by_ready (e ∷ es) is w =
            let same : e.0 ≡ task = ap (first_or task) is in
            let here : task_of t ≡ w.each.0.0
            = same_Some (task_of t) w.each.0.0 (sym (here-of tasks tasks' task t t' (used_ticks ticks) c) ∙ ap (slice_get (map task_of tasks))
            (sym same) ∙ w.each.0.1) in
            let active : (task_of t').active ≡ e.1 = ap (λ u. u.active) c.does ∙ ap (λ u. u.active) here ∙ w.each.0.3 in
            ap (λ n. at_head (n, (task_of t').active) es) (sym same) ∙ ap (λ n. at_head (e.0, n) es) active ∙ running-taken
            (places (length tasks) q.ready) e es w.ordered

    pub use-run : run (system_by until costs us tasks) (4 * (ticks - 1) + 1) (state_by stores arrivals time Use ran false tasks q.ready)
        ≡ (state_by stores arrivals (time + ticks) (Effects (Some task)) (Some task) false tasks' (drop 1 q.ready), [])
    use-run =
        let view : List states.Task → ℕ → List Entry → Next =
        λ ts n es. (
          record (state_by stores arrivals (time + ticks) (Effects None) (Some task) false tasks q.ready) {
            tasks = ts;
            orders = places n es;
          },
          [],
        ) in
        ticks-run (Some task) (dispatched-head (map task_of tasks) (places (length tasks) q.ready) q.ready sound.queued ∙ ap
        (option_map (λ e. e.0)) first) has
        ∙ ap (λ ts. view ts (length tasks) q.ready) (sym (changed-tasks tasks tasks' task t t' (used_ticks ticks) c))
        ∙ ap (λ n. view (map task_of tasks') n q.ready) (sym (changed-length tasks tasks' task t t' (used_ticks ticks) c))
        ∙ ap (view (map task_of tasks') (length tasks')) (sym use-order)

    pub use-sound : (q' : Queues) → q' ≡ record q { ready = drop 1 q.ready }
        → IsSound until (time + ticks) (Effects (Some task)) (Some task) us tasks' q'
    use-sound q' is = subst (IsSound until (time + ticks) (Effects (Some task)) (Some task) us tasks') (sym is) (record {
      size = sound.size ∙ sym len;
      queued = subst (λ (es : List Entry). AreQueued (map task_of tasks') (places (length tasks') es) es) (sym use-order)
          (subst (λ (ts : List states.Task). AreQueued ts (places (length tasks') q.ready) q.ready) (sym ts_is)
          (subst (λ (n : ℕ). AreQueued (change task (used_ticks ticks) (map task_of tasks)) (places n q.ready) q.ready) (sym len)
          (queued-kept (map task_of tasks) (places (length tasks) q.ready) q.ready task (used_ticks ticks) sound.queued (λ u. (refl, refl)))));
      sleeping = subst (λ (ts : List states.Task). AreSleeping ts (time + ticks) q.asleep) (sym ts_is)
          (sleeping-later (change task (used_ticks ticks) (map task_of tasks)) time (time + ticks) q.asleep
          (sleeping-kept (map task_of tasks) time q.asleep task (used_ticks ticks) sound.sleeping (λ u. refl)) (omega arith) wake);
      kept = changed-all tasks tasks' task t t' (used_ticks ticks) c (IsKept until time us) (IsKept until (time + ticks) us) sound.kept
          (λ u k. kept-later until time (time + ticks) us u (omega arith) k) (keeps (sound.kept task t c.here));
      here = (refl, omega (arith, len, get_within task tasks t c.here));
      near = sound.near;
      few = omega (arith, len, sound.few);
      calls = changed-alike tasks tasks' task t t' (used_ticks ticks) c us sound.calls;
      in_time = horizon;
    })
      where
        len : length tasks' ≡ length tasks
        len = changed-length tasks tasks' task t t' (used_ticks ticks) c

        ts_is : map task_of tasks' ≡ change task (used_ticks ticks) (map task_of tasks)
        ts_is = changed-tasks tasks tasks' task t t' (used_ticks ticks) c

        none : 0 - ticks ≡ 0
        none = omega arith

        keeps : IsKept until time us t → IsKept until (time + ticks) us t'
        keeps k = record {
          used = omega (arith, k.used);
          works = omega (arith, k.works);
          next = omega (arith, k.next);
          units = ap (λ th. th.units.now) c.thread ∙ k.units;
          idle = λ not. left ∙ ap (λ l. l - ticks) (k.idle (ap is_ready (sym ready) ∙ not)) ∙ none;
          nested = subst IsNested (sym c.does) k.nested;
        }

-- the first entry of a list, by its task
pub first-entry : (ready : List Entry) (task : ℕ) → Some task ≡ option_map (λ (e : Entry). e.0) (slice_get ready 0)
    → (level : ℕ) × ◌≡◌ {A = Option Entry} (slice_get ready 0) (Some (task, level))
first-entry [] task is = absurd (cc is)
first-entry (e ∷ es) task is = (e.1, ap (λ n. let x : Option Entry = Some (n, e.1) in x) (sym (same_Some task e.0 is)))

pub no-entry : (ready : List Entry) → None ≡ option_map (λ (e : Entry). e.0) (slice_get ready 0) → (slice_get ready 0 ≡ None) × (drop 1 ready ≡ ready)
no-entry [] is = (refl, refl)
no-entry (e ∷ es) is = absurd (cc is)

-- a task of the ready list is one of the tasks
pub ready-known : (tasks : List Task) (ready : List Entry) (task level : ℕ) → AreQueued (map task_of tasks) (places (length tasks) ready) ready
    → ◌≡◌ {A = Option Entry} (slice_get ready 0) (Some (task, level)) → task < length tasks
ready-known tasks [] task level q is = absurd (cc is)
ready-known tasks (e ∷ es) task level q is =
    let h : e.0 < length (map task_of tasks) = get-within e.0 (map task_of tasks) q.each.0.0 q.each.0.1 in
    let same : e.0 ≡ task = ap (first_or task) is in
    omega (arith, h, length-map tasks task_of, same)

-- one step
pub step-run : (y : System) (s s' : states.State) (told : List Event) → step y s ≡ (s', told) → run y 1 s ≡ (s', told)
step-run y s s' told e = ap (and_then (run y 0)) e ∙ ap (λ es. let next : Next = (s', es) in next) (append-nil told)

-- runs that follow each other but for order numbers
pub follows-renumbered : (y y' : System) (n : ℕ) (s s' s'' t : states.State) (told : List Event) → s ≡ s' → run y n s' ≡ (s'', told)
    → DifferInOrders s'' t → y' ≡ y
    → Follows (record { system = y; state = s }) told (record { system = y'; state = t })
follows-renumbered y y' n s s' s'' t told before runs differ same = record {
  system = same;
  tells = λ rest r. subst (λ (z : states.State). Rest y z (told ++ rest)) (sym before) (follows-run y n s' s'' told runs rest
      ((renumbered_tells y s'' t rest differ).1 r));
  reaches = λ r. reached-renumbered y s'' t differ (reached-run y n s' s'' told runs (subst (IsReached y) before r));
}

-- where a run stands after steps that it makes
pub still-reached : {s : Snapshot} {r : Running} {told : List Event} → IsWholeAt s → Follows (running_at s) told r → IsReached r.system r.state
still-reached {s} {r} {told} whole f = subst (λ (y : System). IsReached y r.state) (sym f.system) (f.reaches whole.reached)

-- where none arrives now, the arrivals are over
none-arrives : (y : System) (arrivals : List Arrival) (s : states.State) → NoArrival s.time arrivals → arrival_step y arrivals s ≡ horizon_step y s
none-arrives y [] s none = refl
none-arrives y (a ∷ others) s none =
    ap (λ b. if b then arrive_at y a (first_where (λ t. t.thread.unit == a.task) s.tasks) (record s { arrivals = others }) else horizon_step y s) none

pub arriving-goes : (y : System) (stores : List Variables) (arrivals : List Arrival) (time : ℕ) (ran : Option ℕ) (tasks : List Task)
    (ready : List Entry) → NoArrival time arrivals → (time ≡ y.until → ⊥)
    → run y 1 (state_by stores arrivals time Arriving ran false tasks ready) ≡ (state_by stores arrivals time Use ran false tasks ready, [])
arriving-goes y stores arrivals time ran tasks ready none before =
    step-run y (state_by stores arrivals time Arriving ran false tasks ready) (state_by stores arrivals time Use ran false tasks ready) []
    (none-arrives y arrivals (state_by stores arrivals time Arriving ran false tasks ready) none
    ∙ ap (λ b. if b then (record (state_by stores arrivals time Arriving ran false tasks ready) { stopped = true }, event.Horizon time ∷ [])
    else (state_by stores arrivals time Use ran false tasks ready, [])) (not_yet (time == y.until) refl))
  where
    not_yet : (b : Bool) → (time == y.until) ≡ b → b ≡ false
    not_yet true e = absurd (before (same time y.until e))
      where
        same : (m n : ℕ) → (m == n) ≡ true → m ≡ n
        same m n h = grind (arith, nat_tests)
    not_yet false e = refl

pub arriving-ends : (y : System) (stores : List Variables) (arrivals : List Arrival) (time : ℕ) (ran : Option ℕ) (tasks : List Task)
    (ready : List Entry) → NoArrival time arrivals → time ≡ y.until
    → run y 1 (state_by stores arrivals time Arriving ran false tasks ready)
    ≡ (state_by stores arrivals time Arriving ran true tasks ready, event.Horizon time ∷ [])
arriving-ends y stores arrivals time ran tasks ready none now =
    step-run y (state_by stores arrivals time Arriving ran false tasks ready) (state_by stores arrivals time Arriving ran true tasks ready)
    (event.Horizon time ∷ [])
    (none-arrives y arrivals (state_by stores arrivals time Arriving ran false tasks ready) none
    ∙ ap (λ b. if b then (record (state_by stores arrivals time Arriving ran false tasks ready) { stopped = true }, event.Horizon time ∷ [])
    else (state_by stores arrivals time Use ran false tasks ready, [])) (same time y.until now))
  where
    same : (m n : ℕ) → m ≡ n → (m == n) ≡ true
    same m n h = grind (arith, nat_tests)

-- the task that was put at a place
pub get-set_same : (tasks : List Task) (i : ℕ) (t u : Task) → i < length tasks → slice_get (set tasks i t) i ≡ Some u → t ≡ u
get-set_same [] i t u h at = absurd (cc at)
get-set_same (v ∷ vs) zero t u h at = same_Some t u at
get-set_same (v ∷ vs) (suc i) t u h at = get-set_same vs i t u (omega arith) at

-- of two tasks that are put at a place the later one stands there
pub set-twice : (tasks : List Task) (i : ℕ) (t u : Task) → set (set tasks i t) i u ≡ set tasks i u
set-twice [] i t u = refl
set-twice (v ∷ vs) zero t u = refl
set-twice (v ∷ vs) (suc i) t u = ap (λ ws. v ∷ ws) (set-twice vs i t u)
