-- The steps of a processor in the parts of an instant in which no task has effects: delays, arrivals, the horizon and the use of ticks.
use Rattle.std.specs.Prelude.{◌≡◌, ℕ, suc, ◌+◌, ◌-◌, ◌*◌, ◌<◌, ◌≤◌, ◌^◌, min, true, false, List, [], ◌∷◌, drop, length, map, set, Option, Some, None}
use Rattle.std.specs.Prelude.{get_or, option_map, slice_get, refl}
use Rattle.std.proofs.Common.{sym, ◌∙◌, ap, subst, arith}
use Rattle.std.proofs.lemmas.Option.{slice_get_read}
use Rattle.seq_tree.specs.Lists.{change, first_where}
use Rattle.arrivals_tree.specs.declared.arrivals.Arrival.{Arrival}
use Rattle.trace_tree.specs.declared.event.Event.{Event}
use Rattle.trace_tree.specs.declared.event.Event.TheVariants as event
use Rattle.link_queue.specs.Queues.{Each, Entry, IsFree, Queues, after_due, at_tail, due}
use Rattle.machine.specs.Dispatch.{put_last}
use Rattle.machine.specs.Releases.{released}
use Rattle.machine.specs.States as states
use Rattle.law_dispatching.specs.Jumping.{NoArrival}
use Rattle.law_dispatching.specs.Queueing.{places}
use Rattle.law_dispatching.specs.Renumbering.{DifferInOrders}
use Rattle.task_runtime.specs.Effort.{most_ends}
use Rattle.task_runtime.specs.Readies.{is_ready}
use Rattle.task_runtime.specs.Works.{asked, used_ticks}
use Rattle.task_runtime.specs.Tasks.{task_of}
use Rattle.task_runtime.specs.declared.readiness.Readiness.TheVariants as readies
use Rattle.task_runtime.specs.declared.task.Task.{Task}
use Rattle.task_runtime.specs.Sounds.{IsAtWork}
use Rattle.ceil_runtime.specs.Left.{left}
use Rattle.ceil_runtime.specs.Processing.{Follows, IsKept, IsSound, IsWithin, state_by}
use Rattle.ceil_runtime.specs.Snapshots.{IsWholeAt, Snapshot, running_at, state_at, system_at}
use Rattle.ceil_runtime.specs.Stepping.{Nothing, One, Steps, Two}
use Rattle.ceil_runtime.specs.declared.processor.Phase.TheVariants.{Effects, Delays, Arriving, Use}
use Rattle.ceil_runtime.proofs.Arrived.{answered-differs, answered-run, answered-sound, asked-known, asked-run, asked-sound, asked-state, asked-unit}
use Rattle.ceil_runtime.proofs.Arrived.{is_of, nobody-asked}
use Rattle.ceil_runtime.proofs.Falling.{falls-arrival, falls-release, falls-use}
use Rattle.ceil_runtime.proofs.Nearing.{nears-ticks, ran-few}
use Rattle.ceil_runtime.proofs.Phases.{at_phase}
use Rattle.ceil_runtime.proofs.Processed.{Changed, arriving-ends, arriving-goes, changed-system, first-entry, follows-of, follows-renumbered, get-put}
use Rattle.ceil_runtime.proofs.Processed.{changed-at-work, idle-run, idle-sound, no-entry, ready-known, same-at-work, set-twice, still-reached}
use Rattle.ceil_runtime.proofs.Processed.{use-run, use-sound}
use Rattle.ceil_runtime.proofs.Released.{delays-over, going-readiness, over-sound, release-differs, release-run, release-sound, waiting-apart}
use Rattle.ceil_runtime.proofs.Released.{waiting-free, woken-asleep, woken-known}

-- the delays of an instant
module _ (s : Snapshot) (whole : IsWholeAt (at_phase Delays s)) where
  -- they are over
  pub over-step : (q' : Queues) → None ≡ due s.time s.queues.asleep → q' ≡ record s.queues { asleep = after_due s.time s.queues.asleep }
      → Steps (at_phase Delays s) Nothing (record s { phase = Arriving; stopped = false; queues = q' })
  over-step q' none is =
      let f : Follows (running_at (at_phase Delays s)) [] (running_at (record s { phase = Arriving; stopped = false; queues = q' })) =
      follows-of (system_at s) (system_at s) 1 _ _ _ _ [] refl
      (delays-over s.stores s.arrivals s.until s.time s.costs s.units s.ran s.tasks s.queues whole.sound none)
      (ap (λ (q : Queues). state_by s.stores s.arrivals s.time Arriving s.ran false s.tasks q.ready) (sym is)) refl in
      record {
        whole = λ on. record {
          sound = over-sound s.stores s.arrivals s.until s.time s.costs s.units s.ran s.tasks s.queues whole.sound q' none is;
          at_work = whole.at_work;
          reached = still-reached whole f;
        };
        follows = f;
        ends = refl;
        nears = omega arith;
        of = tt;
        falls = λ on. omega arith;
      }

  -- the first task that is due
  module _ (i : ℕ) (first : Some i ≡ due s.time s.queues.asleep) where
    pub woken : i < length s.tasks
    woken = woken-known s.stores s.arrivals s.until s.time s.costs s.units s.ran s.tasks s.queues whole.sound i first

    module _ (t : Task) (read : t ≡ get_or s.tasks i t) where
      woken-here : slice_get s.tasks i ≡ Some t
      woken-here = slice_get_read s.tasks (length s.tasks) i t refl woken read

      woken-sleeps : (t.readiness ≡ readies.Asleep) × (t.next ≤ s.time)
      woken-sleeps = woken-asleep s.stores s.arrivals s.until s.time s.costs s.units s.ran s.tasks s.queues whole.sound i first t woken-here

      woken-kept : IsKept s.until s.time s.units t
      woken-kept = whole.sound.kept i t woken-here

      pub woken-rests : is_ready t.readiness ≡ false
      woken-rests = ap is_ready woken-sleeps.0

      pub woken-next : t.next < 2 ^ 63
      woken-next = omega (arith, woken-kept.next, whole.sound.near)

      pub woken-at-work : IsAtWork s.code t.progress
      woken-at-work = whole.at_work i t woken-here

      pub woken-works : t.works < 2 ^ 63
      woken-works = omega (arith, woken-kept.works, whole.sound.in_time, whole.sound.near)

      -- it is released
      pub release-step : (t' : Task) → task_of t' ≡ released s.costs (task_of t) → t'.progress.stack.thread ≡ t.progress.stack.thread
          → t'.works ≤ t.works + min t'.left 1 → t'.next < t.next + 2 ^ 32 → IsAtWork s.code t'.progress → (q' : Queues)
          → q' ≡ record s.queues { ready = at_tail (i, t'.active) s.queues.ready; asleep = after_due s.time s.queues.asleep }
          → Steps (at_phase Delays s) (One (event.Release s.time t'.progress.stack.thread.unit t.gate.value))
          (record s { phase = Delays; stopped = false; tasks = set s.tasks i t'; queues = q' })
      release-step t' does thread works near at' q' is =
          let tasks' = set s.tasks i t' in
          let c : Changed s.tasks tasks' i t t' (released s.costs) = record { here = woken-here; set_is = refl; does = does; thread = thread } in
          let same = changed-system s.tasks tasks' i t t' (released s.costs) c s.until s.costs s.units in
          let told : Event → List Event = λ e. e ∷ [] in
          let after : states.State = record (state_at (at_phase Delays s)) {
            tasks = change i (released s.costs) (map task_of s.tasks);
            orders = put_last i (places (length s.tasks) s.queues.ready);
          } in
          let f : Follows (running_at (at_phase Delays s)) (told (event.Release s.time t'.progress.stack.thread.unit t.gate.value))
          (running_at (record s { phase = Delays; stopped = false; tasks = tasks'; queues = q' })) =
          subst (λ th. Follows (running_at (at_phase Delays s)) (told (event.Release s.time th.unit t.gate.value))
          (running_at (record s { phase = Delays; stopped = false; tasks = tasks'; queues = q' }))) (sym thread)
          (follows-renumbered (system_at s) _ 1 _ _ _ _ (told (event.Release s.time t.progress.stack.thread.unit t.gate.value)) refl
          (release-run s.stores s.arrivals s.until s.time s.costs s.units s.ran s.tasks s.queues whole.sound i first tasks' t t' c)
          (subst (λ (q : Queues). DifferInOrders after (state_by s.stores s.arrivals s.time Delays s.ran false tasks' q.ready)) (sym is)
          (release-differs s.stores s.arrivals s.until s.time s.costs s.units s.ran s.tasks s.queues whole.sound i first tasks' t t' c)) same) in
          record {
            whole = λ on. record {
              sound = release-sound s.stores s.arrivals s.until s.time s.costs s.units s.ran s.tasks s.queues whole.sound i first tasks' t t' c q' is
                  works near;
              at_work = changed-at-work s.tasks tasks' i t t' (released s.costs) c s.code whole.at_work at';
              reached = still-reached whole f;
            };
            follows = f;
            ends = (tt, refl);
            nears = tt;
            of = record { place = i; task = t; here = woken-here; is_unit = ap (λ th. th.unit) thread };
            falls = λ on. falls-release s.tasks tasks' i t t' (released s.costs) c s.until s.costs s.units s.stores s.stores s.arrivals s.time s.ran
                false s.queues.ready q'.ready woken-sleeps.0 (ap (λ u. u.readiness) does ∙ going-readiness s.costs _ _ _);
          }

-- an arrival whose time has come
module _ (s : Snapshot) (a : Arrival) (others : List Arrival) (whole : IsWholeAt (record s {
  phase = Arriving;
  stopped = false;
  arrivals = a ∷ others;
})) (now : a.time ≡ s.time) where
  -- the part before it is taken off the arrivals
  abbrev coming : Snapshot
  coming = record s { phase = Arriving; stopped = false; arrivals = a ∷ others }

  -- no task is of its unit
  pub nobody-step : None ≡ option_map (λ (x : ℕ × states.Task). x.0) (first_where (is_of a.task) (map task_of s.tasks))
      → Steps coming Nothing (record s { phase = Arriving; stopped = false; arrivals = others })
  nobody-step none =
      let f : Follows (running_at coming) [] (running_at (record s { phase = Arriving; stopped = false; arrivals = others })) =
      follows-of (system_at s) (system_at s) 1 _ _ _ _ [] refl
      (nobody-asked s.stores a others s.until s.time s.costs s.units s.ran s.tasks s.queues whole.sound now none) refl refl in
      record {
        whole = λ on. record { sound = whole.sound; at_work = whole.at_work; reached = still-reached whole f };
        follows = f;
        ends = refl;
        nears = omega arith;
        of = tt;
        falls = λ on. omega arith;
      }

  -- the first task of its unit
  module _ (i : ℕ) (found : Some i ≡ option_map (λ (x : ℕ × states.Task). x.0) (first_where (is_of a.task) (map task_of s.tasks))) where
    pub reached : i < length s.tasks
    reached = asked-known s.stores a others s.until s.time s.costs s.units s.ran s.tasks s.queues whole.sound now i found

    module _ (t : Task) (read : t ≡ get_or s.tasks i t) (t' : Task) (does : task_of t' ≡ asked a.value (task_of t))
        (thread : t'.progress.stack.thread ≡ t.progress.stack.thread) (same : t'.readiness ≡ t.readiness) where
      abbrev arrived : List Task
      arrived = set s.tasks i t'

      asks : Changed s.tasks arrived i t t' (asked a.value)
      asks = record { here = slice_get_read s.tasks (length s.tasks) i t refl reached read; set_is = refl; does = does; thread = thread }

      reached-sound : IsSound s.until s.time Arriving s.ran s.units arrived s.queues
      reached-sound =
          asked-sound s.stores a others s.until s.time s.costs s.units s.ran s.tasks s.queues whole.sound now i found t t' arrived asks same

      now-here : slice_get arrived i ≡ Some t'
      now-here = get-put s.tasks i t' reached

      pub reached-next : t'.next < 2 ^ 63
      reached-next = let k = reached-sound.kept i t' now-here in omega (arith, k.next, whole.sound.near)

      pub reached-at-work : t'.progress ≡ t.progress → IsAtWork s.code t'.progress
      reached-at-work progress = subst (IsAtWork s.code) (sym progress) (whole.at_work i t asks.here)

      pub reached-works : t'.works < 2 ^ 63
      reached-works = let k = reached-sound.kept i t' now-here in omega (arith, k.works, whole.sound.in_time, whole.sound.near)

      pub reached-free : t'.readiness ≡ readies.Waiting → IsFree s.queues i
      reached-free waits = waiting-free s.until s.time s.units Arriving s.ran arrived s.queues reached-sound reached-sound.queued.each i t' now-here
          waits

      reached-unit : a.task ≡ t.progress.stack.thread.unit
      reached-unit = asked-unit s.stores a others s.until s.time s.costs s.units s.ran s.tasks s.queues whole.sound now i found t t' arrived asks

      -- it doesn't wait
      pub kept-step : t'.progress ≡ t.progress → (t'.readiness ≡ readies.Waiting → ⊥) → Steps coming (One (event.Arrive s.time a.task a.value))
          (record s { phase = Arriving; stopped = false; arrivals = others; tasks = arrived })
      kept-step progress not =
          let f : Follows (running_at coming) (event.Arrive s.time a.task a.value ∷ [])
          (running_at (record s { phase = Arriving; stopped = false; arrivals = others; tasks = arrived })) =
          follows-of (system_at s) _ 1 _ _ _ _ (event.Arrive s.time a.task a.value ∷ []) refl
          (asked-run s.stores a others s.until s.time s.costs s.units s.ran s.tasks s.queues whole.sound now i found t t' arrived asks
          (waiting-apart t'.readiness t'.next not))
          (asked-state s.stores a others s.until s.time s.costs s.units s.ran s.tasks s.queues whole.sound now i found t t' arrived asks)
          (changed-system s.tasks arrived i t t' (asked a.value) asks s.until s.costs s.units) in
          record {
            whole = λ on. record {
              sound = reached-sound;
              at_work = same-at-work s.tasks arrived i t t' (asked a.value) asks s.code whole.at_work progress;
              reached = still-reached whole f;
            };
            follows = f;
            ends = (tt, refl);
            nears = tt;
            of = record { place = i; task = t; here = asks.here; is_unit = reached-unit };
            falls = λ on. falls-arrival s.tasks arrived i t t' (asked a.value) asks s.until s.costs s.units s.stores s.stores a others s.time 1 s.ran
                false s.queues.ready s.queues.ready (omega arith);
          }

      -- it waits, and is released
      pub served-step : t'.readiness ≡ readies.Waiting → (t'' : Task) → task_of t'' ≡ released s.costs (task_of t')
          → t''.progress.stack.thread ≡ t'.progress.stack.thread → t''.works ≤ t'.works + min t''.left 1 → t'.progress ≡ t.progress
          → IsAtWork s.code t''.progress → (q' : Queues) → q' ≡ record s.queues { ready = at_tail (i, t''.active) s.queues.ready }
          → Steps coming (Two (event.Arrive s.time a.task a.value) (event.Release s.time t''.progress.stack.thread.unit a.value))
          (record s { phase = Arriving; stopped = false; arrivals = others; tasks = set s.tasks i t''; queues = q' })
      served-step waits t'' does' thread' works progress at'' q' is =
          let tasks'' = set s.tasks i t'' in
          let again : Changed arrived tasks'' i t' t'' (released s.costs)
          = record { here = now-here; set_is = sym (set-twice s.tasks i t' t''); does = does'; thread = thread' } in
          let whole_same = changed-system arrived tasks'' i t' t'' (released s.costs) again s.until s.costs s.units
          ∙ changed-system s.tasks arrived i t t' (asked a.value) asks s.until s.costs s.units in
          let told : Event → List Event = λ e. event.Arrive s.time a.task a.value ∷ e ∷ [] in
          let after : states.State = record (state_by s.stores others s.time Arriving s.ran false s.tasks s.queues.ready) {
            tasks = change i (released s.costs) (change i (asked a.value) (map task_of s.tasks));
            orders = put_last i (places (length s.tasks) s.queues.ready);
          } in
          let event_is : event.Release s.time t'.progress.stack.thread.unit (task_of t').gate.value
          ≡ event.Release s.time t''.progress.stack.thread.unit a.value =
          ap (λ v. event.Release s.time t'.progress.stack.thread.unit v) (ap (λ u. u.gate.value) does)
          ∙ ap (λ th. event.Release s.time th.unit a.value) (sym thread') in
          let first = falls-arrival s.tasks arrived i t t' (asked a.value) asks s.until s.costs s.units s.stores s.stores a others s.time 2 s.ran
          false s.queues.ready s.queues.ready (omega arith) in
          let f : Follows (running_at coming) (told (event.Release s.time t''.progress.stack.thread.unit a.value))
          (running_at (record s { phase = Arriving; stopped = false; arrivals = others; tasks = tasks''; queues = q' })) =
          subst (λ e. Follows (running_at coming) (told e)
          (running_at (record s { phase = Arriving; stopped = false; arrivals = others; tasks = tasks''; queues = q' }))) event_is
          (follows-renumbered (system_at s) _ 1 _ _ _ _ (told (event.Release s.time t'.progress.stack.thread.unit (task_of t').gate.value)) refl
          (answered-run s.stores a others s.until s.time s.costs s.units s.ran s.tasks s.queues whole.sound now i found t t' arrived asks t''
          tasks'' again waits)
          (subst (λ (q : Queues). DifferInOrders after (state_by s.stores others s.time Arriving s.ran false tasks'' q.ready)) (sym is)
          (answered-differs s.stores a others s.until s.time s.costs s.units s.ran s.tasks s.queues whole.sound now i found t t' arrived asks
          t'' tasks'' again waits)) whole_same) in
          record {
            whole = λ on. record {
              sound = answered-sound s.stores a others s.until s.time s.costs s.units s.ran s.tasks s.queues whole.sound now i found t t' arrived asks
                  t'' tasks'' again waits q' same is works;
              at_work = changed-at-work arrived tasks'' i t' t'' (released s.costs) again s.code
                  (same-at-work s.tasks arrived i t t' (asked a.value) asks s.code whole.at_work progress) at'';
              reached = still-reached whole f;
            };
            follows = f;
            ends = (tt, tt, refl);
            nears = tt;
            of = (
              record { place = i; task = t; here = asks.here; is_unit = reached-unit },
              record { place = i; task = t; here = asks.here; is_unit = ap (λ th. th.unit) (thread' ∙ thread) },
            );
            falls = λ on.
                subst (λ y. (s.until - s.time) * (2 * most_ends y + length y.threads) + 0 + 2 * length others + 2 ≤ left (running_at coming))
                (sym (changed-system arrived tasks'' i t' t'' (released s.costs) again s.until s.costs s.units)) first;
          }

-- the end of the arrivals of an instant
module _ (s : Snapshot) (whole : IsWholeAt (at_phase Arriving s)) (none : NoArrival s.time s.arrivals) where
  -- it is the horizon
  pub horizon-step : s.time ≡ s.until
      → Steps (at_phase Arriving s) (One (event.Horizon s.time)) (record s { phase = Arriving; stopped = true })
  horizon-step over = record {
    whole = λ on. absurd (cc on);
    follows = follows-of (system_at s) (system_at s) 1 _ _ _ _ (event.Horizon s.time ∷ []) refl
        (arriving-ends (system_at s) s.stores s.arrivals s.time s.ran s.tasks s.queues.ready none over) refl refl;
    ends = (refl, refl);
    nears = tt;
    of = tt;
    falls = λ on. absurd (cc on);
  }

  -- it is before the horizon
  pub before-step : (s.time ≡ s.until → ⊥) → Steps (at_phase Arriving s) Nothing (record s { phase = Use; stopped = false })
  before-step before =
      let more : s.time < s.until = less s.time s.until whole.sound.in_time before in
      let f : Follows (running_at (at_phase Arriving s)) [] (running_at (record s { phase = Use; stopped = false })) =
      follows-of (system_at s) (system_at s) 1 _ _ _ _ [] refl
      (arriving-goes (system_at s) s.stores s.arrivals s.time s.ran s.tasks s.queues.ready none before) refl refl in
      record {
        whole = λ on. record {
          sound = record {
            size = whole.sound.size;
            queued = whole.sound.queued;
            sleeping = whole.sound.sleeping;
            kept = whole.sound.kept;
            calls = whole.sound.calls;
            here = (more, whole.sound.here);
            near = whole.sound.near;
            few = whole.sound.few;
            in_time = whole.sound.in_time;
          };
          at_work = whole.at_work;
          reached = still-reached whole f;
        };
        follows = f;
        ends = refl;
        nears = omega arith;
        of = tt;
        falls = λ on. omega arith;
      }
    where
      less : (m n : ℕ) → m ≤ n → (m ≡ n → ⊥) → m < n
      less m n h d = grind arith

-- the use of ticks
module _ (s : Snapshot) (whole : IsWholeAt (at_phase Use s)) (ticks : ℕ) (some : 0 < ticks) (horizon : s.time + ticks ≤ s.until)
    (wake : Each (λ e. s.time + ticks ≤ e.1) s.queues.asleep) (quiet : (j : ℕ) → j < ticks - 1 → NoArrival (s.time + suc j) s.arrivals)
    (q' : Queues) (is : q' ≡ record s.queues { ready = drop 1 s.queues.ready }) where
  -- without a ready task
  pub idle-step : None ≡ option_map (λ (e : Entry). e.0) (slice_get s.queues.ready 0) → Steps (at_phase Use s) Nothing
      (record s { time = s.time + ticks; phase = Effects None; ran = None; stopped = false; queues = q' })
  idle-step head =
      let none = no-entry s.queues.ready head in
      let same : q' ≡ s.queues = is ∙ ap (λ (es : List Entry). record s.queues { ready = es }) none.1 in
      let f : Follows (running_at (at_phase Use s)) []
      (running_at (record s { time = s.time + ticks; phase = Effects None; ran = None; stopped = false })) =
      follows-of (system_at s) (system_at s) (4 * (ticks - 1) + 1) _ _ _ _ [] refl
      (idle-run s.stores s.arrivals s.until s.time s.costs s.units s.ran s.tasks s.queues whole.sound ticks some horizon wake quiet none.0)
      refl refl in
      subst (λ q. Steps (at_phase Use s) Nothing (record s { time = s.time + ticks; phase = Effects None; ran = None; stopped = false; queues = q }))
      (sym same) (record {
        whole = λ on. record {
          sound = idle-sound s.stores s.arrivals s.until s.time s.costs s.units s.ran s.tasks s.queues whole.sound ticks some horizon wake quiet;
          at_work = whole.at_work;
          reached = still-reached whole f;
        };
        follows = f;
        ends = refl;
        nears = nears-ticks None s.arrivals s.until s.time (s.time + ticks) (most_ends (system_at s)) (most_ends (system_at s)) s.tasks s.tasks s.ran
            None refl (omega (arith, some)) horizon (omega arith);
        of = tt;
        falls = λ on. falls-use s.stores s.stores None s.arrivals s.until s.costs s.units s.time ticks s.ran None false false s.tasks s.tasks
            s.queues.ready s.queues.ready refl (omega arith) some horizon;
      })

  -- the first ready task
  module _ (i : ℕ) (head : Some i ≡ option_map (λ (e : Entry). e.0) (slice_get s.queues.ready 0)) where
    first : (level : ℕ) × ◌≡◌ {A = Option Entry} (slice_get s.queues.ready 0) (Some (i, level))
    first = first-entry s.queues.ready i head

    pub using : i < length s.tasks
    using = ready-known s.tasks s.queues.ready i first.0 whole.sound.queued first.1

    module _ (t : Task) (read : t ≡ get_or s.tasks i t) where
      using-here : slice_get s.tasks i ≡ Some t
      using-here = slice_get_read s.tasks (length s.tasks) i t refl using read

      pub using-small : t.used < 2 ^ 63
      using-small = let k = whole.sound.kept i t using-here in omega (arith, k.used, whole.sound.in_time, whole.sound.near)

      pub use-step : (t' : Task) → task_of t' ≡ used_ticks ticks (task_of t) → t'.progress.stack.thread ≡ t.progress.stack.thread
          → t'.readiness ≡ t.readiness → t'.progress ≡ t.progress → IsWithin s.tasks s.queues.ready ticks → Steps (at_phase Use s) Nothing
          (record s {
            time = s.time + ticks;
            phase = Effects (Some i);
            ran = Some i;
            stopped = false;
            tasks = set s.tasks i t';
            queues = q';
          })
      use-step t' does thread ready progress within =
          let tasks' = set s.tasks i t' in
          let c : Changed s.tasks tasks' i t t' (used_ticks ticks) = record { here = using-here; set_is = refl; does = does; thread = thread } in
          let same = changed-system s.tasks tasks' i t t' (used_ticks ticks) c s.until s.costs s.units in
          let sound = use-sound s.stores s.arrivals s.until s.time s.costs s.units s.ran s.tasks s.queues whole.sound ticks some horizon wake quiet i
          first.0 tasks' t t' c first.1 within (ap (λ v. v.left) does) (ap (λ v. v.used) does) (ap (λ v. v.works) does) (ap (λ v. v.next) does) ready
          q' is in
          let at_work' = same-at-work s.tasks tasks' i t t' (used_ticks ticks) c s.code whole.at_work progress in
          let few = ran-few s.until (s.time + ticks) s.costs s.units tasks' (Some i) sound.kept s.code at_work' in
          let f : Follows (running_at (at_phase Use s)) [] (running_at (record s {
            time = s.time + ticks;
            phase = Effects (Some i);
            ran = Some i;
            stopped = false;
            tasks = tasks';
            queues = q';
          })) =
          follows-of (system_at s) _ (4 * (ticks - 1) + 1) _ _ _ _ [] refl
          (use-run s.stores s.arrivals s.until s.time s.costs s.units s.ran s.tasks s.queues whole.sound ticks some horizon wake quiet i first.0
          tasks' t t' c first.1 within (ap (λ v. v.left) does) (ap (λ v. v.used) does) (ap (λ v. v.works) does) (ap (λ v. v.next) does) ready)
          (ap (λ (q : Queues). state_by s.stores s.arrivals (s.time + ticks) (Effects (Some i)) (Some i) false tasks' q.ready) (sym is)) same in
          record {
            whole = λ on. record { sound = sound; at_work = at_work'; reached = still-reached whole f };
            follows = f;
            ends = refl;
            nears = nears-ticks (Some i) s.arrivals s.until s.time (s.time + ticks) (most_ends (system_at s)) _ s.tasks tasks' s.ran (Some i)
                (ap most_ends same) (omega (arith, some)) horizon few;
            of = tt;
            falls = λ on. falls-use s.stores s.stores (Some i) s.arrivals s.until s.costs s.units s.time ticks s.ran (Some i) false false s.tasks
                tasks' s.queues.ready q'.ready same few some horizon;
          }
