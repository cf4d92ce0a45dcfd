-- An arrival whose time has come: the task of its unit keeps the value, and is released where it waits.
use Rattle.std.specs.Prelude.{◌≡◌, ℕ, suc, ◌+◌, ◌<◌, ◌≤◌, min, Bool, true, false, ◌&&◌, ◌==◌, if◌then◌else◌, List, [], ◌∷◌, length, map, Option, Some}
use Rattle.std.specs.Prelude.{None, option_map, slice_get, refl}
use Rattle.std.proofs.Common.{sym, ◌∙◌, ap, subst, arith, drop, drop-cons, add-one, get_or}
use Rattle.std.proofs.lemmas.Bool.Decides.{nat_tests}
use Rattle.std.proofs.lemmas.List.{length-map}
use Rattle.std.proofs.lemmas.Option.{same_Some}
use Rattle.seq_tree.specs.Variables.{Variables}
use Rattle.seq_tree.specs.Lists.{change, first_from, first_where}
use Rattle.seq_tree.specs.declared.tree.Costs.{Costs}
use Rattle.ada_tree.specs.declared.program.Unit as units
use Rattle.arrivals_tree.specs.declared.arrivals.Arrival.{Arrival}
use Rattle.trace_tree.specs.declared.event.Event.TheVariants as event
use Rattle.link_queue.specs.Queues.{Each, Queues, at_tail}
use Rattle.machine.specs.Systems.{System}
use Rattle.machine.specs.States as states
use Rattle.machine.specs.Dispatch.{put_last}
use Rattle.machine.specs.Releases.{after, is_waiting, released, serve}
use Rattle.machine.specs.Steps.{arrive_at, horizon_step, step}
use Rattle.machine.specs.Meanings.{run}
use Rattle.law_dispatching.specs.Queueing.{AreQueued, AreSleeping, places}
use Rattle.law_dispatching.specs.Renumbering.{DifferInOrders, RankAlike}
use Rattle.law_dispatching.proofs.Shared.Places.{get-changed, get-within}
use Rattle.law_dispatching.proofs.Shared.Queued.{queued-kept}
use Rattle.law_dispatching.proofs.Shared.Sleeping.{sleeping-kept}
use Rattle.ceil_runtime.specs.Processing.{IsKept, IsSound, state_by, system_by}
use Rattle.task_runtime.specs.Readies.{is_ready, readiness_of}
use Rattle.task_runtime.specs.Works.{asked, IsNested}
use Rattle.task_runtime.specs.Tasks.{task_of}
use Rattle.task_runtime.specs.declared.task.Task.{Task}
use Rattle.task_runtime.specs.declared.readiness.Readiness.TheVariants as readies
use Rattle.ceil_runtime.specs.declared.processor.Phase.TheVariants.{Arriving}
use Rattle.ceil_runtime.proofs.Processed.{changed-alike, Changed, changed-all, changed-length, changed-tasks, here-of, step-run}
use Rattle.ceil_runtime.proofs.Released.{changed_at, serve-none, serve-run, tail-ranks, waiting-released}

-- the item at the place that is found first passes the test
pub record IsFound {A : Type 0} (test : A → Bool) (n k : ℕ) (xs : List A) : Type 0 where
  pub item : A
  pub first : first_from n test xs ≡ Some (k, item)
  pub place : ℕ
  pub counted : k ≡ n + place
  pub at : slice_get xs place ≡ Some item
  pub passes : test item ≡ true

pub found-first : {A : Type 0} (test : A → Bool) (n k : ℕ) (xs : List A) → option_map (λ (x : ℕ × A). x.0) (first_from n test xs) ≡ Some k
    → IsFound test n k xs
found-first test n k [] h = absurd (cc h)
found-first {A} test n k (x ∷ xs) h = by_test (test x) refl (found-first test (suc n) k xs) h
  where
    by_test : (b : Bool) → test x ≡ b → (option_map (λ (y : ℕ × A). y.0) (first_from (suc n) test xs) ≡ Some k → IsFound test (suc n) k xs)
        → option_map (λ (y : ℕ × A). y.0) (if b then Some (n, x) else first_from (suc n) test xs) ≡ Some k → IsFound test n k (x ∷ xs)
    by_test true e more g =
        let same : n ≡ k = same_Some n k g in
        record {
          item = x;
          first = ap (λ b. if b then Some (n, x) else first_from (suc n) test xs) e ∙ ap (λ m. Some (m, x)) same;
          place = 0;
          counted = omega (arith, same);
          at = refl;
          passes = e;
        }
    by_test false e more g =
        let f : IsFound test (suc n) k xs = more g in
        record {
          item = f.item;
          first = ap (λ b. if b then Some (n, x) else first_from (suc n) test xs) e ∙ f.first;
          place = suc f.place;
          counted = omega (arith, f.counted);
          at = f.at;
          passes = f.passes;
        }

-- whether a task is that of a unit
abbrev pub is_of : ℕ → states.Task → Bool
is_of unit t = t.thread.unit == unit

same_number : (m n : ℕ) → m ≡ n → (m == n) ≡ true
same_number m n h = grind (arith, nat_tests)

-- a task of another unit is passed over
pub past-task : (tasks : List Task) (i : ℕ) (t : Task) (unit : ℕ) → i < length tasks → t ≡ get_or tasks i t
    → (t.progress.stack.thread.unit ≡ unit → ⊥)
    → option_map (λ (x : ℕ × states.Task). x.0) (first_from (i + 1) (is_of unit) (map task_of (drop (i + 1) tasks)))
    ≡ option_map (λ (x : ℕ × states.Task). x.0) (first_from i (is_of unit) (map task_of (drop i tasks)))
past-task tasks i t unit h is other =
    let no : (t.progress.stack.thread.unit == unit) ≡ false = not_same t.progress.stack.thread.unit unit other in
    let at : map task_of (drop i tasks) ≡ task_of t ∷ map task_of (drop (suc i) tasks)
    = ap (map task_of) (drop-cons tasks i t h) ∙ ap (λ x. task_of x ∷ map task_of (drop (suc i) tasks)) (sym is) in
    rw (add-one, at, no) refl
  where
    not_same : (m n : ℕ) → (m ≡ n → ⊥) → (m == n) ≡ false
    not_same m n d = grind (arith, nat_tests)

-- the task of the unit
pub here-task : (tasks : List Task) (i : ℕ) (t : Task) (unit : ℕ) → i < length tasks → t ≡ get_or tasks i t → t.progress.stack.thread.unit ≡ unit
    → Some i ≡ option_map (λ (x : ℕ × states.Task). x.0) (first_from i (is_of unit) (map task_of (drop i tasks)))
here-task tasks i t unit h is same =
    let yes' : (t.progress.stack.thread.unit == unit) ≡ true = same_number t.progress.stack.thread.unit unit same in
    let at : map task_of (drop i tasks) ≡ task_of t ∷ map task_of (drop (suc i) tasks)
    = ap (map task_of) (drop-cons tasks i t h) ∙ ap (λ x. task_of x ∷ map task_of (drop (suc i) tasks)) (sym is) in
    rw (at, yes') refl

number_same : (m n : ℕ) → (m == n) ≡ true → m ≡ n
number_same m n h = grind (arith, nat_tests)

module _ (stores : List Variables) (a : Arrival) (others : List Arrival) (until time : ℕ) (costs : Costs) (us : List units.Unit) (ran : Option ℕ)
    (tasks : List Task) (q : Queues) (sound : IsSound until time Arriving ran us tasks q) (now : a.time ≡ time) where
  arrival-step : step (system_by until costs us tasks) (state_by stores (a ∷ others) time Arriving ran false tasks q.ready)
      ≡ arrive_at (system_by until costs us tasks) a (first_where (is_of a.task) (map task_of tasks))
      (state_by stores others time Arriving ran false tasks q.ready)
  arrival-step =
      ap (λ b. if b then arrive_at (system_by until costs us tasks) a (first_where (is_of a.task) (map task_of tasks))
      (state_by stores others time Arriving ran false tasks q.ready)
      else horizon_step (system_by until costs us tasks) (state_by stores (a ∷ others) time Arriving ran false tasks q.ready))
      (same_number a.time time now)

  -- no task is of its unit
  pub nobody-asked : None ≡ option_map (λ (t : ℕ × states.Task). t.0) (first_where (is_of a.task) (map task_of tasks))
      → run (system_by until costs us tasks) 1 (state_by stores (a ∷ others) time Arriving ran false tasks q.ready)
      ≡ (state_by stores others time Arriving ran false tasks q.ready, [])
  nobody-asked none =
      step-run (system_by until costs us tasks) (state_by stores (a ∷ others) time Arriving ran false tasks q.ready)
      (state_by stores others time Arriving ran false tasks q.ready) []
      (arrival-step ∙ by_found (first_where (is_of a.task) (map task_of tasks)) none)
    where
      by_found : (o : Option (ℕ × states.Task)) → None ≡ option_map (λ (t : ℕ × states.Task). t.0) o
          → arrive_at (system_by until costs us tasks) a o (state_by stores others time Arriving ran false tasks q.ready)
          ≡ (state_by stores others time Arriving ran false tasks q.ready, [])
      by_found None h = refl
      by_found (Some t) h = absurd (cc h)

  -- the first task of its unit
  module _ (i : ℕ) (found : Some i ≡ option_map (λ (t : ℕ × states.Task). t.0) (first_where (is_of a.task) (map task_of tasks))) where
    place : IsFound (is_of a.task) 0 i (map task_of tasks)
    place = found-first (is_of a.task) 0 i (map task_of tasks) (sym found)

    place-at : slice_get (map task_of tasks) i ≡ Some place.item
    place-at = let counted : i ≡ place.place = omega (arith, place.counted) in ap (slice_get (map task_of tasks)) counted ∙ place.at

    pub asked-known : i < length tasks
    asked-known = omega (arith, get-within i (map task_of tasks) place.item place-at, length-map tasks task_of)

    module _ (t t' : Task) (tasks' : List Task) (c : Changed tasks tasks' i t t' (asked a.value)) where
      is_task : place.item ≡ task_of t
      is_task = same_Some place.item (task_of t) (sym place-at ∙ here-of tasks tasks' i t t' (asked a.value) c)

      pub asked-unit : a.task ≡ t.progress.stack.thread.unit
      asked-unit = sym (ap (λ u. u.thread.unit) (sym is_task) ∙ number_same place.item.thread.unit a.task place.passes)

      asked-step : step (system_by until costs us tasks) (state_by stores (a ∷ others) time Arriving ran false tasks q.ready)
          ≡ after (event.Arrive time a.task a.value ∷ []) (serve (system_by until costs us tasks) i
          (changed_at i (asked a.value) (state_by stores others time Arriving ran false tasks q.ready)))
      asked-step = arrival-step ∙ ap (λ o. arrive_at (system_by until costs us tasks) a o
          (state_by stores others time Arriving ran false tasks q.ready)) place.first

      asked-at : slice_get (change i (asked a.value) (map task_of tasks)) i ≡ Some (task_of t')
      asked-at = get-changed i (asked a.value) (map task_of tasks) (task_of t) (here-of tasks tasks' i t t' (asked a.value) c) ∙ ap Some (sym c.does)

      -- the task doesn't wait
      pub asked-run : is_waiting (task_of t').readiness ≡ false
          → run (system_by until costs us tasks) 1 (state_by stores (a ∷ others) time Arriving ran false tasks q.ready)
          ≡ (
            record (state_by stores others time Arriving ran false tasks q.ready) {
              tasks
                  = change i (asked a.value) (map task_of tasks);
            },
            event.Arrive time a.task a.value ∷ [],
          )
      asked-run not =
          let y : System = system_by until costs us tasks in
          step-run y (state_by stores (a ∷ others) time Arriving ran false tasks q.ready)
          (changed_at i (asked a.value) (state_by stores others time Arriving ran false tasks q.ready)) (event.Arrive time a.task a.value ∷ [])
          (asked-step ∙ ap (after (event.Arrive time a.task a.value ∷ []))
          (serve-none y i (task_of t') (changed_at i (asked a.value) (state_by stores others time Arriving ran false tasks q.ready)) asked-at
          (ap (λ b. b && (task_of t').gate.open') not)))

      pub asked-state : record (state_by stores others time Arriving ran false tasks q.ready) { tasks = change i (asked a.value) (map task_of tasks) }
          ≡ state_by stores others time Arriving ran false tasks' q.ready
      asked-state =
          let view : List states.Task → ℕ → states.State = λ ts n. record (state_by stores others time Arriving ran false tasks q.ready) {
            tasks = ts;
            orders = places n q.ready;
          } in
          ap (λ ts. view ts (length tasks)) (sym (changed-tasks tasks tasks' i t t' (asked a.value) c)) ∙ ap (view (map task_of tasks'))
          (sym (changed-length tasks tasks' i t t' (asked a.value) c))

      asked-queued : AreQueued (map task_of tasks') (places (length tasks) q.ready) q.ready
      asked-queued =
          subst (λ (ts : List states.Task). AreQueued ts (places (length tasks) q.ready) q.ready)
          (sym (changed-tasks tasks tasks' i t t' (asked a.value) c))
          (queued-kept (map task_of tasks) (places (length tasks) q.ready) q.ready i (asked a.value) sound.queued (λ u. (refl, refl)))

      pub asked-sound : t'.readiness ≡ t.readiness → IsSound until time Arriving ran us tasks' q
      asked-sound same = record {
        size = sound.size ∙ sym len;
        queued = subst (λ (n : ℕ). AreQueued (map task_of tasks') (places n q.ready) q.ready) (sym len) asked-queued;
        sleeping = subst (λ (ts : List states.Task). AreSleeping ts time q.asleep) (sym (changed-tasks tasks tasks' i t t' (asked a.value) c))
            (sleeping-kept (map task_of tasks) time q.asleep i (asked a.value) sound.sleeping (λ u. refl));
        kept = changed-all tasks tasks' i t t' (asked a.value) c (IsKept until time us) (IsKept until time us) sound.kept (λ u k.
            k) (keeps (sound.kept i t c.here));
        here = sound.here;
        near = sound.near;
        few = omega (arith, len, sound.few);
        calls = changed-alike tasks tasks' i t t' (asked a.value) c us sound.calls;
        in_time = sound.in_time;
      }
        where
          len : length tasks' ≡ length tasks
          len = changed-length tasks tasks' i t t' (asked a.value) c

          left_same : t'.left ≡ t.left
          left_same = ap (λ u. u.left) c.does

          keeps : IsKept until time us t → IsKept until time us t'
          keeps k =
              let used : t'.used ≡ t.used = ap (λ u. u.used) c.does in
              let works : t'.works ≡ t.works = ap (λ u. u.works) c.does in
              let next : t'.next ≡ t.next = ap (λ u. u.next) c.does in
              record {
                used = omega (arith, used, k.used);
                works = omega (arith, works, left_same, k.works);
                next = omega (arith, next, k.next);
                units = ap (λ th. th.units.now) c.thread ∙ k.units;
                idle = λ not. left_same ∙ k.idle (ap is_ready (sym same) ∙ not);
                nested = subst IsNested (sym c.does) k.nested;
              }

      -- the task waits: it is released
      module _ (t'' : Task) (tasks'' : List Task) (d : Changed tasks' tasks'' i t' t'' (released costs)) (waits : t'.readiness
          ≡ readies.Waiting) where
        pub answered-run : run (system_by until costs us tasks) 1 (state_by stores (a ∷ others) time Arriving ran false tasks q.ready)
            ≡ (
              record (state_by stores others time Arriving ran false tasks q.ready) {
                tasks
                    = change i (released costs) (change i (asked a.value) (map task_of tasks));
                orders = put_last i (places (length tasks) q.ready);
              },
              event.Arrive time a.task a.value ∷ event.Release time t'.progress.stack.thread.unit (task_of t').gate.value ∷ [],
            )
        answered-run =
            let y : System = system_by until costs us tasks in
            let is_open : (task_of t').gate.open' ≡ true = ap (λ u. u.gate.open') c.does in
            let test : (is_waiting (task_of t').readiness && (task_of t').gate.open') ≡ true
            = ap (λ r. is_waiting (readiness_of r t'.next) && (task_of t').gate.open') waits ∙ is_open in
            step-run y (state_by stores (a ∷ others) time Arriving ran false tasks q.ready) _ _
            (asked-step ∙ ap (after (event.Arrive time a.task a.value ∷ []))
            (serve-run y i (task_of t') (changed_at i (asked a.value) (state_by stores others time Arriving ran false tasks q.ready)) asked-at test))

        pub answered-differs : DifferInOrders
            (record (state_by stores others time Arriving ran false tasks q.ready) {
              tasks
                  = change i (released costs) (change i (asked a.value) (map task_of tasks));
              orders = put_last i (places (length tasks) q.ready);
            })
            (state_by stores others time Arriving ran false tasks'' (at_tail (i, (task_of t'').active) q.ready))
        answered-differs = record {
          same = ap (λ ts. record (state_by stores others time Arriving ran false tasks'' (at_tail (i, (task_of t'').active) q.ready)) { tasks = ts })
              (changed-tasks tasks' tasks'' i t' t'' (released costs) d ∙ ap (change i (released costs))
              (changed-tasks tasks tasks' i t t' (asked a.value) c));
          ranks = subst (λ (ts : List states.Task). RankAlike (change i (released costs) ts) (put_last i (places (length tasks) q.ready))
              (places (length tasks'') (at_tail (i, (task_of t'').active) q.ready)))
              (changed-tasks tasks tasks' i t t' (asked a.value) c)
              (tail-ranks costs tasks' tasks'' (places (length tasks) q.ready) q.ready i t' t'' d asked-queued (ap is_ready waits));
        }

        pub answered-sound : (q' : Queues) → t'.readiness ≡ t.readiness → q' ≡ record q { ready = at_tail (i, (task_of t'').active) q.ready }
            → t''.works ≤ t'.works + min t''.left 1 → IsSound until time Arriving ran us tasks'' q'
        answered-sound q' same is works =
            waiting-released until time costs us Arriving ran tasks' tasks'' q q' i t' t'' (λ ts es. refl) (asked-sound same) d waits works is
            (subst (λ (x : Queues). Each (λ e. time < e.1) x.asleep) (sym is) sound.here)
