-- The parts of a request: a value is kept, the control structure opens, and the task that is requested is released where it waits.
use Rattle.std.specs.Prelude.{◌≡◌, ◌≢◌, ◌⊎◌, ℕ, zero, suc, ◌+◌, ◌<◌, ◌≤◌, min, false, List, [], ◌∷◌, length, map, Option, Some, None, option_map}
use Rattle.std.specs.Prelude.{slice_get, ℤ, refl}
use Rattle.std.proofs.Common.{sym, ◌∙◌, ap, subst, arith, inl, inr}
use Rattle.std.proofs.lemmas.List.{length-map}
use Rattle.std.proofs.lemmas.Option.{same_Some, slice_get-map}
use Rattle.seq_tree.specs.Lists.{change}
use Rattle.seq_tree.specs.Variables.{Variables}
use Rattle.seq_tree.specs.declared.tree.Costs.{Costs}
use Rattle.ada_tree.specs.declared.program.Unit as units
use Rattle.arrivals_tree.specs.declared.arrivals.Arrival.{Arrival}
use Rattle.link_queue.specs.Queues.{Entry, Queues, at_head, at_tail}
use Rattle.machine.specs.States as states
use Rattle.machine.specs.Dispatch.{put_last}
use Rattle.machine.specs.Releases.{released}
use Rattle.law_dispatching.specs.Queueing.{AreQueued, AreSleeping, places}
use Rattle.law_dispatching.specs.Renumbering.{DifferInOrders, RankAlike}
use Rattle.law_dispatching.proofs.Shared.Acts.{other-waits, release-queued}
use Rattle.law_dispatching.proofs.Shared.Places.{Before, before-change, get-other}
use Rattle.law_dispatching.proofs.Shared.Queued.{queued-kept}
use Rattle.law_dispatching.proofs.Shared.Ranks.{queued-places, ranks-alike}
use Rattle.law_dispatching.proofs.Shared.Sleeping.{sleeping-awake, sleeping-kept}
use Rattle.ceil_runtime.specs.Processing.{IsKept, IsSound, order_of, state_by, system_by, with_task}
use Rattle.task_runtime.specs.Readies.{is_ready, readiness_of}
use Rattle.task_runtime.specs.Works.{IsNested}
use Rattle.task_runtime.specs.Tasks.{task_of}
use Rattle.task_runtime.specs.declared.task.Task.{Task}
use Rattle.task_runtime.specs.declared.readiness.Readiness.TheVariants as readies
use Rattle.ceil_runtime.specs.declared.processor.Phase.TheVariants.{Effects}
use Rattle.ceil_runtime.proofs.Processed.{changed-alike, Changed, changed-all, changed-length, changed-tasks, here-of}
use Rattle.ceil_runtime.proofs.Released.{asleep-apart, going-next, going-readiness, ready-is, released-nested, released-readiness, released-used}
use Rattle.ceil_runtime.proofs.Released.{waits-next}

-- the order of dispatch by the state of the task that has effects
pub order-by : (i : ℕ) (tasks : List Task) (a : states.Task) (es : List Entry) → slice_get (map task_of tasks) i ≡ Some a
    → order_of (Effects (Some i)) tasks es ≡ at_head (i, a.active) es
order-by i tasks a es at = by_task (slice_get tasks i) refl
  where
    by_task : (o : Option Task) → slice_get tasks i ≡ o → with_task i (slice_get tasks i) es ≡ at_head (i, a.active) es
    by_task None e = absurd (cc (sym (ap (option_map task_of) e) ∙ sym (slice_get-map task_of tasks i) ∙ at))
    by_task (Some t) e =
        let same : task_of t ≡ a = same_Some (task_of t) a (sym (ap (option_map task_of) e) ∙ sym (slice_get-map task_of tasks i) ∙ at) in
        ap (λ o. with_task i o es) e ∙ ap (λ u. at_head (i, u.active) es) same

-- tasks of which some have changed, in the order of dispatch by these numbers: the machine's numbers say the same
module _ (stores : List Variables) (arrivals : List Arrival) (time i : ℕ) (tasks : List Task) (ts : List states.Task) (os : List ℤ)
    (ready : List Entry) (are : map task_of tasks ≡ ts) (queued : AreQueued ts os (order_of (Effects (Some i)) tasks ready)) where
  pub settled-queued : AreQueued (map task_of tasks) (places (length tasks) (order_of (Effects (Some i)) tasks ready))
      (order_of (Effects (Some i)) tasks ready)
  settled-queued =
      subst (λ (n : ℕ). AreQueued (map task_of tasks) (places n (order_of (Effects (Some i)) tasks ready)) (order_of (Effects (Some i)) tasks ready))
      (length-map tasks task_of)
      (queued-places (map task_of tasks) os (order_of (Effects (Some i)) tasks ready)
      (subst (λ (us : List states.Task). AreQueued us os (order_of (Effects (Some i)) tasks ready)) (sym are) queued))

  settled_ranks : RankAlike ts os (places (length tasks) (order_of (Effects (Some i)) tasks ready))
  settled_ranks =
      ranks-alike ts os (places (length tasks) (order_of (Effects (Some i)) tasks ready)) (order_of (Effects (Some i)) tasks ready) queued
      (subst (λ (us : List states.Task). AreQueued us (places (length tasks) (order_of (Effects (Some i)) tasks ready))
      (order_of (Effects (Some i)) tasks ready)) are settled-queued)

  pub settled-differs : (s : states.State) → state_by stores arrivals time (Effects (Some i)) (Some i) false tasks ready
      ≡ record s { tasks = map task_of tasks; orders = places (length tasks) (order_of (Effects (Some i)) tasks ready) }
      → s.tasks ≡ ts → s.orders ≡ os → DifferInOrders s (state_by stores arrivals time (Effects (Some i)) (Some i) false tasks ready)
  settled-differs s like tasks_are orders_are = record {
    same = like ∙ ap (λ us. record s { tasks = us; orders = places (length tasks) (order_of (Effects (Some i)) tasks ready) }) (are ∙ sym tasks_are);
    ranks = subst (λ (us : List states.Task). RankAlike us s.orders (places (length tasks) (order_of (Effects (Some i)) tasks ready))) (sym tasks_are)
        (subst (λ (ns : List ℤ). RankAlike ts ns (places (length tasks) (order_of (Effects (Some i)) tasks ready))) (sym orders_are) settled_ranks);
  }

-- a change of a task's control structure
module _ (until time : ℕ) (us : List units.Unit) (i : ℕ) (tasks : List Task) (q : Queues)
    (sound : IsSound until time (Effects (Some i)) (Some i) us tasks q) (k : ℕ) (tasks' : List Task) (u u' : Task) (f : states.Task → states.Task)
    (c : Changed tasks tasks' k u u' f) (same : (v : states.Task) → ((f v).readiness ≡ v.readiness) × ((f v).active ≡ v.active)) where
  gate_order : order_of (Effects (Some i)) tasks' q.ready ≡ order_of (Effects (Some i)) tasks q.ready
  gate_order = by_task (slice_get (map task_of tasks') i) refl
    where
      outside : (ts : List states.Task) (j : ℕ) → j < length ts → slice_get ts j ≡ None → ⊥
      outside [] j h e = omega arith
      outside (v ∷ vs) zero h e = cc
      outside (v ∷ vs) (suc j) h e = outside vs j (omega arith) e

      by_task : (o : Option states.Task) → slice_get (map task_of tasks') i ≡ o
          → order_of (Effects (Some i)) tasks' q.ready ≡ order_of (Effects (Some i)) tasks q.ready
      by_task None e = absurd (outside (map task_of tasks') i
          (omega (arith, length-map tasks' task_of, changed-length tasks tasks' k u u' f c, sound.here.1)) e)
      by_task (Some a) e =
          let b : Before k f (map task_of tasks) i a
          = before-change k f (map task_of tasks) i a (ap (λ ts. slice_get ts i) (sym (changed-tasks tasks tasks' k u u' f c)) ∙ e) in
          order-by i tasks' a q.ready e ∙ ap (λ n. at_head (i, n) q.ready) (active b.task b.is) ∙ sym (order-by i tasks b.task q.ready b.at)
        where
          active : (v : states.Task) → (a ≡ v) ⊎ (a ≡ f v) → a.active ≡ v.active
          active v (inl h) = ap (λ w. w.active) h
          active v (inr h) = ap (λ w. w.active) h ∙ (same v).1

  gate_queued : AreQueued (change k f (map task_of tasks)) (places (length tasks) (order_of (Effects (Some i)) tasks q.ready))
      (order_of (Effects (Some i)) tasks' q.ready)
  gate_queued =
      subst (AreQueued (change k f (map task_of tasks)) (places (length tasks) (order_of (Effects (Some i)) tasks q.ready))) (sym gate_order)
      (queued-kept (map task_of tasks) (places (length tasks) (order_of (Effects (Some i)) tasks q.ready))
      (order_of (Effects (Some i)) tasks q.ready) k f sound.queued same)

  pub gate-differs : (stores : List Variables) (arrivals : List Arrival)
      → DifferInOrders (record (state_by stores arrivals time (Effects (Some i)) (Some i) false tasks q.ready) {
        tasks
            = change k f (map task_of tasks);
      }) (state_by stores arrivals time (Effects (Some i)) (Some i) false tasks' q.ready)
  gate-differs stores arrivals =
      settled-differs stores arrivals time i tasks' (change k f (map task_of tasks))
      (places (length tasks) (order_of (Effects (Some i)) tasks q.ready)) q.ready (changed-tasks tasks tasks' k u u' f c) gate_queued
      (record (state_by stores arrivals time (Effects (Some i)) (Some i) false tasks q.ready) { tasks = change k f (map task_of tasks) })
      refl refl refl

  pub gate-sound : u'.readiness ≡ u.readiness → u'.left ≡ u.left → u'.used ≡ u.used → u'.works ≡ u.works → u'.next ≡ u.next
      → (IsNested (task_of u) → IsNested (task_of u'))
      → IsSound until time (Effects (Some i)) (Some i) us tasks' q
  gate-sound ready left used works next nests = record {
    size = sound.size ∙ sym len;
    queued = settled-queued [] [] time i tasks' (change k f (map task_of tasks)) (places (length tasks)
        (order_of (Effects (Some i)) tasks q.ready)) q.ready (changed-tasks tasks tasks' k u u' f c) gate_queued;
    sleeping = subst (λ (ts : List states.Task). AreSleeping ts time q.asleep) (sym (changed-tasks tasks tasks' k u u' f c)) (sleeping-kept
        (map task_of tasks) time q.asleep k f sound.sleeping (λ v. (same v).0));
    kept = changed-all tasks tasks' k u u' f c (IsKept until time us) (IsKept until time us) sound.kept (λ v h. h) (keeps (sound.kept k u c.here));
    here = (sound.here.0, omega (arith, len, sound.here.1));
    near = sound.near;
    few = omega (arith, len, sound.few);
    calls = changed-alike tasks tasks' k u u' f c us sound.calls;
    in_time = sound.in_time;
  }
    where
      len : length tasks' ≡ length tasks
      len = changed-length tasks tasks' k u u' f c

      keeps : IsKept until time us u → IsKept until time us u'
      keeps h = record {
        used = omega (arith, used, h.used);
        works = omega (arith, works, left, h.works);
        next = omega (arith, next, h.next);
        units = ap (λ th. th.units.now) c.thread ∙ h.units;
        idle = λ not. left ∙ h.idle (ap is_ready (sym ready) ∙ not);
        nested = nests h.nested;
      }

-- the release of another task, which waits
module _ (until time : ℕ) (costs : Costs) (us : List units.Unit) (i : ℕ) (tasks : List Task) (q : Queues)
    (sound : IsSound until time (Effects (Some i)) (Some i) us tasks q) (t : Task) (here : slice_get tasks i ≡ Some t)
    (k : ℕ) (tasks' : List Task) (u u' : Task) (c : Changed tasks tasks' k u u' (released costs)) (waits : u.readiness ≡ readies.Waiting) where
  abbrev release_orders : List ℤ
  release_orders = places (length tasks) (order_of (Effects (Some i)) tasks q.ready)

  release_here : slice_get (map task_of tasks) i ≡ Some (task_of t)
  release_here = slice_get-map task_of tasks i ∙ ap (option_map task_of) here

  release_before : AreQueued (map task_of tasks) release_orders (at_head (i, (task_of t).active) q.ready)
  release_before = subst (AreQueued (map task_of tasks) release_orders) (ap (λ o. with_task i o q.ready) here) sound.queued

  release_waits : (task_of u).readiness ≡ states.Waiting
  release_waits = ap (λ r. readiness_of r u.next) waits

  release_other : k ≢ i
  release_other = other-waits (system_by until costs us tasks) (map task_of tasks) release_orders i (task_of t) q.ready release_here release_before k
      (task_of u) (here-of tasks tasks' k u u' _ c) release_waits

  release_active : (released costs (task_of u)).active ≡ (task_of u').active
  release_active = ap (λ v. v.active) (sym c.does)

  release_order : order_of (Effects (Some i)) tasks' (at_tail (k, (task_of u').active) q.ready)
      ≡ at_head (i, (task_of t).active) (at_tail (k, (task_of u').active) q.ready)
  release_order =
      order-by i tasks' (task_of t) (at_tail (k, (task_of u').active) q.ready)
      (ap (λ ts. slice_get ts i) (changed-tasks tasks tasks' k u u' _ c) ∙ get-other k i (released costs) (map task_of tasks)
      (λ e. release_other (sym e)) ∙ release_here)

  release_queued : AreQueued (change k (released costs) (map task_of tasks)) (put_last k release_orders)
      (order_of (Effects (Some i)) tasks' (at_tail (k, (task_of u').active) q.ready))
  release_queued =
      subst (AreQueued (change k (released costs) (map task_of tasks)) (put_last k release_orders)) (sym release_order)
      (subst (λ (n : ℕ). AreQueued (change k (released costs) (map task_of tasks)) (put_last k release_orders)
      (at_head (i, (task_of t).active) (at_tail (k, n) q.ready))) release_active
      (release-queued (system_by until costs us tasks) (map task_of tasks) release_orders i (task_of t) q.ready release_here release_before k
      (task_of u) (here-of tasks tasks' k u u' _ c) release_waits))

  pub release-differs : (stores : List Variables) (arrivals : List Arrival)
      → DifferInOrders (record (state_by stores arrivals time (Effects (Some i)) (Some i) false tasks q.ready) {
        tasks
            = change k (released costs) (map task_of tasks);
        orders = put_last k release_orders;
      })
      (state_by stores arrivals time (Effects (Some i)) (Some i) false tasks' (at_tail (k, (task_of u').active) q.ready))
  release-differs stores arrivals =
      settled-differs stores arrivals time i tasks' (change k (released costs) (map task_of tasks)) (put_last k release_orders)
      (at_tail (k, (task_of u').active) q.ready) (changed-tasks tasks tasks' k u u' _ c) release_queued
      (record (state_by stores arrivals time (Effects (Some i)) (Some i) false tasks q.ready) {
        tasks = change k (released costs) (map task_of tasks);
        orders = put_last k release_orders;
      }) refl refl refl

  pub release-sound : (q' : Queues) → q' ≡ record q { ready = at_tail (k, (task_of u').active) q.ready } → u'.works ≤ u.works + min u'.left 1
      → IsSound until time (Effects (Some i)) (Some i) us tasks' q'
  release-sound q' is works = subst (IsSound until time (Effects (Some i)) (Some i) us tasks') (sym is) (record {
    size = sound.size ∙ sym len;
    queued = settled-queued [] [] time i tasks' (change k (released costs) (map task_of tasks)) (put_last k release_orders) (at_tail
        (k, (task_of u').active) q.ready) (changed-tasks tasks tasks' k u u' _ c) release_queued;
    sleeping = subst (λ (ts : List states.Task). AreSleeping ts time q.asleep) (sym (changed-tasks tasks tasks' k u u' _ c))
        (sleeping-awake (map task_of tasks) time q.asleep k (task_of u) (released costs) sound.sleeping (here-of tasks tasks' k u u' _ c)
        (λ n h. asleep-apart u.readiness u.next n (λ e. wrong (sym e ∙ waits)) h) (λ n h. ready_apart n (sym (going-readiness costs _ _ _) ∙ h)));
    kept = changed-all tasks tasks' k u u' _ c (IsKept until time us) (IsKept until time us) sound.kept (λ v h. h) (keeps (sound.kept k u c.here));
    here = (sound.here.0, omega (arith, len, sound.here.1));
    near = sound.near;
    few = omega (arith, len, sound.few);
    calls = changed-alike tasks tasks' k u u' (released costs) c us sound.calls;
    in_time = sound.in_time;
  })
    where
      wrong : readies.Asleep ≡ readies.Waiting → ⊥
      wrong e = cc

      ready_apart : (n : ℕ) → states.Ready ≡ states.Asleep n → ⊥
      ready_apart n e = cc

      len : length tasks' ≡ length tasks
      len = changed-length tasks tasks' k u u' _ c

      now_ready : u'.readiness ≡ readies.Ready
      now_ready = ready-is u'.readiness u'.next (ap (λ v. v.readiness) c.does ∙ released-readiness costs (task_of u))

      next : u'.next ≡ u.next
      next = ap (λ v. v.next) c.does ∙ going-next costs _ _ _ ∙ waits-next u.readiness u.progress.stack.thread.timing u.next u.rests waits

      keeps : IsKept until time us u → IsKept until time us u'
      keeps h =
          let none : u.left ≡ 0 = h.idle (ap is_ready waits) in
          let used : u'.used ≡ 0 = ap (λ v. v.used) c.does ∙ released-used costs (task_of u) in
          record {
            used = omega (arith, used);
            works = omega (arith, works, h.works, none);
            next = omega (arith, next, h.next);
            units = ap (λ th. th.units.now) c.thread ∙ h.units;
            idle = λ not. absurd (cc (sym (ap is_ready now_ready) ∙ not));
            nested = subst IsNested (sym c.does) (released-nested costs u (ap is_ready waits) h.nested);
          }
