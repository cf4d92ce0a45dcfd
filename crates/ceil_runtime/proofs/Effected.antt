-- The effect of the piece of the task that used the tick before.
use Rattle.std.specs.Prelude.{◌≡◌, ◌⊎◌, ℕ, zero, suc, ◌+◌, ◌<◌, ◌≤◌, max, min, Bool, true, false, ◌&&◌, ◌==◌, if◌then◌else◌, List, [], ◌∷◌, length}
use Rattle.std.specs.Prelude.{map, Option, Some, None, option_map, slice_get, ℤ, refl}
use Rattle.std.proofs.Common.{sym, ◌∙◌, ap, subst, arith, inl, inr}
use Rattle.std.proofs.lemmas.Bool.Decides.{nat_tests}
use Rattle.std.proofs.lemmas.List.{length-map}
use Rattle.std.proofs.lemmas.Option.{same_Some, slice_get-map}
use Rattle.seq_tree.specs.Variables.{Variables}
use Rattle.seq_tree.specs.Lists.{change}
use Rattle.seq_tree.specs.declared.tree.Costs.{Costs}
use Rattle.ada_tree.specs.declared.program.Unit as units
use Rattle.arrivals_tree.specs.declared.arrivals.Arrival.{Arrival}
use Rattle.trace_tree.specs.declared.event.Event.TheVariants as event
use Rattle.link_queue.specs.Queues.{Entry, IsFree, Queues, at_head, at_tail, in_time}
use Rattle.machine.specs.Pieces.{Piece}
use Rattle.machine.specs.Systems.{System, ReleasePattern, Periodic, Requested}
use Rattle.machine.specs.States as states
use Rattle.machine.specs.States.{Asleep, Ready}
use Rattle.machine.specs.Deeds.{deed, done}
use Rattle.machine.specs.Dispatch.{put_last}
use Rattle.machine.specs.Releases.{Next, after, going, is_waiting, released, serve}
use Rattle.machine.specs.Effects.{ended, resting, takes_effect}
use Rattle.machine.specs.Steps.{effect_at, effect_of, step, goes_to}
use Rattle.machine.specs.Meanings.{run}
use Rattle.law_dispatching.specs.Queueing.{AreQueued, AreSleeping, IsReadyAt, places}
use Rattle.law_dispatching.specs.Renumbering.{DifferInOrders, RankAlike}
use Rattle.law_dispatching.proofs.Shared.Queued.{queued-kept}
use Rattle.law_dispatching.proofs.Shared.Running.{running-apart, running-ended, running-here}
use Rattle.law_dispatching.proofs.Shared.Ranks.{queued-places, ranks-alike}
use Rattle.law_dispatching.proofs.Shared.Sleeping.{apart-awake, sleeping-awake, sleeping-kept, sleeping-more}
use Rattle.law_dispatching.proofs.Shared.Places.{get-changed}
use Rattle.task_runtime.specs.Doing.{act_of}
use Rattle.ceil_runtime.specs.Processing.{AllTasks, HasNoEffect, IsKept, IsSound, order_of, state_by, system_by, with_task}
use Rattle.task_runtime.specs.Readies.{is_ready, readiness_of}
use Rattle.task_runtime.specs.Works.{Acts, IsNested}
use Rattle.task_runtime.specs.Tasks.{task_of}
use Rattle.task_runtime.specs.Written.{system_of}
use Rattle.task_runtime.specs.declared.effects.Act.{Act}
use Rattle.task_runtime.specs.declared.effects.Act.TheVariants.{Finish}
use Rattle.task_runtime.specs.declared.task.Task.{Task}
use Rattle.task_runtime.specs.declared.readiness.Readiness as readiness
use Rattle.task_runtime.specs.declared.readiness.Readiness.TheVariants as readies
use Rattle.ceil_runtime.specs.declared.processor.Phase.TheVariants.{Effects, Delays}
use Rattle.ceil_runtime.proofs.Processed.{runs-alike, changed-alike, Changed, changed-all, changed-length, changed-tasks, get-put, get-set_same}
use Rattle.ceil_runtime.proofs.Processed.{get_within, step-run}
use Rattle.ceil_runtime.proofs.Released.{changed_at, asleep-apart, going-active, going-next, going-readiness, going-used, ready-is, serve-none}
use Rattle.ceil_runtime.proofs.Released.{serve-run, tail-ranks, waiting-released}
use Rattle.task_runtime.proofs.Shared.TasksAtWork.{rests-idle}

clash : true ≡ false → ⊥
clash k = cc

-- the task that used the tick before has no effect
pub no-effect : (y : System) (running : Option ℕ) (stores : List Variables) (arrivals : List Arrival) (time i : ℕ) (tasks : List Task)
    (ready : List Entry) (t : Task) → slice_get (map task_of tasks) i ≡ Some (task_of t) → ((task_of t).pieces ≡ []) ⊎ (t.left ≡ 0 → ⊥)
    → run y 1 (state_by stores arrivals time (Effects running) (Some i) false tasks ready)
    ≡ (record (state_by stores arrivals time (Effects running) (Some i) false tasks ready) { phase = states.Delays }, [])
no-effect y running stores arrivals time i tasks ready t at idle =
    let s : states.State = state_by stores arrivals time (Effects running) (Some i) false tasks ready in
    step-run y s (record s { phase = states.Delays }) [] (ap (λ o. effect_at y i o s) at ∙ by_pieces (task_of t).pieces refl idle)
  where
    by_pieces : (ps : List Piece) → (task_of t).pieces ≡ ps → ((task_of t).pieces ≡ []) ⊎ (t.left ≡ 0 → ⊥)
        → effect_of y i (task_of t) (task_of t).pieces (state_by stores arrivals time (Effects running) (Some i) false tasks ready)
        ≡ (record (state_by stores arrivals time (Effects running) (Some i) false tasks ready) { phase = states.Delays }, [])
    by_pieces [] e h = ap (λ ps. effect_of y i (task_of t) ps (state_by stores arrivals time (Effects running) (Some i) false tasks ready)) e
    by_pieces (p ∷ ps) e (inl none)
        = ap (λ qs. effect_of y i (task_of t) qs (state_by stores arrivals time (Effects running) (Some i) false tasks ready)) none
    by_pieces (p ∷ ps) e (inr some) =
        let s : states.State = state_by stores arrivals time (Effects running) (Some i) false tasks ready in
        ap (λ qs. effect_of y i (task_of t) qs s) e ∙ ap (λ b. if b then takes_effect y i (task_of t)
        (done y p (task_of t).vars ps) s else goes_to states.Delays s) (not_zero (t.left == 0) refl)
      where
        not_zero : (b : Bool) → (t.left == 0) ≡ b → b ≡ false
        not_zero true h = absurd (some (is_zero t.left h))
          where
            is_zero : (m : ℕ) → (m == 0) ≡ true → m ≡ 0
            is_zero m k = grind (arith, nat_tests)
        not_zero false h = refl

-- no task has effects
pub nobody-run : (y : System) (stores : List Variables) (arrivals : List Arrival) (time : ℕ) (ran : Option ℕ) (tasks : List Task) (ready : List Entry)
    → HasNoEffect ran tasks
    → run y 1 (state_by stores arrivals time (Effects None) ran false tasks ready) ≡ (state_by stores arrivals time Delays ran false tasks ready, [])
nobody-run y stores arrivals time None tasks ready none
    = step-run y (state_by stores arrivals time (Effects None) None false tasks ready)
    (state_by stores arrivals time Delays None false tasks ready) [] refl
nobody-run y stores arrivals time (Some i) tasks ready none = by_task (slice_get tasks i) refl
  where
    by_task : (o : Option Task) → slice_get tasks i ≡ o → run y 1 (state_by stores arrivals time (Effects None) (Some i) false tasks ready)
        ≡ (state_by stores arrivals time Delays (Some i) false tasks ready, [])
    by_task None e = absurd (outside tasks i none.0 e)
      where
        outside : (ts : List Task) (k : ℕ) → k < length ts → slice_get ts k ≡ None → ⊥
        outside [] k h e = omega arith
        outside (u ∷ us) zero h e = cc
        outside (u ∷ us) (suc k) h e = outside us k (omega arith) e
    by_task (Some t) e = no-effect y None stores arrivals time i tasks ready t (slice_get-map task_of tasks i ∙ ap (option_map task_of) e)
        (by_ready (is_ready t.readiness) refl)
      where
        by_ready : (b : Bool) → is_ready t.readiness ≡ b → ((task_of t).pieces ≡ []) ⊎ (t.left ≡ 0 → ⊥)
        by_ready true r = inr (none.1 t e r)
        by_ready false r = inl (rests-idle t r)

pub nobody-sound : (until time : ℕ) (us : List units.Unit) (ran : Option ℕ) (tasks : List Task) (q : Queues)
    → IsSound until time (Effects None) ran us tasks q → IsSound until time Delays ran us tasks q
nobody-sound until time us ran tasks q s =
    record {
      size = s.size;
      queued = s.queued;
      sleeping = s.sleeping;
      kept = s.kept;
      here = tt;
      near = s.near;
      few = s.few;
      calls = s.calls;
      in_time = s.in_time;
    }

-- the task that has effects
module _ (until time : ℕ) (us : List units.Unit) (i : ℕ) (ran : Option ℕ) (tasks : List Task) (q : Queues)
    (sound : IsSound until time (Effects (Some i)) ran us tasks q) (t : Task) (here : slice_get tasks i ≡ Some t) where
  -- the order of dispatch
  pub order-is : order_of (Effects (Some i)) tasks q.ready ≡ at_head (i, (task_of t).active) q.ready
  order-is = ap (λ o. with_task i o q.ready) here

  pub order-queued : AreQueued (map task_of tasks) (places (length tasks) (order_of (Effects (Some i)) tasks q.ready))
      (at_head (i, (task_of t).active) q.ready)
  order-queued = subst (AreQueued (map task_of tasks) (places (length tasks) (order_of (Effects (Some i)) tasks q.ready))) order-is sound.queued

  here-at : slice_get (map task_of tasks) i ≡ Some (task_of t)
  here-at = slice_get-map task_of tasks i ∙ ap (option_map task_of) here

  pub is-ready : (task_of t).readiness ≡ Ready
  is-ready =
      let r : IsReadyAt (map task_of tasks) (i, (task_of t).active)
      = running-here (map task_of tasks) _ (i, (task_of t).active) q.ready order-queued in
      ap (λ u. u.readiness) (same_Some (task_of t) r.0 (sym here-at ∙ r.1)) ∙ r.2

  -- it is in neither list
  pub running-free : IsFree q i
  running-free = record {
    known = omega (arith, sound.size, get_within i tasks t here);
    not_ready = running-apart (map task_of tasks) _ (i, (task_of t).active) q.ready order-queued;
    not_asleep = apart-awake (map task_of tasks) time i (task_of t) q.asleep here-at (λ k h. wrong k (sym is-ready ∙ h)) sound.sleeping.each;
  }
    where
      wrong : (k : ℕ) → Ready ≡ Asleep k → ⊥
      wrong k h = cc

  -- its effects are over
  pub end-run : (y : System) (stores : List Variables) (arrivals : List Arrival) → ((task_of t).pieces ≡ []) ⊎ (t.left ≡ 0 → ⊥)
      → run y 1 (state_by stores arrivals time (Effects (Some i)) (Some i) false tasks q.ready)
      ≡ (state_by stores arrivals time Delays (Some i) false tasks (at_head (i, (task_of t).active) q.ready), [])
  end-run y stores arrivals idle =
      no-effect y (Some i) stores arrivals time i tasks q.ready t here-at idle
      ∙ ap (λ es. let next : Next = (
        record (state_by stores arrivals time Delays (Some i) false tasks q.ready) {
          orders
              = places (length tasks) es;
        },
        [],
      ) in next) order-is

  pub end-sound : (q' : Queues) → q' ≡ record q { ready = at_head (i, (task_of t).active) q.ready } → IsSound until time Delays ran us tasks q'
  end-sound q' is = subst (IsSound until time Delays ran us tasks) (sym is) (record {
    size = sound.size;
    queued = subst (λ (es : List Entry). AreQueued (map task_of tasks) (places (length tasks) es)
        (at_head (i, (task_of t).active) q.ready)) order-is order-queued;
    sleeping = sound.sleeping;
    kept = sound.kept;
    here = tt;
    near = sound.near;
    few = sound.few;
    calls = sound.calls;
    in_time = sound.in_time;
  })

-- it has changed, and has its place in the order of dispatch by its active priority then
module _ (until time : ℕ) (us : List units.Unit) (i : ℕ) (ran : Option ℕ) (tasks : List Task) (q : Queues)
    (sound : IsSound until time (Effects (Some i)) ran us tasks q) (tasks' : List Task) (t t' : Task) (f : states.Task → states.Task)
    (c : Changed tasks tasks' i t t' f) (os : List ℤ) (queued : AreQueued (change i f (map task_of tasks)) os
    (at_head (i, (task_of t').active) q.ready)) where
  len : length tasks' ≡ length tasks
  len = changed-length tasks tasks' i t t' f c

  order-now : order_of (Effects (Some i)) tasks' q.ready ≡ at_head (i, (task_of t').active) q.ready
  order-now = ap (λ o. with_task i o q.ready) (ap (λ ts. slice_get ts i) c.set_is ∙ get-put tasks i t' (get_within i tasks t c.here))

  queued-now : AreQueued (map task_of tasks') os (at_head (i, (task_of t').active) q.ready)
  queued-now = subst (λ (ts : List states.Task). AreQueued ts os (at_head (i, (task_of t').active) q.ready))
      (sym (changed-tasks tasks tasks' i t t' f c)) queued

  placed-now : AreQueued (map task_of tasks') (places (length tasks') (order_of (Effects (Some i)) tasks' q.ready))
      (at_head (i, (task_of t').active) q.ready)
  placed-now =
      subst (λ (es : List Entry). AreQueued (map task_of tasks') (places (length tasks') es) (at_head (i, (task_of t').active) q.ready))
      (sym order-now)
      (subst (λ (n : ℕ). AreQueued (map task_of tasks') (places n (at_head (i, (task_of t').active) q.ready))
      (at_head (i, (task_of t').active) q.ready)) (length-map tasks' task_of)
      (queued-places (map task_of tasks') os (at_head (i, (task_of t').active) q.ready) queued-now))

  -- the machine's order numbers say the same
  pub moved-ranks : RankAlike (change i f (map task_of tasks)) os (places (length tasks') (order_of (Effects (Some i)) tasks' q.ready))
  moved-ranks =
      ranks-alike (change i f (map task_of tasks)) os (places (length tasks') (order_of (Effects (Some i)) tasks' q.ready))
      (at_head (i, (task_of t').active) q.ready) queued
      (subst (λ (ts : List states.Task). AreQueued ts (places (length tasks') (order_of (Effects (Some i)) tasks' q.ready))
      (at_head (i, (task_of t').active) q.ready)) (changed-tasks tasks tasks' i t t' f c) placed-now)

  pub moved-differs : (stores : List Variables) (arrivals : List Arrival)
      → DifferInOrders (record (state_by stores arrivals time (Effects (Some i)) ran false tasks q.ready) {
        tasks = change i f (map task_of tasks);
        orders = os;
      }) (state_by stores arrivals time (Effects (Some i)) ran false tasks' q.ready)
  moved-differs stores arrivals = record {
    same = ap (λ ts. record (state_by stores arrivals time (Effects (Some i)) ran false tasks' q.ready) {
      tasks
          = ts;
    }) (changed-tasks tasks tasks' i t t' f c);
    ranks = moved-ranks;
  }

  pub moved-sound : ((u : states.Task) → (f u).readiness ≡ u.readiness) → (task_of t').used ≡ t.used → (task_of t').next ≡ t.next
      → t'.works ≤ time + min t'.left 1 → (IsNested (task_of t) → IsNested (task_of t'))
      → IsSound until time (Effects (Some i)) ran us tasks' q
  moved-sound same used next works nests = record {
    size = sound.size ∙ sym len;
    queued = subst (AreQueued (map task_of tasks') (places (length tasks') (order_of (Effects (Some i)) tasks' q.ready))) (sym order-now) placed-now;
    sleeping = subst (λ (ts : List states.Task). AreSleeping ts time q.asleep) (sym (changed-tasks tasks tasks' i t t' f c)) (sleeping-kept
        (map task_of tasks) time q.asleep i f sound.sleeping same);
    kept = changed-all tasks tasks' i t t' f c (IsKept until time us) (IsKept until time us) sound.kept (λ u k. k) (keeps (sound.kept i t c.here));
    here = (sound.here.0, omega (arith, len, sound.here.1));
    near = sound.near;
    few = omega (arith, len, sound.few);
    calls = changed-alike tasks tasks' i t t' f c us sound.calls;
    in_time = sound.in_time;
  }
    where
      ready_now : t'.readiness ≡ readies.Ready
      ready_now = ready-is t'.readiness t'.next (ap (λ u. u.readiness) c.does ∙ same (task_of t) ∙ is-ready until time us i ran tasks q
          sound t c.here)

      keeps : IsKept until time us t → IsKept until time us t'
      keeps k = record {
        used = omega (arith, used, k.used);
        works = works;
        next = omega (arith, next, k.next);
        units = ap (λ th. th.units.now) c.thread ∙ k.units;
        idle = λ not. absurd (clash (sym (ap is_ready ready_now) ∙ not));
        nested = nests k.nested;
      }

-- a piece's effect
module _ (stores : List Variables) (arrivals : List Arrival) (until time : ℕ) (costs : Costs) (us : List units.Unit) (i : ℕ) (tasks : List Task)
    (q : Queues) (sound : IsSound until time (Effects (Some i)) (Some i) us tasks q)
    (t t' : Task) (here : slice_get tasks i ≡ Some t) (used_up : t.left ≡ 0) (act : Act)
    (a : Acts (system_of t.progress.stack.thread) costs (task_of t) act (task_of t')) where
  at : slice_get (map task_of tasks) i ≡ Some (task_of t)
  at = slice_get-map task_of tasks i ∙ ap (option_map task_of) here

  -- the step is what the deed does
  pub act-step : step (system_by until costs us tasks) (state_by stores arrivals time (Effects (Some i)) (Some i) false tasks q.ready)
      ≡ takes_effect (system_by until costs us tasks) i (task_of t) (deed (act_of act) a.vars a.pieces)
      (state_by stores arrivals time (Effects (Some i)) (Some i) false tasks q.ready)
  act-step =
      let s : states.State = state_by stores arrivals time (Effects (Some i)) (Some i) false tasks q.ready in
      let y : System = system_by until costs us tasks in
      ap (λ o. effect_at y i o s) at ∙ ap (λ ps. effect_of y i (task_of t) ps s) a.first
      ∙ ap (λ l. if l == 0 then takes_effect y i (task_of t) (done y a.piece (task_of t).vars a.rest) s else goes_to states.Delays s) used_up
      ∙ ap (λ d. takes_effect y i (task_of t) d s) (a.does y (runs-alike until costs us tasks sound.calls i t here))

  pub act-few : t.works ≤ time
  act-few = let k : IsKept until time us t = sound.kept i t here in omega (arith, k.works, used_up)

  -- a task that goes on
  module _ (tasks' : List Task) (c : Changed tasks tasks' i t t' (going costs a.vars a.pieces)) (works : t'.works ≤ t.works + min t'.left 1)
      (nests : IsNested (task_of t) → IsNested (task_of t')) where
    going_queued : AreQueued (change i (going costs a.vars a.pieces) (map task_of tasks))
        (places (length tasks) (order_of (Effects (Some i)) tasks q.ready)) (at_head (i, (task_of t').active) q.ready)
    going_queued =
        subst (λ (l : ℕ). AreQueued (change i (going costs a.vars a.pieces) (map task_of tasks))
        (places (length tasks) (order_of (Effects (Some i)) tasks q.ready)) (at_head (i, l) q.ready))
        (sym (ap (λ u. u.active) c.does ∙ going-active costs a.vars a.pieces (task_of t)))
        (queued-kept (map task_of tasks) (places (length tasks) (order_of (Effects (Some i)) tasks q.ready))
        (at_head (i, (task_of t).active) q.ready) i (going costs a.vars a.pieces) (order-queued until time us i (Some i) tasks q sound t here)
        (λ u. (going-readiness costs a.vars a.pieces u, going-active costs a.vars a.pieces u)))

    pub going-sound : IsSound until time (Effects (Some i)) (Some i) us tasks' q
    going-sound =
        moved-sound until time us i (Some i) tasks q sound tasks' t t' (going costs a.vars a.pieces) c
        (places (length tasks) (order_of (Effects (Some i)) tasks q.ready)) going_queued (λ u. going-readiness costs a.vars a.pieces u)
        (ap (λ u. u.used) c.does ∙ going-used costs a.vars a.pieces (task_of t))
        (ap (λ u. u.next) c.does ∙ going-next costs a.vars a.pieces (task_of t)) (omega (arith, works, act-few)) nests

    pub going-differs : DifferInOrders (record (state_by stores arrivals time (Effects (Some i)) (Some i) false tasks q.ready) {
      tasks
          = change i (going costs a.vars a.pieces) (map task_of tasks);
    }) (state_by stores arrivals time (Effects (Some i)) (Some i) false tasks' q.ready)
    going-differs = moved-differs until time us i (Some i) tasks q sound tasks' t t' (going costs a.vars a.pieces) c
        (places (length tasks) (order_of (Effects (Some i)) tasks q.ready)) going_queued stores arrivals

-- a task that ends its activation is ready no more
pub resting-apart : (w : ReleasePattern) (next : ℕ) → resting w next ≡ Ready → ⊥
resting-apart (Periodic offset period) next h = cc h
resting-apart (Requested op ceiling separation jitter external) next h = cc h

-- the end of an activation
module _ (stores : List Variables) (arrivals : List Arrival) (until time : ℕ) (costs : Costs) (us : List units.Unit) (i : ℕ) (tasks : List Task)
    (q : Queues) (sound : IsSound until time (Effects (Some i)) (Some i) us tasks q)
    (t t' : Task) (here : slice_get tasks i ≡ Some t) (used_up : t.left ≡ 0)
    (a : Acts (system_of t.progress.stack.thread) costs (task_of t) Finish (task_of t')) (tasks' : List Task)
    (c : Changed tasks tasks' i t t' (ended a.vars)) where
  end-at : slice_get (map task_of tasks) i ≡ Some (task_of t)
  end-at = slice_get-map task_of tasks i ∙ ap (option_map task_of) here

  abbrev end_state : states.State
  end_state = state_by stores arrivals time (Effects (Some i)) (Some i) false tasks q.ready

  abbrev end_orders : List ℤ
  end_orders = places (length tasks) (order_of (Effects (Some i)) tasks q.ready)

  finish-step : step (system_by until costs us tasks) end_state
      ≡ after (event.End time t.progress.stack.thread.unit t.used ∷ [])
      (serve (system_by until costs us tasks) i (changed_at i (ended a.vars) end_state))
  finish-step = act-step stores arrivals until time costs us i tasks q sound t t' here used_up Finish a

  -- the task behind the end
  ended-at : slice_get (change i (ended a.vars) (map task_of tasks)) i ≡ Some (task_of t')
  ended-at = get-changed i (ended a.vars) (map task_of tasks) (task_of t) end-at ∙ ap Some (sym c.does)

  pub finish-run : (is_waiting (task_of t').readiness && (task_of t').gate.open') ≡ false → run (system_by until costs us tasks) 1 end_state
      ≡ (record end_state { tasks = change i (ended a.vars) (map task_of tasks) }, event.End time t.progress.stack.thread.unit t.used ∷ [])
  finish-run test =
      let y : System = system_by until costs us tasks in
      step-run y end_state (changed_at i (ended a.vars) end_state) (event.End time t.progress.stack.thread.unit t.used ∷ [])
      (finish-step ∙ ap (after (event.End time t.progress.stack.thread.unit t.used ∷ []))
      (serve-none y i (task_of t') (changed_at i (ended a.vars) end_state) ended-at test))

  ended_queued : AreQueued (change i (ended a.vars) (map task_of tasks)) end_orders q.ready
  ended_queued =
      running-ended (map task_of tasks) end_orders (i, (task_of t).active) q.ready (order-queued until time us i (Some i) tasks q sound t here)
      (task_of t) (ended a.vars) end-at
      (resting-apart (task_of t).thread.timing t.next)

  pub ended-queued : AreQueued (map task_of tasks') end_orders q.ready
  ended-queued = subst (λ (ts : List states.Task). AreQueued ts end_orders q.ready) (sym (changed-tasks tasks tasks' i t t' (ended a.vars) c))
      ended_queued

  placed : AreQueued (map task_of tasks') (places (length tasks') q.ready) q.ready
  placed = subst (λ (n : ℕ). AreQueued (map task_of tasks') (places n q.ready) q.ready) (length-map tasks' task_of)
      (queued-places (map task_of tasks') end_orders q.ready ended-queued)

  pub finish-differs : DifferInOrders (record end_state { tasks = change i (ended a.vars) (map task_of tasks) })
      (state_by stores arrivals time (Effects None) (Some i) false tasks' q.ready)
  finish-differs = record {
    same = ap (λ ts. record (state_by stores arrivals time (Effects None) (Some i) false tasks' q.ready) {
      tasks
          = ts;
    }) (changed-tasks tasks tasks' i t t' (ended a.vars) c);
    ranks = ranks-alike (change i (ended a.vars) (map task_of tasks)) end_orders (places (length tasks') q.ready) q.ready ended_queued
        (subst (λ (ts : List states.Task). AreQueued ts (places (length tasks') q.ready) q.ready)
        (changed-tasks tasks tasks' i t t' (ended a.vars) c) placed);
  }

  end-len : length tasks' ≡ length tasks
  end-len = changed-length tasks tasks' i t t' (ended a.vars) c

  pub ended-rests : is_ready t'.readiness ≡ false
  ended-rests = by_readiness t'.readiness refl
    where
      by_readiness : (r : readiness.Readiness) → t'.readiness ≡ r → is_ready t'.readiness ≡ false
      by_readiness readies.Asleep e = ap is_ready e
      by_readiness readies.Waiting e = ap is_ready e
      by_readiness readies.Ready e = absurd (resting-apart (task_of t).thread.timing t.next
          (sym (ap (λ u. u.readiness) c.does) ∙ ap (λ r. readiness_of r t'.next) e))

  ended-kept : t'.works ≤ t.works + min t'.left 1 → (IsNested (task_of t) → IsNested (task_of t')) → AllTasks (IsKept until time us) tasks'
  ended-kept works nests = changed-all tasks tasks' i t t' (ended a.vars) c (IsKept until time us) (IsKept until time us) sound.kept (λ u k. k)
      (keeps (sound.kept i t here))
    where
      next_same : t'.next ≡ t.next
      next_same = ap (λ u. u.next) c.does

      used_same : t'.used ≡ t.used
      used_same = ap (λ u. u.used) c.does

      keeps : IsKept until time us t → IsKept until time us t'
      keeps k = record {
        used = omega (arith, used_same, k.used);
        works = omega (arith, works, k.works, used_up);
        next = omega (arith, next_same, k.next);
        units = ap (λ th. th.units.now) c.thread ∙ k.units;
        idle = λ not. ap (λ u. u.left) c.does;
        nested = nests k.nested;
      }

  ended-here : HasNoEffect (Some i) tasks'
  ended-here = (
    omega (arith, end-len, sound.here.1),
    λ u there is left. clash (sym is ∙ rests u
        (get-set_same tasks i t' u (get_within i tasks t here) (subst (λ (ts : List Task). slice_get ts i ≡ Some u) c.set_is there))),
  )
    where
      rests : (u : Task) → t' ≡ u → is_ready u.readiness ≡ false
      rests u h = ap (λ v. is_ready v.readiness) (sym h) ∙ ended-rests

  awake : (k : ℕ) → (task_of t).readiness ≡ Asleep k → ⊥
  awake k h = cc (sym (is-ready until time us i (Some i) tasks q sound t here) ∙ h)

  -- it sleeps
  pub finish-sound : (q' : Queues) → t'.readiness ≡ readies.Asleep → q' ≡ record q { asleep = in_time (i, max t'.next time) q.asleep }
      → t'.works ≤ t.works + min t'.left 1 → (IsNested (task_of t) → IsNested (task_of t'))
      → IsSound until time (Effects None) (Some i) us tasks' q'
  finish-sound q' sleeps is works nests =
      subst (IsSound until time (Effects None) (Some i) us tasks') (sym is) (record {
        size = sound.size ∙ sym end-len;
        queued = placed;
        sleeping = subst (λ (ts : List states.Task). AreSleeping ts time (in_time (i, max t'.next time) q.asleep))
            (sym (changed-tasks tasks tasks' i t t' (ended a.vars) c))
            (sleeping-more (map task_of tasks) time q.asleep i t'.next (task_of t) (ended a.vars) sound.sleeping end-at awake
            (ap (λ u. u.readiness) (sym c.does) ∙ ap (λ r. readiness_of r t'.next) sleeps));
        kept = ended-kept works nests;
        here = ended-here;
        near = sound.near;
        few = omega (arith, end-len, sound.few);
        calls = changed-alike tasks tasks' i t t' (ended a.vars) c us sound.calls;
        in_time = sound.in_time;
      })

  -- it waits
  pub wait-sound : (t'.readiness ≡ readies.Asleep → ⊥) → t'.works ≤ t.works + min t'.left 1 → (IsNested (task_of t) → IsNested (task_of t'))
      → IsSound until time (Effects None) (Some i) us tasks' q
  wait-sound waits works nests = record {
    size = sound.size ∙ sym end-len;
    queued = placed;
    sleeping = subst (λ (ts : List states.Task). AreSleeping ts time q.asleep) (sym (changed-tasks tasks tasks' i t t' (ended a.vars) c))
        (sleeping-awake (map task_of tasks) time q.asleep i (task_of t) (ended a.vars) sound.sleeping end-at awake
        (λ k h. asleep-apart t'.readiness t'.next k waits (ap (λ u. u.readiness) c.does ∙ h)));
    kept = ended-kept works nests;
    here = ended-here;
    near = sound.near;
    few = omega (arith, end-len, sound.few);
    calls = changed-alike tasks tasks' i t t' (ended a.vars) c us sound.calls;
    in_time = sound.in_time;
  }

  pub waits-now : (t'.readiness ≡ readies.Asleep → ⊥) → t'.readiness ≡ readies.Waiting
  waits-now not = by_readiness t'.readiness refl
    where
      by_readiness : (r : readiness.Readiness) → t'.readiness ≡ r → t'.readiness ≡ readies.Waiting
      by_readiness readies.Asleep e = absurd (not e)
      by_readiness readies.Waiting e = e
      by_readiness readies.Ready e = absurd (clash (sym (ap is_ready e) ∙ ended-rests))

  -- it waits, and its control structure is open: it is released at once
  module _ (t'' : Task) (tasks'' : List Task) (d : Changed tasks' tasks'' i t' t'' (released costs)) (not : t'.readiness ≡ readies.Asleep → ⊥) where
    pub served-run : t'.gate.«open» ≡ true → run (system_by until costs us tasks) 1 end_state
        ≡ (
          record end_state { tasks = change i (released costs) (change i (ended a.vars) (map task_of tasks)); orders = put_last i end_orders },
          event.End time t.progress.stack.thread.unit t.used ∷ event.Release time t'.progress.stack.thread.unit t'.gate.value ∷ [],
        )
    served-run is_open =
        let y : System = system_by until costs us tasks in
        let test : (is_waiting (task_of t').readiness && t'.gate.«open») ≡ true
        = ap (λ r. is_waiting (readiness_of r t'.next) && t'.gate.«open») (waits-now not) ∙ is_open in
        step-run y end_state _ _
        (finish-step ∙ ap (after (event.End time t.progress.stack.thread.unit t.used ∷ []))
        (serve-run y i (task_of t') (changed_at i (ended a.vars) end_state) ended-at test))

    pub served-differs : DifferInOrders
        (record end_state { tasks = change i (released costs) (change i (ended a.vars) (map task_of tasks)); orders = put_last i end_orders })
        (state_by stores arrivals time (Effects None) (Some i) false tasks'' (at_tail (i, (task_of t'').active) q.ready))
    served-differs = record {
      same = ap (λ ts. record (state_by stores arrivals time (Effects None) (Some i) false tasks''
          (at_tail (i, (task_of t'').active) q.ready)) { tasks = ts })
          (changed-tasks tasks' tasks'' i t' t'' (released costs) d ∙ ap (change i (released costs))
          (changed-tasks tasks tasks' i t t' (ended a.vars) c));
      ranks = subst (λ (ts : List states.Task). RankAlike (change i (released costs) ts) (put_last i end_orders)
          (places (length tasks'') (at_tail (i, (task_of t'').active) q.ready)))
          (changed-tasks tasks tasks' i t t' (ended a.vars) c)
          (tail-ranks costs tasks' tasks'' end_orders q.ready i t' t'' d ended-queued ended-rests);
    }

    pub served-sound : (q' : Queues) → q' ≡ record q { ready = at_tail (i, (task_of t'').active) q.ready } → t'.works ≤ t.works + min t'.left 1
        → t''.works ≤ t'.works + min t''.left 1 → 0 < t''.left → (IsNested (task_of t) → IsNested (task_of t'))
        → IsSound until time (Effects None) (Some i) us tasks'' q'
    served-sound q' is works works' some nests =
        waiting-released until time costs us (Effects None) (Some i) tasks' tasks'' q q' i t' t'' (λ ts es. refl) (wait-sound not works nests) d
        (waits-now not) works' is (
          omega (arith, changed-length tasks' tasks'' i t' t'' (released costs) d, end-len, sound.here.1),
          λ u there ready none. nothing (subst
              (λ (v : Task). 0 < v.left) (same u there) some) none,
        )
      where
        nothing : {n : ℕ} → 0 < n → n ≡ 0 → ⊥
        nothing h e = omega (arith, h, e)

        same : (u : Task) → slice_get tasks'' i ≡ Some u → t'' ≡ u
        same u there = get-set_same tasks' i t'' u (get_within i tasks' t' d.here)
            (subst (λ (ts : List Task). slice_get ts i ≡ Some u) d.set_is there)
