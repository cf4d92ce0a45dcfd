-- A step of a processor whose task has effects: what it comes to, from what it comes to for the state.
use Rattle.std.specs.Prelude.{◌≡◌, ◌⊎◌, ℕ, ◌+◌, ◌*◌, ◌<◌, ◌≤◌, max, min, Bool, false, ◌&&◌, List, [], ◌∷◌, length, map, set, Option, Some, None}
use Rattle.std.specs.Prelude.{option_map, slice_get, true, refl}
use Rattle.std.proofs.Common.{sym, ◌∙◌, ap, subst, arith}
use Rattle.std.proofs.lemmas.Option.{slice_get-map}
use Rattle.machine.specs.States as states
use Rattle.machine.specs.Meanings.{run}
use Rattle.machine.specs.Deeds.{deed}
use Rattle.machine.specs.Effects.{ended, takes_effect}
use Rattle.machine.specs.Releases.{Next, going, is_waiting, released}
use Rattle.seq_tree.specs.Lists.{change}
use Rattle.seq_tree.specs.Variables.{Variables}
use Rattle.trace_tree.specs.declared.event.Event.{Event}
use Rattle.trace_tree.specs.declared.event.Event.TheVariants as event
use Rattle.link_queue.specs.Queues.{Entry, Queues, at_head, at_tail, in_time}
use Rattle.machine.specs.Dispatch.{put_last}
use Rattle.law_dispatching.specs.Queueing.{places}
use Rattle.law_dispatching.specs.Renumbering.{DifferInOrders}
use Rattle.task_runtime.specs.Doing.{act_of}
use Rattle.task_runtime.specs.Effort.{most_ends}
use Rattle.task_runtime.specs.Readies.{is_ready, readiness_of}
use Rattle.task_runtime.specs.Works.{EffortFalls, IsNested}
use Rattle.task_runtime.specs.Tasks.{task_of}
use Rattle.task_runtime.specs.Written.{reserve}
use Rattle.task_runtime.specs.declared.effects.Act.{Act}
use Rattle.task_runtime.specs.declared.effects.Act.TheVariants.{Finish}
use Rattle.task_runtime.specs.declared.readiness.Readiness.{Readiness}
use Rattle.task_runtime.specs.declared.readiness.Readiness.TheVariants as readies
use Rattle.task_runtime.specs.declared.task.Task.{Task}
use Rattle.task_runtime.specs.Sounds.{IsAtWork}
use Rattle.task_runtime.specs.Alongs.{HasDone}
use Rattle.ceil_runtime.specs.Left.{ran_effort, sleeper, sleepers}
use Rattle.ceil_runtime.specs.Processing.{Follows, IsSound, order_of, state_by, system_by}
use Rattle.ceil_runtime.specs.Snapshots.{AreAtWork, IsWholeAt, Snapshot, running_at, state_at, system_at}
use Rattle.ceil_runtime.specs.Stepping.{AreOfTask, Ends, HasUnit, IsNear, Nothing, One, Steps, Told, told_of, Two}
use Rattle.ceil_runtime.specs.declared.processor.Phase.TheVariants.{Effects, Delays}
use Rattle.ceil_runtime.proofs.Falling.{falls-effect, sleeper-most, sleepers-sum}
use Rattle.ceil_runtime.proofs.Nearing.{fewer-effects, nears-effect, reserve-most}
use Rattle.ceil_runtime.proofs.Phases.{acting, at_phase}
use Rattle.ceil_runtime.proofs.Processed.{Changed, changed-system, follows-of, follows-renumbered, get-put, get_within, here-of, step-run}
use Rattle.ceil_runtime.proofs.Processed.{changed-at-work, still-reached}
use Rattle.ceil_runtime.proofs.Effected.{act-step, nobody-run, nobody-sound, end-run, end-sound, ended-rests, finish-differs, finish-run}
use Rattle.ceil_runtime.proofs.Effected.{finish-sound, going-differs, going-sound, is-ready, served-differs, served-run, served-sound, wait-sound}
use Rattle.ceil_runtime.proofs.Effected.{waits-now}
use Rattle.ceil_runtime.proofs.Released.{going-readiness, released-readiness}
use Rattle.task_runtime.proofs.Shared.TasksAtWork.{nests-ended}

-- a processor whose task at a place had effects, with these tasks, lists and data now
abbrev pub acted_to : Snapshot → ℕ → Option ℕ → List Task → Queues → List Variables → Snapshot
acted_to s i running tasks' queues' stores' = record s {
  phase = Effects running;
  ran = Some i;
  stopped = false;
  tasks = tasks';
  queues = queues';
  stores = stores';
}

-- one whose task has effects, as a state
abbrev pub effect_state : Snapshot → ℕ → states.State
effect_state s i = state_at (acting s i)

-- an effect, with fewer behind it in this instant
module _ (s : Snapshot) (i : ℕ) (whole : IsWholeAt (acting s i)) (running : Option ℕ) (tasks' : List Task) (queues' : Queues)
    (stores' : List Variables) (told : Told) (n : states.State) (runs : run (system_at s) 1 (effect_state s i) ≡ (n, told_of told))
    (differ : DifferInOrders n (state_at (acted_to s i running tasks' queues' stores')))
    (same : system_by s.until s.costs s.units tasks' ≡ system_at s)
    (sound' : IsSound s.until s.time (Effects running) (Some i) s.units tasks' queues') (at_work' : AreAtWork s.code tasks')
    (ends : Ends told (acted_to s i running tasks' queues' stores')) (of : AreOfTask s.tasks told)
    (less : ran_effort (most_ends (system_by s.until s.costs s.units tasks')) (map task_of tasks') (Some i)
    < ran_effort (most_ends (system_at s)) (map task_of s.tasks) (Some i))
    (few : 2 * ran_effort (most_ends (system_by s.until s.costs s.units tasks')) (map task_of tasks') (Some i) + sleepers (map task_of tasks')
    + length (told_of told) ≤ 2 * ran_effort (most_ends (system_at s)) (map task_of s.tasks) (Some i) + sleepers (map task_of s.tasks)) where
  near : (told' : Told) → IsNear told' (acting s i) (acted_to s i running tasks' queues' stores')
  near Nothing = nears-effect (Some i) running s.arrivals s.until s.time (most_ends (system_at s)) _ s.tasks tasks' (Some i) (ap most_ends same) less
  near (One e) = tt
  near (Two e f) = tt

  effect-follows : Follows (running_at (acting s i)) (told_of told) (running_at (acted_to s i running tasks' queues' stores'))
  effect-follows = follows-renumbered (system_at s) _ 1 _ _ n _ (told_of told) refl runs differ same

  pub effect-step : Steps (acting s i) told (acted_to s i running tasks' queues' stores')
  effect-step = record {
    whole = λ on. record { sound = sound'; at_work = at_work'; reached = still-reached whole effect-follows };
    follows = effect-follows;
    ends = ends;
    nears = near told;
    of = of;
    falls = λ on. falls-effect s.stores stores' (Some i) running (Some i) s.arrivals s.until s.costs s.units s.time (length (told_of told)) false
        false s.tasks tasks' s.queues.ready queues'.ready same few;
  }

-- the effects that may still follow after a change of the task that has them
pub fewer-after : (s : Snapshot) (i : ℕ) → IsWholeAt (acting s i) → (tasks' : List Task) (t t' : Task) (f : states.Task → states.Task)
    (c : Changed s.tasks tasks' i t t' f) → t.left ≡ 0 → EffortFalls t.progress.stack.thread (task_of t) (task_of t')
    → ran_effort (most_ends (system_by s.until s.costs s.units tasks')) (map task_of tasks') (Some i)
    < ran_effort (most_ends (system_at s)) (map task_of s.tasks) (Some i)
fewer-after s i whole tasks' t t' f c due falls =
    let most : ℕ = most_ends (system_at s) in
    let enough : reserve t.progress.stack.thread ≤ most
    = reserve-most s.until s.time s.costs s.units s.tasks i t c.here (whole.sound.kept i t c.here).units in
    let now : slice_get tasks' i ≡ Some t' = ap (λ ts. slice_get ts i) c.set_is ∙ get-put s.tasks i t' (get_within i s.tasks t c.here) in
    fewer-effects most _ (map task_of s.tasks) (map task_of tasks') i (task_of t) (task_of t')
    (ap most_ends (changed-system s.tasks tasks' i t t' f c s.until s.costs s.units)) (here-of s.tasks tasks' i t t' f c)
    (slice_get-map task_of tasks' i ∙ ap (option_map task_of) now) due (falls most enough)

-- a piece that leaves the task ready, and says at most two events
module _ (s : Snapshot) (i : ℕ) (whole : IsWholeAt (acting s i)) (t t' : Task) (here : slice_get s.tasks i ≡ Some t) (due : t.left ≡ 0) (act : Act)
    (d : HasDone s.code s.costs act t t') (nests : IsNested (task_of t) → IsNested (task_of t')) where
  module _ (does : task_of t' ≡ going s.costs d.acts.vars d.acts.pieces (task_of t)) (told : Told)
      (says : takes_effect (system_at s) i (task_of t) (deed (act_of act) d.acts.vars d.acts.pieces) (effect_state s i)
      ≡ (record (effect_state s i) { tasks = change i (going s.costs d.acts.vars d.acts.pieces) (map task_of s.tasks) }, told_of told))
      (ends : Ends told (record (acting s i) { tasks = set s.tasks i t' })) (of : AreOfTask s.tasks told) (few : length (told_of told) ≤ 2) where
    abbrev going_tasks : List Task
    going_tasks = set s.tasks i t'

    going_changed : Changed s.tasks going_tasks i t t' (going s.costs d.acts.vars d.acts.pieces)
    going_changed = record { here = here; set_is = refl; does = does; thread = d.thread }

    abbrev going_state : states.State
    going_state = record (effect_state s i) { tasks = change i (going s.costs d.acts.vars d.acts.pieces) (map task_of s.tasks) }

    pub going-step : Steps (acting s i) told (record (acting s i) { tasks = going_tasks })
    going-step =
        let less = fewer-after s i whole going_tasks t t' _ going_changed due d.falls in
        let sleep = sleepers-sum s.tasks going_tasks i t t' _ going_changed s.until s.costs s.units in
        let same : sleeper (task_of t').readiness ≡ sleeper (task_of t).readiness
        = ap (λ u. sleeper u.readiness) does ∙ ap sleeper (going-readiness s.costs d.acts.vars d.acts.pieces (task_of t)) in
        effect-step s i whole (Some i) going_tasks s.queues s.stores told going_state
        (step-run (system_at s) (effect_state s i) going_state (told_of told)
        (act-step s.stores s.arrivals s.until s.time s.costs s.units i s.tasks s.queues whole.sound t t' here due act d.acts ∙ says))
        (going-differs s.stores s.arrivals s.until s.time s.costs s.units i s.tasks s.queues whole.sound t t' here due act d.acts going_tasks
        going_changed d.works nests)
        (changed-system s.tasks going_tasks i t t' _ going_changed s.until s.costs s.units)
        (going-sound s.stores s.arrivals s.until s.time s.costs s.units i s.tasks s.queues whole.sound t t' here due act d.acts going_tasks
        going_changed d.works nests)
        (changed-at-work s.tasks going_tasks i t t' _ going_changed s.code whole.at_work d.at_work)
        ends of less (omega (arith, less, sleep, same, few))

-- whether a task is released at once, by its control structure
abbrev served_by : Bool → ℕ → Readiness → Bool
served_by gate next r = is_waiting (readiness_of r next) && gate

-- the end of an activation
module _ (s : Snapshot) (i : ℕ) (whole : IsWholeAt (acting s i)) (t t' : Task) (here : slice_get s.tasks i ≡ Some t) (due : t.left ≡ 0)
    (d : HasDone s.code s.costs Finish t t') where
  finish-nests : IsNested (task_of t) → IsNested (task_of t')
  finish-nests = nests-ended t t' d.acts.vars d.acts.after d.inside

  abbrev ended-told : Event
  ended-told = event.End s.time t'.progress.stack.thread.unit t'.used

  told-same : event.End s.time t.progress.stack.thread.unit t.used ≡ ended-told
  told-same = ap (λ th. event.End s.time th.unit t.used) (sym d.thread) ∙ ap (λ n. event.End s.time t'.progress.stack.thread.unit n)
      (sym (ap (λ u. u.used) d.acts.after))

  awake : sleeper (task_of t).readiness ≡ 0
  awake = ap sleeper (is-ready s.until s.time s.units i (Some i) s.tasks s.queues whole.sound t here)

  first-of : HasUnit s.tasks t'.progress.stack.thread.unit
  first-of = record { place = i; task = t; here = here; is_unit = ap (λ th. th.unit) d.thread }

  -- the tasks after it
  module _ (tasks' : List Task) (items : tasks' ≡ set s.tasks i t') where
    finish-changed : Changed s.tasks tasks' i t t' (ended d.acts.vars)
    finish-changed = record { here = here; set_is = items; does = d.acts.after; thread = d.thread }

    abbrev finish_state : states.State
    finish_state = record (effect_state s i) { tasks = change i (ended d.acts.vars) (map task_of s.tasks) }

    -- it is released at some later time
    finish-at-work : AreAtWork s.code tasks'
    finish-at-work = changed-at-work s.tasks tasks' i t t' _ finish-changed s.code whole.at_work d.at_work

    finish-step : (q' : Queues) → q'.ready ≡ s.queues.ready → (is_waiting (task_of t').readiness && (task_of t').gate.open') ≡ false
        → IsSound s.until s.time (Effects None) (Some i) s.units tasks' q'
        → Steps (acting s i) (One ended-told) (acted_to s i None tasks' q' s.stores)
    finish-step q' ready_is shut sound' =
        let less = fewer-after s i whole tasks' t t' _ finish-changed due d.falls in
        let sleep = sleepers-sum s.tasks tasks' i t t' _ finish-changed s.until s.costs s.units in
        let one : sleeper (task_of t').readiness ≤ 1 = sleeper-most (task_of t').readiness in
        effect-step s i whole None tasks' q' s.stores (One ended-told) finish_state
        (finish-run s.stores s.arrivals s.until s.time s.costs s.units i s.tasks s.queues whole.sound t t' here due d.acts tasks' finish-changed shut
        ∙ ap (λ e. let next : Next = (finish_state, e ∷ []) in next) told-same)
        (subst (λ (es : List Entry). DifferInOrders finish_state (state_by s.stores s.arrivals s.time (Effects None) (Some i) false tasks' es))
        (sym ready_is)
        (finish-differs s.stores s.arrivals s.until s.time s.costs s.units i s.tasks s.queues whole.sound t t' here due d.acts tasks' finish-changed))
        (changed-system s.tasks tasks' i t t' _ finish-changed s.until s.costs s.units) sound' finish-at-work (tt, refl) first-of less
        (omega (arith, less, sleep, one, awake))

    -- it sleeps
    pub sleep-step : t'.readiness ≡ readies.Asleep → (q' : Queues) → q' ≡ record s.queues { asleep = in_time (i, max t'.next s.time) s.queues.asleep }
        → Steps (acting s i) (One ended-told) (acted_to s i None tasks' q' s.stores)
    sleep-step sleeps q' is =
        finish-step q' (ap (λ (q : Queues). q.ready) is) (ap (served_by t'.gate.«open» t'.next) sleeps)
        (finish-sound s.stores s.arrivals s.until s.time s.costs s.units i s.tasks s.queues whole.sound t t' here due d.acts tasks' finish-changed q'
        sleeps is d.works finish-nests)

    -- it waits, and its control structure is shut
    pub wait-step : (t'.readiness ≡ readies.Asleep → ⊥) → t'.gate.«open» ≡ false
        → Steps (acting s i) (One ended-told) (acted_to s i None tasks' s.queues s.stores)
    wait-step not shut =
        finish-step s.queues refl
        (ap (served_by t'.gate.«open» t'.next) (waits-now s.stores s.arrivals s.until s.time s.costs s.units i s.tasks s.queues whole.sound t t' here
        due d.acts tasks' finish-changed not) ∙ shut)
        (wait-sound s.stores s.arrivals s.until s.time s.costs s.units i s.tasks s.queues whole.sound t t' here due d.acts tasks' finish-changed not
        d.works finish-nests)

    pub finish-rests : is_ready t'.readiness ≡ false
    finish-rests =
        ended-rests s.stores s.arrivals s.until s.time s.costs s.units i s.tasks s.queues whole.sound t t' here due d.acts tasks' finish-changed

    abbrev served_state : states.State
    served_state = record (effect_state s i) {
      tasks = change i (released s.costs) (change i (ended d.acts.vars) (map task_of s.tasks));
      orders = put_last i (places (length s.tasks) (order_of (Effects (Some i)) s.tasks s.queues.ready));
    }

    -- it is released at once
    module _ (t'' : Task) (task : task_of t'' ≡ released s.costs (task_of t')) (thread' : t''.progress.stack.thread
        ≡ t'.progress.stack.thread) (works' : t''.works ≤ t'.works + min t''.left 1) (some : 0 < t''.left) (at'' : IsAtWork s.code t''.progress)
        (not : t'.readiness ≡ readies.Asleep → ⊥) (is_open : t'.gate.«open» ≡ true)
        (q' : Queues) (links_are : q' ≡ record s.queues { ready = at_tail (i, (task_of t'').active) s.queues.ready }) where
      abbrev served_tasks : List Task
      served_tasks = set tasks' i t''

      pub served-step : Steps (acting s i) (Two ended-told (event.Release s.time t'.progress.stack.thread.unit t'.gate.value))
          (acted_to s i None served_tasks q' s.stores)
      served-step =
          let release : Event = event.Release s.time t'.progress.stack.thread.unit t'.gate.value in
          let now : Changed tasks' served_tasks i t' t'' (released s.costs) =
          record {
            here = ap (λ ts. slice_get ts i) items ∙ get-put s.tasks i t' (get_within i s.tasks t here);
            set_is = refl;
            does = task;
            thread = thread';
          } in
          let system_is = changed-system tasks' served_tasks i t' t'' _ now s.until s.costs s.units
          ∙ changed-system s.tasks tasks' i t t' _ finish-changed s.until s.costs s.units in
          let waits = waits-now s.stores s.arrivals s.until s.time s.costs s.units i s.tasks s.queues whole.sound t t' here due d.acts tasks'
          finish-changed not in
          let sleep = sleepers-sum s.tasks tasks' i t t' _ finish-changed s.until s.costs s.units in
          let sleep' = sleepers-sum tasks' served_tasks i t' t'' _ now s.until s.costs s.units in
          let rests : sleeper (task_of t').readiness ≡ 0 = ap (λ r. sleeper (readiness_of r t'.next)) waits in
          let ready : sleeper (task_of t'').readiness ≡ 0
          = ap (λ u. sleeper u.readiness) task ∙ ap sleeper (released-readiness s.costs (task_of t')) in
          let most : ℕ = most_ends (system_at s) in
          let enough : reserve t.progress.stack.thread ≤ most
          = reserve-most s.until s.time s.costs s.units s.tasks i t here (whole.sound.kept i t here).units in
          let here'' : slice_get served_tasks i ≡ Some t'' = get-put tasks' i t'' (get_within i tasks' t' now.here) in
          let less = fewer-effects most _ (map task_of s.tasks) (map task_of served_tasks) i (task_of t) (task_of t'')
          (ap most_ends system_is) (here-of s.tasks tasks' i t t' _ finish-changed)
          (slice_get-map task_of served_tasks i ∙ ap (option_map task_of) here'') due ((d.falls most enough).0, λ none. absurd (nothing some none)) in
          effect-step s i whole None served_tasks q' s.stores (Two ended-told release) served_state
          (served-run s.stores s.arrivals s.until s.time s.costs s.units i s.tasks s.queues whole.sound t t' here due d.acts tasks' finish-changed
          t'' served_tasks now not is_open
          ∙ ap (λ e. let next : Next = (served_state, e ∷ release ∷ []) in next) told-same)
          (subst (λ (q : Queues). DifferInOrders served_state
          (state_by s.stores s.arrivals s.time (Effects None) (Some i) false served_tasks q.ready))
          (sym links_are)
          (served-differs s.stores s.arrivals s.until s.time s.costs s.units i s.tasks s.queues whole.sound t t' here due d.acts tasks' finish-changed
          t'' served_tasks now not))
          system_is
          (served-sound s.stores s.arrivals s.until s.time s.costs s.units i s.tasks s.queues whole.sound t t' here due d.acts tasks' finish-changed
          t'' served_tasks now not q' links_are d.works works' some finish-nests)
          (changed-at-work tasks' served_tasks i t' t'' _ now s.code finish-at-work at'')
          (tt, tt, refl) (first-of, first-of) less (omega (arith, less, sleep, sleep', rests, ready, awake))
        where
          nothing : {n : ℕ} → 0 < n → n ≡ 0 → ⊥
          nothing h e = omega (arith, h, e)

-- the end of the effects of an instant
pub end-step : (s : Snapshot) (i : ℕ) (whole : IsWholeAt (acting s i)) (t : Task) (here : slice_get s.tasks i ≡ Some t)
    → ((task_of t).pieces ≡ []) ⊎ (t.left ≡ 0 → ⊥) → (q' : Queues) → q' ≡ record s.queues { ready = at_head (i, t.active) s.queues.ready }
    → Steps (acting s i) Nothing (record s { phase = Delays; ran = Some i; stopped = false; queues = q' })
end-step s i whole t here idle q' is =
    let f : Follows (running_at (acting s i)) [] (running_at (record s { phase = Delays; ran = Some i; stopped = false; queues = q' })) =
    follows-of (system_at s) (system_at s) 1 _ _ _ _ [] refl
    (end-run s.until s.time s.units i (Some i) s.tasks s.queues whole.sound t here (system_at s) s.stores s.arrivals idle)
    (ap (λ (q : Queues). state_by s.stores s.arrivals s.time Delays (Some i) false s.tasks q.ready) (sym is)) refl in
    record {
      whole = λ on. record {
        sound = end-sound s.until s.time s.units i (Some i) s.tasks s.queues whole.sound t here q' is;
        at_work = whole.at_work;
        reached = still-reached whole f;
      };
      follows = f;
      ends = refl;
      nears = omega arith;
      of = tt;
      falls = λ on. omega arith;
    }

-- no task has effects
pub nobody-step : (s : Snapshot) (whole : IsWholeAt (at_phase (Effects None) s))
    → Steps (at_phase (Effects None) s) Nothing (record s { phase = Delays; stopped = false })
nobody-step s whole =
    let f : Follows (running_at (at_phase (Effects None) s)) [] (running_at (record s { phase = Delays; stopped = false })) =
    follows-of (system_at s) (system_at s) 1 _ _ _ _ [] refl
    (nobody-run (system_at s) s.stores s.arrivals s.time s.ran s.tasks s.queues.ready whole.sound.here) refl refl in
    record {
      whole = λ on. record {
        sound = nobody-sound s.until s.time s.units s.ran s.tasks s.queues whole.sound;
        at_work = whole.at_work;
        reached = still-reached whole f;
      };
      follows = f;
      ends = refl;
      nears = omega arith;
      of = tt;
      falls = λ on. omega arith;
    }
