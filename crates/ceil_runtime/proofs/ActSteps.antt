-- The steps of a processor whose task does its piece, by the act that the task level says: it is stopped at a section, enters one or leaves one, or
-- does a part of a request.
use Rattle.std.specs.Prelude.{◌≡◌, ℕ, true, false, nat_lt, List, [], ◌∷◌, Some, slice_get, refl, ◌+◌, ◌≤◌, min, length, set, ◌≢◌, ◌⊎◌, ◌<◌, ◌&&◌, map}
use Rattle.std.specs.Prelude.{Option, option_map, ℤ}
use Rattle.std.proofs.Common.{◌∙◌, sym, ap, subst, arith, inl, inr}
use Rattle.seq_tree.specs.Variables.{Variables}
use Rattle.trace_tree.specs.declared.event.Event.{Event}
use Rattle.trace_tree.specs.declared.event.Event.TheVariants as event
use Rattle.machine.specs.Pieces.{Piece}
use Rattle.machine.specs.States.{Resource}
use Rattle.machine.specs.Deeds as deeds
use Rattle.machine.specs.Deeds.{deed, done}
use Rattle.machine.specs.Effects.{acted, ceiling_of, entry, section_unit, entered_at, exit, inside_now, lending, lent, outside_now}
use Rattle.task_runtime.specs.Works.{EffortFalls, IsNested}
use Rattle.task_runtime.specs.Tasks.{task_of}
use Rattle.task_runtime.specs.declared.task.Task.{Task}
use Rattle.task_runtime.specs.Sounds.{IsAtWork}
use Rattle.ceil_runtime.specs.Snapshots.{IsWholeAt, Snapshot, system_at, state_at}
use Rattle.ceil_runtime.specs.Stepping.{AreOfTask, Ends, GoesOn, Nothing, One, Steps, Told, told_of, Two}
use Rattle.ceil_runtime.proofs.Phases.{acting}
use Rattle.ceil_runtime.proofs.Processed.{follows-of, step-run, Changed, changed-at-work, changed-system, changed-tasks, get-put, get_within}
use Rattle.ceil_runtime.proofs.Processed.{here-of, same-at-work}
use Rattle.ceil_runtime.proofs.Sectioned.{deed-step, stops, entered-differs, entered-sound, entered-step, left-differs, left-sound, left-queued}
use Rattle.ceil_runtime.proofs.Stepped.{effect_state, acted_to, effect-step, fewer-after}
use Rattle.machine.specs.Releases.{going, after, is_waiting, released, serve}
use Rattle.law_dispatching.proofs.Shared.Acts.{goes-readiness, outside-readiness, go-queued, goes-active, other-waits, release-queued, served}
use Rattle.ceil_runtime.specs.Left.{sleeper}
use Rattle.law_dispatching.specs.Renumbering.{DifferInOrders}
use Rattle.ceil_runtime.proofs.Falling.{sleepers-sum}
use Rattle.std.proofs.lemmas.Bool.{cases_eq}
use Rattle.std.proofs.lemmas.Option.{slice_get-map}
use Rattle.seq_tree.specs.Lists.{change}
use Rattle.link_queue.specs.Queues.{Queues, at_head, at_tail}
use Rattle.machine.specs.States as states
use Rattle.machine.specs.Dispatch.{put_first, put_last}
use Rattle.law_dispatching.specs.Queueing.{AreQueued, places}
use Rattle.law_dispatching.proofs.Shared.Places.{get-changed, get-other}
use Rattle.law_dispatching.proofs.Shared.Queued.{queued-kept}
use Rattle.task_runtime.specs.Effort.{effort, most_ends, sections_among}
use Rattle.ceil_runtime.specs.Processing.{IsKept, IsSound, order_of}
use Rattle.task_runtime.specs.Readies.{readiness_of}
use Rattle.task_runtime.specs.Written.{reserve}
use Rattle.task_runtime.specs.declared.readiness.Readiness.TheVariants as readies
use Rattle.ceil_runtime.specs.declared.processor.Phase.TheVariants.{Effects}
use Rattle.ceil_runtime.proofs.Effected.{moved-sound, order-queued}
use Rattle.ceil_runtime.proofs.Nearing.{fewer-effects, reserve-most}
use Rattle.ceil_runtime.proofs.Released.{released-readiness}
use Rattle.ceil_runtime.proofs.Requests.{gate-sound, order-by, release-sound, settled-differs}

module _ (s : Snapshot) (i : ℕ) (whole : IsWholeAt (acting s i)) (t : Task) (here : slice_get s.tasks i ≡ Some t) (due : t.left ≡ 0)
    (piece : Piece) (rest pieces : List Piece) (vars : Variables) (act : deeds.Act) (first : (task_of t).pieces ≡ piece ∷ rest)
    (does : done (system_at s) piece (task_of t).vars rest ≡ deed act vars pieces) (section : Resource) (told : List Event)
    (enters : acted (system_at s) i (task_of t) act vars pieces (effect_state s i)
    ≡ entry (system_at s) i (task_of t) section told vars pieces (effect_state s i))
    (above : nat_lt (ceiling_of (system_at s) section) (task_of t).active ≡ true) where
  abbrev stop_event : Event
  stop_event = event.Stop s.time t.progress.stack.thread.unit (section_unit (system_at s) section) t.active (ceiling_of (system_at s) section)

  pub stop-step : AreOfTask s.tasks (One stop_event) → Steps (acting s i) (One stop_event) (record (acting s i) { stopped = true })
  stop-step of = record {
    whole = λ on. absurd (cc on);
    follows = follows-of (system_at s) (system_at s) 1 _ (effect_state s i) (record (effect_state s i) { stopped = true }) _ (stop_event ∷ []) refl
        (step-run (system_at s) (effect_state s i) (record (effect_state s i) { stopped = true }) (stop_event ∷ [])
        (deed-step s.stores s.arrivals s.until s.time s.costs s.units i s.tasks s.queues whole.sound t here due piece rest pieces vars act first does
        ∙ enters
        ∙ stops s.stores s.arrivals s.until s.time s.costs s.units i s.tasks s.queues whole.sound t here due section told vars pieces above)) refl
        refl;
    ends = refl;
    nears = tt;
    of = of;
    falls = λ on. absurd (cc on);
  }

module _ (s : Snapshot) (i : ℕ) (whole : IsWholeAt (acting s i)) (t t' : Task) (here : slice_get s.tasks i ≡ Some t) (due : t.left ≡ 0)
    (piece : Piece) (rest pieces : List Piece) (vars : Variables) (act : deeds.Act) (first : (task_of t).pieces ≡ piece ∷ rest)
    (does : done (system_at s) piece (task_of t).vars rest ≡ deed act vars pieces)
    (thread : t'.progress.stack.thread ≡ t.progress.stack.thread) (works : t'.works ≤ t.works + min t'.left 1)
    (falls : EffortFalls t.progress.stack.thread (task_of t) (task_of t'))
    (nests : IsNested (task_of t) → IsNested (task_of t')) (at' : IsAtWork s.code t'.progress) where
  abbrev section_tasks : List Task
  section_tasks = set s.tasks i t'

  -- the entry into a section of at least the task's active priority
  module _ (section : Resource) (told : Told) (enters : acted (system_at s) i (task_of t) act vars pieces (effect_state s i)
      ≡ entry (system_at s) i (task_of t) section (told_of told) vars pieces (effect_state s i))
      (low : nat_lt (ceiling_of (system_at s) section) (task_of t).active ≡ false)
      (task : task_of t' ≡ going s.costs (lent section (effect_state s i) vars) pieces
      (inside_now section (ceiling_of (system_at s) section) (task_of t)))
      (stores' : List Variables) (stores : stores' ≡ (lending section (effect_state s i)).stores)
      (ends : Ends told (acted_to s i (Some i) section_tasks s.queues stores')) (of : AreOfTask s.tasks told) (few : length (told_of told) ≤ 2) where
    enter_changed : Changed s.tasks section_tasks i t t' (λ u. going s.costs (lent section (effect_state s i) vars) pieces
        (inside_now section (ceiling_of (system_at s) section) u))
    enter_changed = record { here = here; set_is = refl; does = task; thread = thread }

    pub entry-step : Steps (acting s i) told (acted_to s i (Some i) section_tasks s.queues stores')
    entry-step =
        let less = fewer-after s i whole section_tasks t t' _ enter_changed due falls in
        let sleep = sleepers-sum s.tasks section_tasks i t t' _ enter_changed s.until s.costs s.units in
        let same : sleeper (task_of t').readiness ≡ sleeper (task_of t).readiness =
        ap (λ u. sleeper u.readiness) task ∙ ap sleeper (goes-readiness s.costs (lent section (effect_state s i) vars) pieces
        (inside_now section (ceiling_of (system_at s) section) (task_of t))) in
        let after = (entered_at (system_at s) i section (told_of told) vars pieces (effect_state s i)).0 in
        effect-step s i whole (Some i) section_tasks s.queues stores' told after
        (step-run (system_at s) (effect_state s i) after (told_of told)
        (deed-step s.stores s.arrivals s.until s.time s.costs s.units i s.tasks s.queues whole.sound t here due piece rest pieces vars act first does
        ∙ enters
        ∙ entered-step s.stores s.arrivals s.until s.time s.costs s.units i s.tasks s.queues whole.sound t here due section (told_of told) vars pieces
        section_tasks t' enter_changed low))
        (subst (λ σ. DifferInOrders after (state_at (acted_to s i (Some i) section_tasks s.queues σ))) (sym stores)
        (entered-differs s.stores s.arrivals s.until s.time s.costs s.units i s.tasks s.queues whole.sound t here due section (told_of told) vars
        pieces section_tasks t' enter_changed low))
        (changed-system s.tasks section_tasks i t t' _ enter_changed s.until s.costs s.units)
        (entered-sound s.stores s.arrivals s.until s.time s.costs s.units i s.tasks s.queues whole.sound t here due section (told_of told) vars pieces
        section_tasks t' enter_changed low works nests)
        (changed-at-work s.tasks section_tasks i t t' _ enter_changed s.code whole.at_work at')
        ends of less (omega (arith, less, sleep, same, few))

  -- the exit from the section that was entered last, where nobody is released by it
  module _ (told : Told) (stores' : List Variables)
      (exits : acted (system_at s) i (task_of t) act vars pieces (effect_state s i)
      ≡ (exit (system_at s) i vars pieces (record (effect_state s i) { stores = stores' }), told_of told))
      (task : task_of t' ≡ going s.costs vars pieces (outside_now (task_of t)))
      (ends : Ends told (acted_to s i (Some i) section_tasks s.queues stores')) (of : AreOfTask s.tasks told) (few : length (told_of told) ≤ 2) where
    exit_changed : Changed s.tasks section_tasks i t t' (λ u. going s.costs vars pieces (outside_now u))
    exit_changed = record { here = here; set_is = refl; does = task; thread = thread }

    pub exit-step : Steps (acting s i) told (acted_to s i (Some i) section_tasks s.queues stores')
    exit-step =
        let less = fewer-after s i whole section_tasks t t' _ exit_changed due falls in
        let sleep = sleepers-sum s.tasks section_tasks i t t' _ exit_changed s.until s.costs s.units in
        let same : sleeper (task_of t').readiness ≡ sleeper (task_of t).readiness =
        ap (λ u. sleeper u.readiness) task ∙ ap sleeper (goes-readiness s.costs vars pieces (outside_now (task_of t)) ∙ outside-readiness
        (task_of t)) in
        let after = exit (system_at s) i vars pieces (record (effect_state s i) { stores = stores' }) in
        effect-step s i whole (Some i) section_tasks s.queues stores' told after
        (step-run (system_at s) (effect_state s i) after (told_of told)
        (deed-step s.stores s.arrivals s.until s.time s.costs s.units i s.tasks s.queues whole.sound t here due piece rest pieces vars act first does
        ∙ exits))
        (left-differs s.stores s.arrivals s.until s.time s.costs s.units i s.tasks s.queues whole.sound t here due vars pieces section_tasks t'
        exit_changed stores')
        (changed-system s.tasks section_tasks i t t' _ exit_changed s.until s.costs s.units)
        (left-sound s.stores s.arrivals s.until s.time s.costs s.units i s.tasks s.queues whole.sound t here due vars pieces section_tasks t'
        exit_changed works nests)
        (changed-at-work s.tasks section_tasks i t t' _ exit_changed s.code whole.at_work at')
        ends of less (omega (arith, less, sleep, same, few))

-- a task whose control structure has changed
abbrev pub gated : (states.Task → states.Gate) → states.Task → states.Task
gated g v = record v { gate = g v }

module _ (s : Snapshot) (i : ℕ) (whole : IsWholeAt (acting s i)) (t t' : Task) (here : slice_get s.tasks i ≡ Some t) (due : t.left ≡ 0)
    (piece : Piece) (rest pieces : List Piece) (vars : Variables) (act : deeds.Act) (first : (task_of t).pieces ≡ piece ∷ rest)
    (does : done (system_at s) piece (task_of t).vars rest ≡ deed act vars pieces)
    (thread : t'.progress.stack.thread ≡ t.progress.stack.thread) (works : t'.works ≤ t.works + min t'.left 1)
    (falls : EffortFalls t.progress.stack.thread (task_of t) (task_of t'))
    (nests : IsNested (task_of t) → IsNested (task_of t')) (at' : IsAtWork s.code t'.progress) (tasks' : List Task)
    (items : tasks' ≡ set s.tasks i t') where
  abbrev requests_orders : List ℤ
  requests_orders = places (length s.tasks) (order_of (Effects (Some i)) s.tasks s.queues.ready)

  requests_at : slice_get (map task_of s.tasks) i ≡ Some (task_of t)
  requests_at = slice_get-map task_of s.tasks i ∙ ap (option_map task_of) here

  requests_now : slice_get tasks' i ≡ Some t'
  requests_now = ap (λ ts. slice_get ts i) items ∙ get-put s.tasks i t' (get_within i s.tasks t here)

  requests_queued : AreQueued (map task_of s.tasks) requests_orders (at_head (i, (task_of t).active) s.queues.ready)
  requests_queued = order-queued s.until s.time s.units i (Some i) s.tasks s.queues whole.sound t here

  -- a part that another task's control structure takes
  module _ (task : task_of t' ≡ going s.costs vars pieces (task_of t)) (k : ℕ) (g : states.Task → states.Gate)
      (gates : acted (system_at s) i (task_of t) act vars pieces (effect_state s i)
      ≡ (record (effect_state s i) { tasks = change k (gated g) (change i (going s.costs vars pieces) (map task_of s.tasks)) }, []))
      (u u' : Task) (tasks'' : List Task) (c : Changed tasks' tasks'' k u u' (gated g)) (ready : u'.readiness ≡ u.readiness)
      (progress : u'.progress ≡ u.progress) where
    gate_changed : Changed s.tasks tasks' i t t' (going s.costs vars pieces)
    gate_changed = record { here = here; set_is = items; does = task; thread = thread }

    gate_active : (task_of t').active ≡ (task_of t).active
    gate_active = ap (λ v. v.active) task ∙ goes-active s.costs vars pieces (task_of t)

    gate_first : AreQueued (change i (going s.costs vars pieces) (map task_of s.tasks)) requests_orders
        (at_head (i, (task_of t').active) s.queues.ready)
    gate_first =
        subst (λ (n : ℕ). AreQueued (change i (going s.costs vars pieces) (map task_of s.tasks)) requests_orders (at_head (i, n) s.queues.ready))
        (sym gate_active)
        (go-queued (system_at s) (map task_of s.tasks) requests_orders i (task_of t) s.queues.ready requests_at requests_queued vars pieces)

    gate_whole : IsSound s.until s.time (Effects (Some i)) (Some i) s.units tasks' s.queues
    gate_whole =
        let h : IsKept s.until s.time s.units t = whole.sound.kept i t here in
        moved-sound s.until s.time s.units i (Some i) s.tasks s.queues whole.sound tasks' t t'
        (going s.costs vars pieces) gate_changed requests_orders gate_first
        (λ v. goes-readiness s.costs vars pieces v) (ap (λ v. v.used) task ∙ same_used pieces) (ap (λ v. v.next) task ∙ same_next pieces)
        (omega (arith, works, h.works, due)) nests
      where
        same_used : (ps : List Piece) → (going s.costs vars ps (task_of t)).used ≡ t.used
        same_used [] = refl
        same_used (p ∷ ps) = refl

        same_next : (ps : List Piece) → (going s.costs vars ps (task_of t)).next ≡ t.next
        same_next [] = refl
        same_next (p ∷ ps) = refl

    -- the task that has effects, behind both changes
    gate_here : (a : states.Task) × (slice_get (map task_of tasks'') i ≡ Some a) × (a.active ≡ (task_of t').active)
        × (a.pieces ≡ (task_of t').pieces) × (a.left ≡ t'.left)
    gate_here = by_task (slice_get (map task_of tasks'') i) refl
      where
        before : slice_get (map task_of tasks') i ≡ Some (task_of t')
        before = slice_get-map task_of tasks' i ∙ ap (option_map task_of) requests_now

        by_place : (i ≡ k) ⊎ (i ≢ k) → (a : states.Task) × (slice_get (map task_of tasks'') i ≡ Some a) × (a.active ≡ (task_of t').active)
            × (a.pieces ≡ (task_of t').pieces) × (a.left ≡ t'.left)
        by_place (inl e) = (
          gated g (task_of t'),
          ap (λ ts. slice_get ts i) (changed-tasks tasks' tasks'' k u u' (gated g) c) ∙ ap (λ j.
              slice_get (change j (gated g) (map task_of tasks')) i) (sym e) ∙ get-changed i (gated g) (map task_of tasks') (task_of t') before,
          refl,
          refl,
          refl,
        )
        by_place (inr d) = (
          task_of t',
          ap (λ ts. slice_get ts i) (changed-tasks tasks' tasks'' k u u' (gated g) c) ∙ get-other k i (gated g) (map task_of
              tasks') d ∙ before,
          refl,
          refl,
          refl,
        )

        by_task : (o : Option states.Task) → slice_get (map task_of tasks'') i ≡ o
            → (a : states.Task) × (slice_get (map task_of tasks'') i ≡ Some a) × (a.active ≡ (task_of t').active)
            × (a.pieces ≡ (task_of t').pieces) × (a.left ≡ t'.left)
        by_task o e = by_place (cases_eq i k)

    gate_order : order_of (Effects (Some i)) tasks'' s.queues.ready ≡ at_head (i, (task_of t').active) s.queues.ready
    gate_order = order-by i tasks'' gate_here.0 s.queues.ready gate_here.1 ∙ ap (λ n. at_head (i, n) s.queues.ready) gate_here.2

    gate_tasks : map task_of tasks'' ≡ change k (gated g) (change i (going s.costs vars pieces) (map task_of s.tasks))
    gate_tasks = changed-tasks tasks' tasks'' k u u' (gated g) c ∙ ap (change k (gated g)) (changed-tasks s.tasks tasks' i t t' _ gate_changed)

    gate_queued : AreQueued (change k (gated g) (change i (going s.costs vars pieces) (map task_of s.tasks))) requests_orders
        (order_of (Effects (Some i)) tasks'' s.queues.ready)
    gate_queued =
        subst (AreQueued (change k (gated g) (change i (going s.costs vars pieces) (map task_of s.tasks))) requests_orders) (sym gate_order)
        (queued-kept (change i (going s.costs vars pieces) (map task_of s.tasks)) requests_orders
        (at_head (i, (task_of t').active) s.queues.ready) k (gated g) gate_first (λ v. (refl, refl)))

    gate_nests : IsNested (task_of u) → IsNested (task_of u')
    gate_nests h =
        let one = ap (λ v. length v.inside) c.does in
        let two = ap (λ v. sections_among v.pieces) c.does in
        omega (arith, h, one, two)

    abbrev gate_state : states.State
    gate_state = record (effect_state s i) { tasks = change k (gated g) (change i (going s.costs vars pieces) (map task_of s.tasks)) }

    pub gate-step : Steps (acting s i) Nothing (record (acting s i) { tasks = tasks'' })
    gate-step =
        let system_is = changed-system tasks' tasks'' k u u' (gated g) c s.until s.costs s.units
        ∙ changed-system s.tasks tasks' i t t' _ gate_changed s.until s.costs s.units in
        let most : ℕ = most_ends (system_at s) in
        let enough : reserve t.progress.stack.thread ≤ most
        = reserve-most s.until s.time s.costs s.units s.tasks i t here (whole.sound.kept i t here).units in
        let fall = falls most enough in
        let less = fewer-effects most _ (map task_of s.tasks) (map task_of tasks'') i (task_of t) gate_here.0
        (ap most_ends system_is) requests_at gate_here.1 due
        (fall.0, λ none. subst (λ ps. effort most ps < effort most (task_of t).pieces) (sym gate_here.3) (fall.1 (sym gate_here.4 ∙ none))) in
        let sleep = sleepers-sum s.tasks tasks' i t t' _ gate_changed s.until s.costs s.units in
        let sleep' = sleepers-sum tasks' tasks'' k u u' (gated g) c s.until s.costs s.units in
        let one : sleeper (task_of t').readiness ≡ sleeper (task_of t).readiness
        = ap (λ v. sleeper v.readiness) task ∙ ap sleeper (goes-readiness s.costs vars pieces (task_of t)) in
        let two : sleeper (task_of u').readiness ≡ sleeper (task_of u).readiness
        = ap (λ v. sleeper v.readiness) c.does in
        effect-step s i whole (Some i) tasks'' s.queues s.stores Nothing gate_state
        (step-run (system_at s) (effect_state s i) gate_state []
        (deed-step s.stores s.arrivals s.until s.time s.costs s.units i s.tasks s.queues whole.sound t here due piece rest pieces vars act first does
        ∙ gates))
        (settled-differs s.stores s.arrivals s.time i tasks'' (change k (gated g) (change i (going s.costs vars pieces) (map task_of s.tasks)))
        requests_orders s.queues.ready gate_tasks gate_queued gate_state refl refl refl)
        system_is
        (gate-sound s.until s.time s.units i tasks' s.queues gate_whole k tasks'' u u' (gated g) c (λ v. (refl, refl)) ready
        (ap (λ v. v.left) c.does) (ap (λ v. v.used) c.does) (ap (λ v. v.works) c.does) (ap (λ v. v.next) c.does) gate_nests)
        (same-at-work tasks' tasks'' k u u' (gated g) c s.code
        (changed-at-work s.tasks tasks' i t t' _ gate_changed s.code whole.at_work at') progress)
        refl tt less (omega (arith, less, sleep, sleep', one, two))

  -- the end of a request, by which the task that is requested is released, since it waits and its control structure is open
  module _ (task : task_of t' ≡ going s.costs vars pieces (outside_now (task_of t))) (k : ℕ) (asks : Event)
      (answers : acted (system_at s) i (task_of t) act vars pieces (effect_state s i)
      ≡ after (asks ∷ []) (serve (system_at s) k (exit (system_at s) i vars pieces (effect_state s i))))
      (u u' : Task) (tasks'' : List Task) (c : Changed tasks' tasks'' k u u' (released s.costs))
      (waits : u.readiness ≡ readies.Waiting) (is_open : u.gate.«open» ≡ true)
      (works' : u'.works ≤ u.works + min u'.left 1) (now' : IsAtWork s.code u'.progress) (q' : Queues)
      (links : q' ≡ record s.queues { ready = at_tail (k, (task_of u').active) s.queues.ready })
      (of : AreOfTask s.tasks (Two asks (event.Release s.time u.progress.stack.thread.unit (task_of u).gate.value))) where
    answer_changed : Changed s.tasks tasks' i t t' (λ v. going s.costs vars pieces (outside_now v))
    answer_changed = record { here = here; set_is = items; does = task; thread = thread }

    answer_first : AreQueued (change i (λ v. going s.costs vars pieces (outside_now v)) (map task_of s.tasks)) (put_first i requests_orders)
        (at_head (i, (task_of t').active) s.queues.ready)
    answer_first = left-queued s.stores s.arrivals s.until s.time s.costs s.units i s.tasks s.queues whole.sound t here due vars
        pieces tasks' t' answer_changed

    answer_whole : IsSound s.until s.time (Effects (Some i)) (Some i) s.units tasks' s.queues
    answer_whole = left-sound s.stores s.arrivals s.until s.time s.costs s.units i s.tasks s.queues whole.sound t here due vars
        pieces tasks' t' answer_changed works nests

    answer_there : slice_get (change i (λ v. going s.costs vars pieces (outside_now v)) (map task_of s.tasks)) k ≡ Some (task_of u)
    answer_there = ap (λ ts. slice_get ts k) (sym (changed-tasks s.tasks tasks' i t t' _ answer_changed)) ∙ here-of tasks'
        tasks'' k u u' _ c

    answer_waits : (task_of u).readiness ≡ states.Waiting
    answer_waits = ap (λ r. readiness_of r u.next) waits

    answer_at : slice_get (change i (λ v. going s.costs vars pieces (outside_now v)) (map task_of s.tasks)) i ≡ Some (task_of t')
    answer_at = get-changed i (λ v. going s.costs vars pieces (outside_now v)) (map task_of s.tasks)
        (task_of t) requests_at ∙ ap Some (sym task)

    answer_other : k ≢ i
    answer_other = other-waits (system_at s) (change i (λ v. going s.costs vars pieces (outside_now v)) (map task_of s.tasks))
        (put_first i requests_orders) i (task_of t') s.queues.ready answer_at answer_first k (task_of u) answer_there answer_waits

    answer_tasks : map task_of tasks''
        ≡ change k (released s.costs) (change i (λ v. going s.costs vars pieces (outside_now v)) (map task_of s.tasks))
    answer_tasks = changed-tasks tasks' tasks'' k u u' _ c ∙ ap (change k (released s.costs))
        (changed-tasks s.tasks tasks' i t t' _ answer_changed)

    answer_here : slice_get (map task_of tasks'') i ≡ Some (task_of t')
    answer_here =
        ap (λ ts. slice_get ts i) answer_tasks
        ∙ get-other k i (released s.costs) (change i (λ v. going s.costs vars pieces (outside_now v)) (map task_of s.tasks))
        (λ e. answer_other (sym e)) ∙ answer_at

    answer_queued : AreQueued (change k (released s.costs) (change i (λ v. going s.costs vars pieces (outside_now v)) (map task_of s.tasks)))
        (put_last k (put_first i requests_orders))
        (order_of (Effects (Some i)) tasks'' (at_tail (k, (task_of u').active) s.queues.ready))
    answer_queued =
        subst (AreQueued (change k (released s.costs) (change i (λ v. going s.costs vars pieces (outside_now v)) (map task_of s.tasks)))
        (put_last k (put_first i requests_orders)))
        (sym (order-by i tasks'' (task_of t') (at_tail (k, (task_of u').active) s.queues.ready) answer_here))
        (subst (λ (n : ℕ). AreQueued (change k (released s.costs)
        (change i (λ v. going s.costs vars pieces (outside_now v)) (map task_of s.tasks))) (put_last k (put_first i requests_orders))
        (at_head (i, (task_of t').active) (at_tail (k, n) s.queues.ready))) (ap (λ v. v.active) (sym c.does))
        (release-queued (system_at s) (change i (λ v. going s.costs vars pieces (outside_now v)) (map task_of s.tasks))
        (put_first i requests_orders) i (task_of t') s.queues.ready answer_at answer_first k (task_of u) answer_there answer_waits))

    abbrev answer_state : states.State
    answer_state = record (effect_state s i) {
      tasks = change k (released s.costs) (change i (λ v. going s.costs vars pieces (outside_now v)) (map task_of s.tasks));
      orders = put_last k (put_first i requests_orders);
    }

    pub answer-step : GoesOn asks → Steps (acting s i) (Two asks (event.Release s.time u.progress.stack.thread.unit (task_of u).gate.value))
        (record (acting s i) { tasks = tasks''; queues = q' })
    answer-step goes =
        let system_is = changed-system tasks' tasks'' k u u' _ c s.until s.costs s.units
        ∙ changed-system s.tasks tasks' i t t' _ answer_changed s.until s.costs s.units in
        let most : ℕ = most_ends (system_at s) in
        let enough : reserve t.progress.stack.thread ≤ most
        = reserve-most s.until s.time s.costs s.units s.tasks i t here (whole.sound.kept i t here).units in
        let less = fewer-effects most _ (map task_of s.tasks) (map task_of tasks'') i (task_of t) (task_of t')
        (ap most_ends system_is) requests_at answer_here due (falls most enough) in
        let sleep = sleepers-sum s.tasks tasks' i t t' _ answer_changed s.until s.costs s.units in
        let sleep' = sleepers-sum tasks' tasks'' k u u' _ c s.until s.costs s.units in
        let one : sleeper (task_of t').readiness ≡ sleeper (task_of t).readiness
        = ap (λ v. sleeper v.readiness) task ∙ ap sleeper (goes-readiness s.costs vars pieces (outside_now (task_of t)) ∙ outside-readiness
        (task_of t)) in
        let two : sleeper (task_of u').readiness ≡ 0 = ap (λ v. sleeper v.readiness) c.does ∙ ap sleeper (released-readiness s.costs (task_of u)) in
        let test : (is_waiting (task_of u).readiness && (task_of u).gate.open') ≡ true
        = ap (λ r. is_waiting r && (task_of u).gate.open') answer_waits ∙ is_open in
        let release : Event = event.Release s.time u.progress.stack.thread.unit (task_of u).gate.value in
        effect-step s i whole (Some i) tasks'' q' s.stores (Two asks release) answer_state
        (step-run (system_at s) (effect_state s i) answer_state (asks ∷ release ∷ [])
        (deed-step s.stores s.arrivals s.until s.time s.costs s.units i s.tasks s.queues whole.sound t here due piece rest pieces vars act first does
        ∙ answers
        ∙ ap (after (asks ∷ [])) (served (system_at s) k (task_of u) (exit (system_at s) i vars pieces (effect_state s i)) answer_there test)))
        (subst (λ (q : Queues). DifferInOrders answer_state (state_at (acted_to s i (Some i) tasks'' q s.stores))) (sym links)
        (settled-differs s.stores s.arrivals s.time i tasks''
        (change k (released s.costs) (change i (λ v. going s.costs vars pieces (outside_now v)) (map task_of s.tasks)))
        (put_last k (put_first i requests_orders))
        (at_tail (k, (task_of u').active) s.queues.ready) answer_tasks answer_queued answer_state refl refl refl))
        system_is
        (release-sound s.until s.time s.costs s.units i tasks' s.queues answer_whole t' requests_now k tasks'' u u' c waits q' links works')
        (changed-at-work tasks' tasks'' k u u' _ c s.code (changed-at-work s.tasks tasks' i t t' _ answer_changed s.code whole.at_work at') now')
        (goes, tt, refl) of less (omega (arith, less, sleep, sleep', one, two))
