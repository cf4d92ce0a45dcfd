-- The steps of a processor whose task enters a protected object or a control structure, leaves one, or is stopped before it, from what its
-- methods say of the task and of the object.
use Rattle.std.specs.Prelude.{◌≡◌, ◌⊎◌, ℕ, zero, suc, Bool, if◌then◌else◌, ◌+◌, ◌≤◌, min, true, false, ◌&&◌, nat_lt, List, [], ◌∷◌, ◌++◌, map, set}
use Rattle.std.specs.Prelude.{Option, Some, option_map, slice_get, unwrap_or, refl}
use Rattle.std.proofs.Common.{sym, ◌∙◌, ap, subst, arith}
use Rattle.std.proofs.lemmas.Option.{same_Some, slice_get-map}
use Rattle.seq_tree.specs.Variables.{Variables}
use Rattle.ada_tree.specs.Trees.{unit_of}
use Rattle.ada_tree.specs.declared.program.Unit as units
use Rattle.link_queue.specs.Queues.{Each, Entry, Queues, at_tail, outranks, put_behind}
use Rattle.law_dispatching.specs.Queueing.{IsReadyAt}
use Rattle.trace_tree.specs.declared.event.Event.{Event}
use Rattle.trace_tree.specs.declared.event.Event.TheVariants as event
use Rattle.machine.specs.Systems.{ProtectedUnit, objects_from}
use Rattle.machine.specs.Pieces as pieces
use Rattle.machine.specs.States as states
use Rattle.machine.specs.States.{Resource, Object, Control}
use Rattle.machine.specs.Deeds as deeds
use Rattle.machine.specs.Deeds.{PieceOutcome, deed, done}
use Rattle.machine.specs.Releases.{Next, after, going, is_waiting, released, serve}
use Rattle.machine.specs.Effects.{acted, ceiling_of, entry, exit, inside_now, object_unit, outside_now, section_unit, task_unit}
use Rattle.law_dispatching.proofs.Shared.Acts.{not-served}
use Rattle.task_runtime.specs.Tasks.{IsActOf}
use Rattle.task_runtime.specs.Effort.{sections_among}
use Rattle.ceil_runtime.specs.Acted.{IsDoing}
use Rattle.ceil_runtime.specs.Objects.{first_object, lasting, shown, store_of}
use Rattle.ceil_runtime.specs.Processing.{IsSound}
use Rattle.task_runtime.specs.Readies.{readiness_of}
use Rattle.ceil_runtime.specs.Snapshots.{IsWholeAt, Snapshot, system_at}
use Rattle.ceil_runtime.specs.Stepping.{HasObject, HasOp, HasUnit, Nothing, One, Steps, Told, Two}
use Rattle.task_runtime.specs.Works.{Acts, EffortFalls, Enters, Leaves}
use Rattle.task_runtime.specs.Tasks.{ActsAs, task_of}
use Rattle.task_runtime.specs.Written.{system_of}
use Rattle.task_runtime.specs.declared.effects.Act.TheVariants as acts
use Rattle.task_runtime.specs.declared.piece.Deed.{Deed}
use Rattle.ceil_runtime.specs.declared.object.Object as objects
use Rattle.task_runtime.specs.declared.piece.Piece.{Piece}
use Rattle.task_runtime.specs.declared.task.Task.{Task}
use Rattle.task_runtime.specs.Sounds.{IsAtWork}
use Rattle.task_runtime.proofs.Shared.FirstPieces.{HasFirst, first-piece}
use Rattle.task_runtime.specs.declared.readiness.Readiness.{Readiness}
use Rattle.task_runtime.specs.declared.readiness.Readiness.TheVariants as readies
use Rattle.ceil_runtime.specs.declared.processor.Phase.TheVariants.{Effects}
use Rattle.ceil_runtime.proofs.ActSteps.{answer-step, entry-step, exit-step, stop-step}
use Rattle.ceil_runtime.proofs.Effected.{order-queued}
use Rattle.ceil_runtime.proofs.ObjectsKept.{changed-stores, entered-ceiling, entered-unit}
use Rattle.ceil_runtime.proofs.Phases.{acting, in-acting, whole-acting}
use Rattle.ceil_runtime.proofs.Processed.{Changed, changed-system, changed-tasks, changed-threads, runs-alike}
use Rattle.ceil_runtime.proofs.Reached.{asked-unit, unit-before}
use Rattle.ceil_runtime.proofs.Sectioned.{left-sound}
use Rattle.ceil_runtime.proofs.Stepped.{acted_to, effect_state}
use Rattle.task_runtime.proofs.Shared.AtWork.{inside-going, outside-going}
use Rattle.task_runtime.proofs.Shared.TasksAtWork.{inside-falls, inside-works, nests-inside, nests-outside, outside-falls}
use Rattle.task_runtime.proofs.Shared.TasksAtWork.{outside-works}

-- an entry that stands behind others leaves their facts
each-behind : (P : Entry → Type 0) (before : Entry → Bool) (e : Entry) (es : List Entry) → Each P (put_behind before e es) → Each P es
each-behind P before e [] h = tt
each-behind P before e (x ∷ xs) h = by_test (before x) (each-behind P before e xs) h
  where
    by_test : (b : Bool) → (Each P (put_behind before e xs) → Each P xs) → Each P (if b then x ∷ put_behind before e xs else e ∷ x ∷ xs)
        → Each P (x ∷ xs)
    by_test true more k = (k.0, more k.1)
    by_test false more k = k.1

pub ready-each : (until time : ℕ) (us : List units.Unit) (i : ℕ) (ran : Option ℕ) (tasks : List Task) (q : Queues)
    → IsSound until time (Effects (Some i)) ran us tasks q → (t : Task) → slice_get tasks i ≡ Some t
    → Each (IsReadyAt (map task_of tasks)) q.ready
ready-each until time us i ran tasks q sound t here =
    each-behind (IsReadyAt (map task_of tasks)) (outranks (i, (task_of t).active)) (i, (task_of t).active) q.ready
    (order-queued until time us i ran tasks q sound t here).each

-- a task that is put where it stands
pub same-put : (tasks : List Task) (i : ℕ) (t : Task) (k : ℕ) (u : Task) → slice_get (set tasks i t) k ≡ Some u
    → set (set tasks i t) k u ≡ set tasks i t
same-put tasks i t k u at = put (set tasks i t) k at
  where
    put : (xs : List Task) (j : ℕ) → slice_get xs j ≡ Some u → set xs j u ≡ xs
    put [] j e = refl
    put (x ∷ xs) zero e = ap (λ y. y ∷ xs) (sym (same_Some x u e))
    put (x ∷ xs) (suc j) e = ap (λ ys. x ∷ ys) (put xs j e)

-- a task that is served waits, and its control structure is open
pub waits-open : (u : Task) → (is_waiting (task_of u).readiness && (task_of u).gate.open') ≡ true
    → (u.readiness ≡ readies.Waiting) × (u.gate.«open» ≡ true)
waits-open u h = by_readiness u.readiness h
  where
    by_readiness : (r : Readiness) → (is_waiting (readiness_of r u.next) && u.gate.«open») ≡ true → (r ≡ readies.Waiting) × (u.gate.«open» ≡ true)
    by_readiness readies.Asleep e = absurd (cc e)
    by_readiness readies.Waiting e = (refl, e)
    by_readiness readies.Ready e = absurd (cc e)

module _ (s : Snapshot) (i : ℕ) (whole : IsWholeAt (acting s i)) (t : Task) (here : slice_get s.tasks i ≡ Some t) (due : t.left ≡ 0) where
  -- the act of a piece, before its effect
  reached-at : (q : Piece) (d : Deed) → t.progress.piece ≡ Some q → ActsAs (system_of t.progress.stack.thread) (task_of t) d
      → (f : HasFirst (task_of t)) → IsActOf d (done (system_at s) f.piece (task_of t).vars f.rest).act
  reached-at q d has reaches f =
      reaches f.piece f.rest f.first (system_at s)
      (runs-alike s.until s.costs s.units s.tasks whole.sound.calls i t here)

  -- the stop before a section
  stop-before : (q : Piece) → t.progress.piece ≡ Some q → (section : Resource) (unit ceiling : ℕ) (told' : List Event) (act : deeds.Act)
      → (f : HasFirst (task_of t)) → (done (system_at s) f.piece (task_of t).vars f.rest).act ≡ act
      → ((vars : Variables) (ps : List pieces.Piece) → acted (system_at s) i (task_of t) act vars ps (effect_state s i)
      ≡ entry (system_at s) i (task_of t) section told' vars ps (effect_state s i))
      → section_unit (system_at s) section ≡ unit → ceiling_of (system_at s) section ≡ ceiling → nat_lt ceiling t.active ≡ true
      → HasObject s.tasks unit ⊎ HasUnit s.tasks unit
      → (told : Told) → told ≡ One (event.Stop s.time t.progress.stack.thread.unit unit t.active ceiling)
      → Steps (acting s i) told (record (acting s i) { stopped = true })
  stop-before q has section unit ceiling told' act f is enters unit_is ceiling_is above of told says =
      let outcome : PieceOutcome = done (system_at s) f.piece (task_of t).vars f.rest in
      let does : outcome ≡ deed act outcome.vars outcome.pieces = ap (λ a. deed a outcome.vars outcome.pieces) is in
      let step = stop-step s i whole t here due f.piece f.rest outcome.pieces outcome.vars act
      f.first does section told' (enters outcome.vars outcome.pieces) (ap (λ n. nat_lt n t.active) ceiling_is ∙ above) (
        record { place = i; task = t; here = here; is_unit = refl },
        subst (λ n. HasObject s.tasks n ⊎ HasUnit s.tasks n) (sym unit_is) of,
      ) in
      let event_is = ap (λ n. event.Stop s.time t.progress.stack.thread.unit n t.active (ceiling_of (system_at s) section)) unit_is ∙ ap
      (λ n. event.Stop s.time t.progress.stack.thread.unit unit t.active n) ceiling_is in
      subst (λ e. Steps (acting s i) e (record (acting s i) { stopped = true })) (ap One event_is ∙ sym says) step

  module _ (t' t'' : Task) (thread : t'.progress.stack.thread ≡ t.progress.stack.thread) (progress : t''.progress
      ≡ t'.progress) (works : t'.works ≤ t.works + min t'.left 1) (falls : EffortFalls t.progress.stack.thread (task_of t) (task_of t'))
      (at' : IsAtWork s.code t'.progress) where
    at'' : IsAtWork s.code t''.progress
    at'' = subst (IsAtWork s.code) (sym progress) at'

    same_thread : t''.progress.stack.thread ≡ t.progress.stack.thread
    same_thread = ap (λ p. p.stack.thread) progress ∙ thread

    own_unit : HasUnit s.tasks t''.progress.stack.thread.unit
    own_unit = record { place = i; task = t; here = here; is_unit = ap (λ h. h.unit) same_thread }

    -- a protected object
    module _ (k op : ℕ) (values : List ℕ) (g : ProtectedUnit) (at : slice_get (objects_from 0 (map unit_of s.units)) k
        ≡ Some g) (os : List objects.Object) (stores : s.stores ≡ map store_of os) (o o' : objects.Object) (there : slice_get os k ≡ Some o)
        (shows : lasting (shown o) ≡ lasting (first_object g)) (of : HasOp s.tasks o.unit op) where
      -- what the objects have then
      abbrev stores' : List Variables
      stores' = map store_of (set os k o')

      stores-are : stores' ≡ set s.stores k (store_of o')
      stores-are = changed-stores os k o' ∙ ap (λ σ. set σ k (store_of o')) (sym stores)

      -- its entry
      pub enter-step : (e : Enters (system_of t.progress.stack.thread) s.costs k op values (store_of o) (task_of t) (task_of t'))
          → sections_among (task_of t').pieces ≡ suc (sections_among (task_of t).pieces) → task_of t'' ≡ inside_now (Object k) o.ceiling (task_of t')
          → nat_lt o.ceiling t.active ≡ false
          → store_of o' ≡ [] → Steps (acting s i) (One (event.Enter s.time t''.progress.stack.thread.unit o.unit op values))
          (acted_to s i (Some i) (set s.tasks i t'') s.queues stores')
      enter-step e more inside low empty =
          let unit_is : event.Enter s.time t.progress.stack.thread.unit (object_unit (system_at s) k) op values
          ≡ event.Enter s.time t''.progress.stack.thread.unit o.unit op values =
          ap (λ h. event.Enter s.time h.unit (object_unit (system_at s) k) op values) (sym same_thread)
          ∙ ap (λ n. event.Enter s.time t''.progress.stack.thread.unit n op values)
          (entered-unit s.until s.costs s.units s.tasks k g at o shows) in
          let ceiling_is = entered-ceiling s.until s.costs s.units s.tasks k g at o shows in
          let lent_is : unwrap_or (slice_get s.stores k) [] ≡ store_of o
          = ap (λ x. unwrap_or x []) (ap (λ σ. slice_get σ k) stores ∙ slice_get-map store_of os k ∙ ap (option_map store_of) there) in
          entry-step s i whole t t'' here due e.piece e.rest e.pieces e.vars (deeds.Enter k op values) e.first
          (e.does (system_at s) (runs-alike s.until s.costs s.units s.tasks whole.sound.calls i t here))
          same_thread (inside-works t t' t'' (Object k) o.ceiling inside works)
          (inside-falls t t' t'' (Object k) o.ceiling inside t.progress.stack.thread falls)
          (nests-inside t t' t'' s.costs (e.vars ++ store_of o) e.pieces e.after more (Object k) o.ceiling inside) at''
          (Object k) (One (event.Enter s.time t''.progress.stack.thread.unit o.unit op values))
          (ap (λ n. entry (system_at s) i (task_of t) (Object k) (n ∷ []) e.vars e.pieces (effect_state s i)) unit_is)
          (ap (λ n. nat_lt n t.active) ceiling_is ∙ low)
          (inside ∙ ap (inside_now (Object k) o.ceiling) e.after ∙ inside-going (Object k) o.ceiling s.costs (e.vars ++ store_of o) e.pieces
          (task_of t)
          ∙ ap (λ n. going s.costs (e.vars ++ store_of o) e.pieces (inside_now (Object k) n (task_of t))) (sym ceiling_is)
          ∙ ap (λ vs. going s.costs (e.vars ++ vs) e.pieces (inside_now (Object k) (ceiling_of (system_at s) (Object k)) (task_of t))) (sym lent_is))
          stores' (stores-are ∙ ap (set s.stores k) empty) (tt, refl) (own_unit, of) (omega arith)

      -- its exit
      pub leave-step : (e : Leaves (system_of t.progress.stack.thread) s.costs k op values (store_of o') (task_of t) (task_of t'))
          → sections_among (task_of t).pieces ≡ suc (sections_among (task_of t').pieces) → task_of t'' ≡ outside_now (task_of t')
          → Steps (acting s i) (One (event.Leave s.time t''.progress.stack.thread.unit o.unit op values))
          (acted_to s i (Some i) (set s.tasks i t'') s.queues stores')
      leave-step e fewer outside =
          let unit_is : event.Leave s.time t.progress.stack.thread.unit (object_unit (system_at s) k) op values
          ≡ event.Leave s.time t''.progress.stack.thread.unit o.unit op values =
          ap (λ h. event.Leave s.time h.unit (object_unit (system_at s) k) op values) (sym same_thread)
          ∙ ap (λ n. event.Leave s.time t''.progress.stack.thread.unit n op values)
          (entered-unit s.until s.costs s.units s.tasks k g at o shows) in
          let kept' : List Variables = set s.stores k (store_of o') in
          exit-step s i whole t t'' here due e.piece e.rest e.pieces e.vars (deeds.Leave k op values (store_of o')) e.first
          (e.does (system_at s) (runs-alike s.until s.costs s.units s.tasks whole.sound.calls i t here))
          same_thread (outside-works t t' t'' outside works) (outside-falls t t' t'' outside t.progress.stack.thread falls)
          (nests-outside t t' t'' s.costs e.vars e.pieces e.after fewer outside) at''
          (One (event.Leave s.time t''.progress.stack.thread.unit o.unit op values)) stores'
          (ap (λ n. let next : Next = (exit (system_at s) i e.vars e.pieces (record (effect_state s i) { stores = kept' }), n ∷ []) in next) unit_is
          ∙ ap (λ (σ : List Variables). let next : Next = (
            exit (system_at s) i e.vars e.pieces (record (effect_state s i) { stores = σ }),
            event.Leave s.time t''.progress.stack.thread.unit o.unit op values ∷ [],
          ) in next) (sym stores-are))
          (outside ∙ ap outside_now e.after ∙ outside-going s.costs e.vars e.pieces (task_of t))
          (tt, refl) (own_unit, of) (omega arith)

    -- the control structure of a task
    module _ (k : ℕ) where
      -- its entry
      pub ask-step : (a : Acts (system_of t.progress.stack.thread) s.costs (task_of t) (acts.Ask k) (task_of t'))
          → sections_among (task_of t').pieces ≡ suc (sections_among (task_of t).pieces) → (ceiling : ℕ)
          → ceiling_of (system_at s) (Control k) ≡ ceiling
          → task_of t'' ≡ inside_now (Control k) ceiling (task_of t') → nat_lt ceiling t.active ≡ false
          → Steps (acting s i) Nothing (record (acting s i) { tasks = set s.tasks i t'' })
      ask-step a more ceiling ceiling_is inside low =
          entry-step s i whole t t'' here due a.piece a.rest a.pieces a.vars (deeds.Ask k) a.first
          (a.does (system_at s) (runs-alike s.until s.costs s.units s.tasks whole.sound.calls i t here))
          same_thread (inside-works t t' t'' (Control k) ceiling inside works)
          (inside-falls t t' t'' (Control k) ceiling inside t.progress.stack.thread falls)
          (nests-inside t t' t'' s.costs a.vars a.pieces a.after more (Control k) ceiling inside) at''
          (Control k) Nothing refl (ap (λ n. nat_lt n t.active) ceiling_is ∙ low)
          (inside ∙ ap (inside_now (Control k) ceiling) a.after ∙ inside-going (Control k) ceiling s.costs a.vars a.pieces (task_of t)
          ∙ ap (λ n. going s.costs a.vars a.pieces (inside_now (Control k) n (task_of t))) (sym ceiling_is))
          s.stores refl refl tt (omega arith)

      -- its exit, by which nobody is released
      pub unserved-step : (value : Option ℕ) (a : Acts (system_of t.progress.stack.thread) s.costs (task_of t) (acts.Ended k value) (task_of t'))
          → sections_among (task_of t).pieces ≡ suc (sections_among (task_of t').pieces) → task_of t'' ≡ outside_now (task_of t') → (u : Task)
          → slice_get (set s.tasks i t'') k ≡ Some u
          → (is_waiting (task_of u).readiness && (task_of u).gate.open') ≡ false
          → Steps (acting s i) (One (event.Request s.time t'.progress.stack.thread.unit u.progress.stack.thread.unit value))
          (record (acting s i) { tasks = set s.tasks i t'' })
      unserved-step value a fewer outside u there not =
          let left_task = outside ∙ ap outside_now a.after ∙ outside-going s.costs a.vars a.pieces (task_of t) in
          let tasks' : List Task = set s.tasks i t'' in
          let c : Changed s.tasks tasks' i t t'' (λ v. going s.costs a.vars a.pieces (outside_now v))
          = record { here = here; set_is = refl; does = left_task; thread = same_thread } in
          let left_state : states.State = exit (system_at s) i a.vars a.pieces (effect_state s i) in
          let there' : slice_get left_state.tasks k ≡ Some (task_of u) =
          ap (λ ts. slice_get ts k) (sym (changed-tasks s.tasks tasks' i t t'' _ c)) ∙ slice_get-map task_of tasks' k ∙ ap
          (option_map task_of) there in
          let unit_is : event.Request s.time t.progress.stack.thread.unit (task_unit (system_at s) k) value
          ≡ event.Request s.time t'.progress.stack.thread.unit u.progress.stack.thread.unit value =
          ap (λ h. event.Request s.time h.unit (task_unit (system_at s) k) value) (sym thread)
          ∙ ap (λ n. event.Request s.time t'.progress.stack.thread.unit n value)
          (ap (λ z. task_unit z k) (sym (changed-system s.tasks tasks' i t t'' _ c s.until s.costs s.units)) ∙ asked-unit s.until s.costs
          s.units tasks' k u there) in
          exit-step s i whole t t'' here due a.piece a.rest a.pieces a.vars (deeds.Ended k value) a.first
          (a.does (system_at s) (runs-alike s.until s.costs s.units s.tasks whole.sound.calls i t here))
          same_thread (outside-works t t' t'' outside works) (outside-falls t t' t'' outside t.progress.stack.thread falls)
          (nests-outside t t' t'' s.costs a.vars a.pieces a.after fewer outside) at''
          (One (event.Request s.time t'.progress.stack.thread.unit u.progress.stack.thread.unit value)) s.stores
          (ap (after (event.Request s.time t.progress.stack.thread.unit (task_unit (system_at s) k) value ∷ []))
          (not-served (system_at s) k (task_of u) left_state there' not) ∙ ap (λ n. let next : Next = (left_state, n ∷ []) in next) unit_is)
          left_task (tt, refl) (
            record {
              place = i;
              task = t;
              here = here;
              is_unit = ap (λ h. h.unit) thread;
            },
            unit-before s.tasks tasks' (changed-threads s.tasks tasks' i t t'' _ c) k u there,
          ) (omega arith)

  -- the exit from a control structure, before the task that is requested is released
  module _ (t' t'' : Task) (thread : t'.progress.stack.thread ≡ t.progress.stack.thread) (progress : t''.progress
      ≡ t'.progress) (works : t'.works ≤ t.works + min t'.left 1) where
    pub left-whole : (k : ℕ) (value : Option ℕ) (a : Acts (system_of t.progress.stack.thread) s.costs (task_of t) (acts.Ended k value) (task_of t'))
        → sections_among (task_of t).pieces ≡ suc (sections_among (task_of t').pieces)
        → task_of t'' ≡ outside_now (task_of t') → IsSound s.until s.time (Effects (Some i)) (Some i) s.units (set s.tasks i t'') s.queues
    left-whole k value a fewer outside =
        let sound = whole.sound in
        let tasks' : List Task = set s.tasks i t'' in
        let c : Changed s.tasks tasks' i t t'' (λ v. going s.costs a.vars a.pieces (outside_now v)) =
        record {
          here = here;
          set_is = refl;
          does = outside ∙ ap outside_now a.after ∙ outside-going s.costs a.vars a.pieces (task_of t);
          thread = ap (λ p. p.stack.thread) progress ∙ thread;
        } in
        left-sound s.stores s.arrivals s.until s.time s.costs s.units i s.tasks s.queues sound t here due a.vars a.pieces tasks' t''
        c (outside-works t t' t'' outside works)
        (nests-outside t t' t'' s.costs a.vars a.pieces a.after fewer outside)

    -- and with its release
    pub answered-step : IsAtWork s.code t'.progress → (falls : EffortFalls t.progress.stack.thread (task_of t) (task_of t')) (k : ℕ)
        (value : Option ℕ)
        (a : Acts (system_of t.progress.stack.thread) s.costs (task_of t) (acts.Ended k value) (task_of t'))
        → sections_among (task_of t).pieces ≡ suc (sections_among (task_of t').pieces) → task_of t'' ≡ outside_now (task_of t')
        → (u u' : Task) → slice_get (set s.tasks i t'') k ≡ Some u → task_of u' ≡ released s.costs (task_of u)
        → u'.progress.stack.thread ≡ u.progress.stack.thread → u.readiness ≡ readies.Waiting → u.gate.«open» ≡ true
        → u'.works ≤ u.works + min u'.left 1 → IsAtWork s.code u'.progress → (q' : Queues)
        → q' ≡ record s.queues { ready = at_tail (k, (task_of u').active) s.queues.ready }
        → Steps (acting s i) (Two (event.Request s.time t'.progress.stack.thread.unit u.progress.stack.thread.unit value)
        (event.Release s.time u'.progress.stack.thread.unit u.gate.value))
        (record (acting s i) { tasks = set (set s.tasks i t'') k u'; queues = q' })
    answered-step at' falls k value a fewer outside u u' there task thread' waits is_open works' now' q' links =
        let same = ap (λ p. p.stack.thread) progress ∙ thread in
        let left_task = outside ∙ ap outside_now a.after ∙ outside-going s.costs a.vars a.pieces (task_of t) in
        let tasks' : List Task = set s.tasks i t'' in
        let c : Changed s.tasks tasks' i t t'' (λ v. going s.costs a.vars a.pieces (outside_now v))
        = record { here = here; set_is = refl; does = left_task; thread = same } in
        let tasks'' : List Task = set tasks' k u' in
        let d : Changed tasks' tasks'' k u u' (released s.costs) = record { here = there; set_is = refl; does = task; thread = thread' } in
        let asks : Event = event.Request s.time t'.progress.stack.thread.unit u.progress.stack.thread.unit value in
        let unit_is : event.Request s.time t.progress.stack.thread.unit (task_unit (system_at s) k) value ≡ asks =
        ap (λ h. event.Request s.time h.unit (task_unit (system_at s) k) value) (sym thread)
        ∙ ap (λ n. event.Request s.time t'.progress.stack.thread.unit n value)
        (ap (λ z. task_unit z k) (sym (changed-system s.tasks tasks' i t t'' _ c s.until s.costs s.units)) ∙ asked-unit s.until s.costs
        s.units tasks' k u there) in
        let own : HasUnit s.tasks t'.progress.stack.thread.unit
        = record { place = i; task = t; here = here; is_unit = ap (λ h. h.unit) thread } in
        let other : HasUnit s.tasks u.progress.stack.thread.unit
        = unit-before s.tasks tasks' (changed-threads s.tasks tasks' i t t'' _ c) k u there in
        subst (λ h. Steps (acting s i) (Two asks (event.Release s.time h.unit u.gate.value)) (record (acting s i) { tasks = tasks''; queues = q' }))
        (sym thread')
        (answer-step s i whole t t'' here due a.piece a.rest a.pieces a.vars (deeds.Ended k value) a.first
        (a.does (system_at s) (runs-alike s.until s.costs s.units s.tasks whole.sound.calls i t here))
        same (outside-works t t' t'' outside works) (outside-falls t t' t'' outside t.progress.stack.thread falls)
        (nests-outside t t' t'' s.costs a.vars a.pieces a.after fewer outside) (subst (IsAtWork s.code) (sym progress) at') tasks' refl
        left_task k asks (ap (λ e. after (e ∷ []) (serve (system_at s) k (exit (system_at s) i a.vars a.pieces (effect_state s i)))) unit_is) u u'
        tasks'' d waits is_open works' now' q' links ((own, other), other) tt)

-- a task that does a piece
module _ (s : Snapshot) (i : ℕ) (q : Piece) (d : Deed) (t : Task) (h : IsDoing s i q d t) where
  -- the act of its piece, before its effect
  pub doing-first : HasFirst (task_of t)
  doing-first = first-piece s.code t (h.acting.whole.at_work i t h.here) q h.piece

  pub doing-act : IsActOf d (done (system_at s) doing-first.piece (task_of t).vars doing-first.rest).act
  doing-act = reached-at s i (whole-acting s i h.acting) t h.here h.due q d h.piece h.reaches doing-first

  -- the run stops before a section
  pub stop-reached : (section : Resource) (unit ceiling : ℕ) (told' : List Event) (act : deeds.Act)
      → (f : HasFirst (task_of t)) → (done (system_at s) f.piece (task_of t).vars f.rest).act ≡ act
      → ((vars : Variables) (ps : List pieces.Piece) → acted (system_at s) i (task_of t) act vars ps (effect_state s i)
      ≡ entry (system_at s) i (task_of t) section told' vars ps (effect_state s i))
      → section_unit (system_at s) section ≡ unit → ceiling_of (system_at s) section ≡ ceiling → nat_lt ceiling t.active ≡ true
      → HasObject s.tasks unit ⊎ HasUnit s.tasks unit
      → (told : Told) → told ≡ One (event.Stop s.time t.progress.stack.thread.unit unit t.active ceiling)
      → (n : Snapshot) → n ≡ record s { stopped = true } → Steps s told n
  stop-reached section unit ceiling told' act f is enters unit_is ceiling_is above of told says n stops =
      subst (λ x. Steps s told x) (sym stops)
      (in-acting s i h.acting (λ x. Steps x told (record x { stopped = true }))
      (λ whole. stop-before s i whole t h.here h.due q h.piece section unit ceiling told' act f is enters unit_is ceiling_is above of told says))
