-- What the acts of a task that has effects come to: the entry into a section and the exit from it, and the parts of a request.
-- No act changes the ready list but the release of a task that is requested, which comes to its tail.
use Rattle.std.specs.Prelude.{◌≡◌, ℕ, ◌+◌, ◌≤◌, min, true, false, ◌==◌, if◌then◌else◌, nat_lt, List, [], ◌∷◌, length, map, Some, option_map}
use Rattle.std.specs.Prelude.{slice_get, ℤ, refl}
use Rattle.std.proofs.Common.{sym, ◌∙◌, ap, subst, arith}
use Rattle.std.proofs.lemmas.Option.{slice_get-map}
use Rattle.seq_tree.specs.Lists.{change}
use Rattle.seq_tree.specs.Variables.{Variables}
use Rattle.seq_tree.specs.declared.tree.Costs.{Costs}
use Rattle.ada_tree.specs.declared.program.Unit as units
use Rattle.arrivals_tree.specs.declared.arrivals.Arrival.{Arrival}
use Rattle.trace_tree.specs.declared.event.Event.{Event}
use Rattle.trace_tree.specs.declared.event.Event.TheVariants as event
use Rattle.link_queue.specs.Queues.{Queues, at_head}
use Rattle.machine.specs.Pieces.{Piece}
use Rattle.machine.specs.Systems.{System}
use Rattle.machine.specs.States as states
use Rattle.machine.specs.States.{Resource, Object, Control}
use Rattle.machine.specs.Deeds as deeds
use Rattle.machine.specs.Deeds.{deed, done}
use Rattle.machine.specs.Dispatch.{put_first}
use Rattle.machine.specs.Releases.{going}
use Rattle.machine.specs.Effects.{acted, ceiling_of, entered_at, entry, exit, inside_now, lending, lent, outside_by, outside_now, section_unit}
use Rattle.machine.specs.Effects.{takes_effect}
use Rattle.machine.specs.Steps.{effect_at, effect_of, goes_to, step}
use Rattle.law_dispatching.specs.Queueing.{AreQueued, places}
use Rattle.law_dispatching.specs.Renumbering.{DifferInOrders}
use Rattle.law_dispatching.proofs.Shared.Acts.{entry-goes, entry-queued, entry-stops, exit-queued, goes-active, goes-readiness, outside-readiness}
use Rattle.ceil_runtime.specs.Processing.{IsKept, IsSound, order_of, state_by, system_by}
use Rattle.task_runtime.specs.Works.{IsNested}
use Rattle.task_runtime.specs.Tasks.{task_of}
use Rattle.task_runtime.specs.declared.task.Task.{Task}
use Rattle.ceil_runtime.specs.declared.processor.Phase.TheVariants.{Effects}
use Rattle.ceil_runtime.proofs.Effected.{moved-ranks, moved-sound, order-queued}
use Rattle.ceil_runtime.proofs.Processed.{Changed, changed-tasks}

-- a task that goes on inside a section or outside of it
outside-used : (hs : List states.Held) (t : states.Task) → ((outside_by hs t).used ≡ t.used) × ((outside_by hs t).next ≡ t.next)
outside-used [] t = (refl, refl)
outside-used (h ∷ hs) t = (refl, refl)

goes-used : (costs : Costs) (vars : Variables) (ps : List Piece) (t : states.Task) → ((going costs vars ps t).used ≡ t.used)
    × ((going costs vars ps t).next ≡ t.next)
goes-used costs vars [] t = (refl, refl)
goes-used costs vars (p ∷ ps) t = (refl, refl)

module _ (stores : List Variables) (arrivals : List Arrival) (until time : ℕ) (costs : Costs) (us : List units.Unit) (i : ℕ) (tasks : List Task)
    (q : Queues) (sound : IsSound until time (Effects (Some i)) (Some i) us tasks q)
    (t : Task) (here : slice_get tasks i ≡ Some t) (due : t.left ≡ 0) where
  abbrev pub acting : states.State
  acting = state_by stores arrivals time (Effects (Some i)) (Some i) false tasks q.ready

  abbrev pub acts_in : System
  acts_in = system_by until costs us tasks

  abbrev acting_orders : List ℤ
  acting_orders = places (length tasks) (order_of (Effects (Some i)) tasks q.ready)

  acting-at : slice_get (map task_of tasks) i ≡ Some (task_of t)
  acting-at = slice_get-map task_of tasks i ∙ ap (option_map task_of) here

  acting-queued : AreQueued (map task_of tasks) acting_orders (at_head (i, (task_of t).active) q.ready)
  acting-queued = order-queued until time us i (Some i) tasks q sound t here

  -- the step is what the deed of the first piece does
  pub deed-step : (piece : Piece) (rest pieces : List Piece) (vars : Variables) (act : deeds.Act) → (task_of t).pieces ≡ piece ∷ rest
      → done acts_in piece (task_of t).vars rest ≡ deed act vars pieces
      → step acts_in acting ≡ acted acts_in i (task_of t) act vars pieces acting
  deed-step piece rest pieces vars act first does =
      ap (λ o. effect_at acts_in i o acting) acting-at ∙ ap (λ ps. effect_of acts_in i (task_of t) ps acting) first
      ∙ ap (λ l. if l == 0 then takes_effect acts_in i (task_of t) (done acts_in piece (task_of t).vars rest) acting else goes_to states.Delays
      acting) due
      ∙ ap (λ d. takes_effect acts_in i (task_of t) d acting) does

  -- above the ceiling the run stops
  pub stops : (section : Resource) (told : List Event) (vars : Variables) (pieces : List Piece)
      → nat_lt (ceiling_of acts_in section) (task_of t).active ≡ true
      → entry acts_in i (task_of t) section told vars pieces acting
      ≡ (
        record acting { stopped = true },
        event.Stop time t.progress.stack.thread.unit (section_unit acts_in section) t.active (ceiling_of acts_in
            section) ∷ [],
      )
  stops section told vars pieces above = entry-stops acts_in i (task_of t) section told vars pieces acting above

  -- the entry into a section
  module _ (section : Resource) (told : List Event) (vars : Variables) (pieces : List Piece) (tasks' : List Task) (t' : Task)
      (c : Changed tasks tasks' i t t' (λ u. going costs (lent section acting vars) pieces (inside_now section (ceiling_of acts_in section) u)))
      (low : nat_lt (ceiling_of acts_in section) (task_of t).active ≡ false) where
    entered-active : (task_of t').active ≡ ceiling_of acts_in section
    entered-active = ap (λ u. u.active) c.does ∙ goes-active costs (lent section acting vars) pieces
        (inside_now section (ceiling_of acts_in section) (task_of t))

    entered-queued : AreQueued (change i (λ u. going costs (lent section acting vars) pieces (inside_now section (ceiling_of acts_in section) u))
        (map task_of tasks)) (put_first i acting_orders) (at_head (i, (task_of t').active) q.ready)
    entered-queued =
        subst (λ (n : ℕ). AreQueued (change i (λ u. going costs (lent section acting vars) pieces (inside_now section (ceiling_of acts_in section) u))
        (map task_of tasks)) (put_first i acting_orders) (at_head (i, n) q.ready)) (sym entered-active)
        (entry-queued acts_in (map task_of tasks) acting_orders i (task_of t) q.ready acting-at acting-queued section
        (lent section acting vars) pieces)

    pub entered-step : entry acts_in i (task_of t) section told vars pieces acting ≡ entered_at acts_in i section told vars pieces acting
    entered-step = entry-goes acts_in i (task_of t) section told vars pieces acting low

    pub entered-differs : DifferInOrders (entered_at acts_in i section told vars pieces acting).0
        (state_by (lending section acting).stores arrivals time (Effects (Some i)) (Some i) false tasks' q.ready)
    entered-differs = record {
      same = same section refl;
      ranks = moved-ranks until time us i (Some i) tasks q sound tasks' t t' _ c (put_first i acting_orders) entered-queued;
    }
      where
        same : (s : Resource) → s ≡ section → state_by (lending section acting).stores arrivals time (Effects (Some i)) (Some i) false tasks' q.ready
            ≡ record ((entered_at acts_in i section told vars pieces acting).0) {
              orders
                  = places (length tasks') (order_of (Effects (Some i)) tasks' q.ready);
            }
        same s e = ap (λ ts. record (state_by (lending section acting).stores arrivals time (Effects (Some i)) (Some i) false tasks' q.ready) {
          tasks
              = ts;
        }) (changed-tasks tasks tasks' i t t' _ c) ∙ by_section section
          where
            by_section : (r : Resource) → record (state_by (lending r acting).stores arrivals time (Effects (Some i))
                (Some i) false tasks' q.ready) {
                  tasks
                      = change i (λ u. going costs (lent section acting vars) pieces (inside_now section (ceiling_of acts_in section) u)) (map
                      task_of tasks);
                }
                ≡ record (lending r acting) {
                  tasks = change i (λ u. going costs (lent section acting vars) pieces
                      (inside_now section (ceiling_of acts_in section) u)) (map task_of tasks);
                  orders = places (length tasks') (order_of (Effects (Some i)) tasks' q.ready);
                }
            by_section (Object object) = refl
            by_section (Control task) = refl

    pub entered-sound : t'.works ≤ t.works + min t'.left 1 → (IsNested (task_of t) → IsNested (task_of t'))
        → IsSound until time (Effects (Some i)) (Some i) us tasks' q
    entered-sound works nests =
        let k : IsKept until time us t = sound.kept i t here in
        let vs : Variables = lent section acting vars in
        let inside : states.Task = inside_now section (ceiling_of acts_in section) (task_of t) in
        moved-sound until time us i (Some i) tasks q sound tasks' t t' _ c (put_first i acting_orders) entered-queued
        (λ u. goes-readiness costs vs pieces (inside_now section (ceiling_of acts_in section) u))
        (ap (λ u. u.used) c.does ∙ (goes-used costs vs pieces inside).0) (ap (λ u. u.next) c.does ∙ (goes-used costs vs pieces inside).1)
        (omega (arith, works, k.works, due)) nests

  -- the exit from the innermost section
  module _ (vars : Variables) (pieces : List Piece) (tasks' : List Task) (t' : Task)
      (c : Changed tasks tasks' i t t' (λ u. going costs vars pieces (outside_now u))) where
    left-active : (task_of t').active ≡ (outside_now (task_of t)).active
    left-active = ap (λ u. u.active) c.does ∙ goes-active costs vars pieces (outside_now (task_of t))

    pub left-queued : AreQueued (change i (λ u. going costs vars pieces (outside_now u)) (map task_of tasks)) (put_first i acting_orders)
        (at_head (i, (task_of t').active) q.ready)
    left-queued =
        subst (λ (n : ℕ). AreQueued (change i (λ u. going costs vars pieces (outside_now u)) (map task_of tasks)) (put_first i acting_orders)
        (at_head (i, n) q.ready)) (sym left-active)
        (exit-queued acts_in (map task_of tasks) acting_orders i (task_of t) q.ready acting-at acting-queued vars pieces)

    -- with other data of the objects, where it was one
    pub left-differs : (stores' : List Variables)
        → DifferInOrders (exit acts_in i vars pieces (record acting { stores = stores' }))
        (state_by stores' arrivals time (Effects (Some i)) (Some i) false tasks' q.ready)
    left-differs stores' = record {
      same = ap (λ ts. record (state_by stores' arrivals time (Effects (Some i)) (Some i) false tasks' q.ready) {
        tasks
            = ts;
      }) (changed-tasks tasks tasks' i t t' _ c);
      ranks = moved-ranks until time us i (Some i) tasks q sound tasks' t t' _ c (put_first i acting_orders) left-queued;
    }

    pub left-sound : t'.works ≤ t.works + min t'.left 1 → (IsNested (task_of t) → IsNested (task_of t'))
        → IsSound until time (Effects (Some i)) (Some i) us tasks' q
    left-sound works nests =
        let k : IsKept until time us t = sound.kept i t here in
        moved-sound until time us i (Some i) tasks q sound tasks' t t' _ c (put_first i acting_orders) left-queued
        (λ u. goes-readiness costs vars pieces (outside_now u) ∙ outside-readiness u)
        (ap (λ u. u.used) c.does ∙ (goes-used costs vars pieces (outside_now (task_of t))).0 ∙ (outside-used (task_of t).inside (task_of t)).0)
        (ap (λ u. u.next) c.does ∙ (goes-used costs vars pieces (outside_now (task_of t))).1 ∙ (outside-used (task_of t).inside (task_of t)).1)
        (omega (arith, works, k.works, due)) nests
