-- What a step does to how a task stands to its requests, and so a run: they are served in order, each once, up to an overrun.
use Rattle.std.specs.Prelude.{◌≡◌, ℕ, zero, suc, ◌+◌, ◌-◌, ◌≤◌, max, Bool, true, false, ◌==◌, List, [], ◌∷◌, ◌++◌, filter_map, slice_get}
use Rattle.std.specs.Prelude.{option_map, Option, Some, None, if◌then◌else◌, refl}
use Rattle.std.specs.List.{cons_option}
use Rattle.std.proofs.Common.{sym, ◌∙◌, ap, subst, arith, inl, inr}
use Rattle.std.proofs.lemmas.List.{map-append}
use Rattle.std.proofs.lemmas.List.Elements.{filter_map-append}
use Rattle.std.proofs.lemmas.Option.{slice_get-map, none-some, same_Some}
use Rattle.seq_tree.specs.Lists.{change, first_where}
use Rattle.seq_tree.specs.Names.{same_name}
use Rattle.seq_tree.specs.Operations.{Signature}
use Rattle.ada_tree.specs.Programs.{Program}
use Rattle.arrivals_tree.specs.declared.arrivals.Arrival.{Arrival}
use Rattle.trace_tree.specs.declared.event.Event as machine
use Rattle.trace_tree.specs.declared.event.Event.TheVariants as event
use Rattle.trace_tree.specs.Lines.{unit_name}
use Rattle.ods_tree.specs.Walk.{only_if}
use Rattle.machine.specs.Systems.{System, TaskUnit, Requested}
use Rattle.machine.specs.Pieces.{Piece}
use Rattle.machine.specs.Deeds.{PieceOutcome, done}
use Rattle.machine.specs.States.{State, Task, Phase, Effects, Delays, Arriving, Use, Readiness, Asleep, Waiting, Ready, first_task, first_wait}
use Rattle.machine.specs.States.{opening, shut}
use Rattle.machine.specs.Dispatch.{dispatched}
use Rattle.machine.specs.Releases.{Next, released, release_task, serve}
use Rattle.machine.specs.Effects.{acted, takes_effect}
use Rattle.machine.specs.Steps.{step, step_in, goes_to, effect_of, effect_at, effect_step, delay_step, horizon_step, arrive_at, arrival_step}
use Rattle.machine.specs.Steps.{use_step, is_due}
use Rattle.machine.specs.Meanings.{run}
use Rattle.guarantee.specs.Events.{named, named_event}
use Rattle.guarantee.specs.Requests.{Pending, Notice, Asked, Taken, notice_by}
use Rattle.law_releases.proofs.RequestPieces.{asks, Heads, keeps, KeptBy, keeps_asks, part, free_heads, free_keeps}
use Rattle.law_releases.proofs.RequestStanding.{Idles, Queue, Stands, moved, later_on}
use Rattle.law_releases.proofs.Gates.{HaveHeads, NoKeeper, AsksAlone, released-free, stands-released, stands-waits}
use Rattle.law_releases.proofs.RequestNotices.{first_of, Onward, onward_none, AreGood, good_change, IsNamed, told, taken_other, serve_other}
use Rattle.law_releases.proofs.RequestNotices.{serve_waiting, serve_ready, Served, no_first_pieces}
use Rattle.law_releases.proofs.RequestEffects.{MayAct, act_goes}
use Rattle.std.proofs.lemmas.Bool.{true≢false, eqb-true, false_from_ne_true}
use Rattle.law_lists.proofs.Shared.Places.{change-at, changed}
use Rattle.law_releases.specs.Serving.{ServedWhile}
use Rattle.law_written.proofs.Shared.Back.{places}
use Rattle.law_lists.proofs.Shared.Facts.{first-where}
use Rattle.law_releases.proofs.Readiness.{waits_not_ready}
use Rattle.law_calls.proofs.Shared.Instants.{acted-same, serve-same}

module _ (p : Program) (y : System) (j : ℕ) (th : TaskUnit) (is : IsNamed p y j th) (sig : Signature) (ceiling separation jitter : ℕ)
    (external : Bool)
    (timing : th.timing ≡ Requested sig ceiling separation jitter external) where
  -- what is asked of a state: of its tasks, of the task whose pieces take effect, and of an arrival for the task
  pub record MayServe (s : State) : Type 0 where
    pub good : AreGood y s.tasks
    pub asking : (i : ℕ) (u : Task) → slice_get s.tasks i ≡ Some u → asks j u.pieces ≡ true → AsksAlone j i s.tasks
    pub finishing : (t : Task) → slice_get s.tasks j ≡ Some t → s.phase ≡ Effects → s.ran ≡ Some j → AsksAlone j j s.tasks
    pub valid : (i : ℕ) (u : Task) (k : ℕ) → slice_get s.tasks i ≡ Some u → asks k u.pieces ≡ true → (w : TaskUnit) × (slice_get y.threads k ≡ Some w)
    pub arriving : (a : Arrival) (others : List Arrival) → s.arrivals ≡ a ∷ others → a.task ≡ th.unit → (i : ℕ) (u : Task)
        → slice_get s.tasks i ≡ Some u → asks j u.pieces ≡ true → ⊥

  abbrev pub Steps : List Pending → Option ℕ → Next → Type 0
  Steps q idle next = (q' : List Pending) × (idle' : Option ℕ) × Stands th j next.0.time next.0.tasks q' idle'
      × Onward q idle (told p y j th is next.1) q' idle'

  module _ (s : State) (q : List Pending) (idle : Option ℕ) (h : Stands th j s.time s.tasks q idle) (may : MayServe s) where
    still : (next : Next) → next.0.time ≡ s.time → next.0.tasks ≡ s.tasks → told p y j th is next.1 ≡ [] → Steps q idle next
    still next time tasks none = (
      q,
      idle,
      subst (λ n. Stands th j n next.0.tasks q idle) (sym time) (subst (λ ts. Stands th j s.time ts q idle) (sym tasks) h),
      subst (λ ns.
          Onward q idle ns q idle) (sym none) (onward_none q idle),
    )

    -- effects
    effects_step : s.phase ≡ Effects → Steps q idle (effect_step y s.ran s)
    effects_step phase = by_ran s.ran refl
      where
        away : Steps q idle (goes_to Delays s)
        away = still (goes_to Delays s) refl refl refl

        may_act : (i : ℕ) (u : Task) → s.ran ≡ Some i → (at : slice_get s.tasks i ≡ Some u)
            → MayAct p y j th is sig ceiling separation jitter external timing s q idle h may.good i u at
        may_act i u ran at = record {
          asking = may.asking i u at;
          finishing = λ e. may.finishing u (ap (slice_get s.tasks) (sym e) ∙ at) phase (ran ∙ ap Some e);
          valid = λ k asking. may.valid i u k at asking;
        }

        by_left : (i : ℕ) (u : Task) (x : Piece) (rest : List Piece) (b : Bool) → s.ran ≡ Some i → slice_get s.tasks i ≡ Some u → u.pieces ≡ x ∷ rest
            → Steps q idle (if b then takes_effect y i u (done y x u.vars rest) s else goes_to Delays s)
        by_left i u x rest false ran at has = away
        by_left i u x rest true ran at has =
            let d : PieceOutcome = done y x u.vars rest in
            let o = act_goes p y j th is sig ceiling separation jitter external timing s q idle h may.good i u at x rest d.act d.vars d.pieces
            (may_act i u ran at) has
            (part y x u.vars rest (subst Heads has (h.heads i u at))) in (
              o.0,
              o.1,
              subst (λ n. Stands th j n (acted y i u d.act d.vars d.pieces s).0.tasks o.0 o.1) (sym
                  ((acted-same y i u d.act d.vars d.pieces s).time)) o.2,
              o.3,
            )

        by_pieces : (i : ℕ) (u : Task) (ps : List Piece) → s.ran ≡ Some i → slice_get s.tasks i ≡ Some u → u.pieces ≡ ps
            → Steps q idle (effect_of y i u ps s)
        by_pieces i u [] ran at has = away
        by_pieces i u (x ∷ rest) ran at has = by_left i u x rest (u.left == 0) ran at has

        by_task : (i : ℕ) (o : Option Task) → s.ran ≡ Some i → slice_get s.tasks i ≡ o → Steps q idle (effect_at y i o s)
        by_task i None ran at = away
        by_task i (Some u) ran at = by_pieces i u u.pieces ran at refl

        by_ran : (o : Option ℕ) → s.ran ≡ o → Steps q idle (effect_step y o s)
        by_ran None ran = away
        by_ran (Some i) ran = by_task i (slice_get s.tasks i) ran refl

    -- releases at their times
    delays_step : Steps q idle (delay_step y (first_where (λ t. is_due s.time t.readiness) s.tasks) s)
    delays_step = by_first (first_where (λ t. is_due s.time t.readiness) s.tasks) refl
      where
        never_due : (t : Task) → Idles t.readiness s.time idle → is_due s.time t.readiness ≡ true → ⊥
        never_due t idles due = by t.readiness idles due
          where
            by : (r : Readiness) → Idles r s.time idle → is_due s.time r ≡ true → ⊥
            by (Asleep until) i d = i
            by Waiting i d = true≢false (sym d)
            by Ready i d = true≢false (sym d)

        not_ready : (u : Task) → is_due s.time u.readiness ≡ true → u.readiness ≡ Ready → ⊥
        not_ready u due ready = true≢false (sym due ∙ ap (is_due s.time) ready)

        by_release : (k : ℕ) (u : Task) (o : Option Task) → slice_get s.tasks k ≡ Some u → o ≡ Some u → is_due s.time u.readiness ≡ true
            → Steps q idle (release_task y k o s)
        by_release k u None at e due = absurd (none-some u e)
        by_release k u (Some v) at e due =
            let one : v ≡ u = same_Some v u e in
            let apart : k ≡ j → ⊥ = λ same.
            let own : h.t ≡ u = same_Some h.t u (sym h.at ∙ ap (slice_get s.tasks) (sym same) ∙ at) in
            never_due h.t h.idles (ap (λ z. is_due s.time z.readiness) own ∙ due) in
            let rests : u.pieces ≡ [] = may.good.rests k u at (not_ready u due) in
            let rel : Stands th j s.time (change k (released y.costs) s.tasks) q idle =
            moved th j s.time s.tasks q idle k (released y.costs) h (λ w there.
            let same : w ≡ u = same_Some w u (sym there ∙ at) in
            inl (
              ap (λ z. keeps j z.pieces) same ∙ ap (keeps j) rests,
              free_heads (released y.costs w).pieces (released-free y.costs
                  w),
              free_keeps j (released y.costs w).pieces (released-free y.costs w),
            ))
            (λ same. absurd (apart same)) in
            let none : told p y j th is (event.Release s.time v.thread.unit v.gate.value ∷ []) ≡ []
            = taken_other p y j th is s.time k v v.gate.value (may.good.written k v (at ∙ sym e)) apart in
            (q, idle, rel, subst (λ ns. Onward q idle ns q idle) (sym none) (onward_none q idle))

        by_first : (o : Option (ℕ × Task)) → first_where (λ t. is_due s.time t.readiness) s.tasks ≡ o → Steps q idle (delay_step y o s)
        by_first None e = still (goes_to Arriving s) refl refl refl
        by_first (Some (k, u)) e =
            let f = first-where (λ (t : Task). is_due s.time t.readiness) s.tasks k u e in
            by_release k u (slice_get s.tasks k) f.0 f.0 f.1

    -- an arrival
    abbrev opened_by : Arrival → Task → Task
    opened_by a w = record w { gate = record { value = a.value; open' = true } }

    arrives_at : (a : Arrival) (others : List Arrival) (k : ℕ) (u : Task) → s.arrivals ≡ a ∷ others → a.time ≡ s.time → slice_get s.tasks k ≡ Some u
        → u.thread.unit ≡ a.task
        → Steps q idle (arrive_at y a (Some (k, u)) (record s { arrivals = others }))
    arrives_at a others k u left now at unit = places k j own other
      where
        z : State
        z = record s { arrivals = others; tasks = change k (opened_by a) s.tasks }

        Goal : Type 0
        Goal = Steps q idle (arrive_at y a (Some (k, u)) (record s { arrivals = others }))

        good' : AreGood y z.tasks
        good' = good_change y k (opened_by a) s.tasks may.good (λ w. refl) (λ w there not_ready. may.good.rests k w there not_ready)

        time_is : (serve y k z).0.time ≡ s.time
        time_is = (serve-same y k z).time

        other : (k ≡ j → ⊥) → Goal
        other apart =
            let rel : Stands th j s.time z.tasks q idle
            = moved th j s.time s.tasks q idle k (opened_by a) h (λ w there. inr refl) (λ e. absurd (apart e)) in
            let o = serve_other p y j th is k z q idle apart good' rel in
            let here : same_name (unit_name p a.task) th.name ≡ false =
            ap (λ n. same_name (unit_name p n) th.name) (sym unit) ∙ is.others k u.thread (may.good.written k u at) apart in
            let tells : told p y j th is (event.Arrive s.time a.task a.value ∷ (serve y k z).1) ≡ told p y j th is (serve y k z).1 =
            ap (λ b. cons_option (only_if b (Asked s.time a.value)) (told p y j th is (serve y k z).1)) here in (
              o.0,
              o.1,
              subst (λ n. Stands th j n (serve y k z).0.tasks o.0 o.1) (sym time_is) o.2,
              subst (λ ns.
                  Onward q idle ns o.0 o.1) (sym tells) o.3,
            )

        own : k ≡ j → Goal
        own e = by h.t.readiness refl
          where
            one : u ≡ h.t
            one = same_Some u h.t (sym at ∙ ap (slice_get s.tasks) e ∙ h.at)

            for_task : a.task ≡ th.unit
            for_task = sym unit ∙ ap (λ w. w.thread.unit) one ∙ ap (λ w. w.unit) h.written

            t' : Task
            t' = opened_by a h.t

            at' : slice_get z.tasks j ≡ Some t'
            at' = subst (λ n. slice_get (change n (opened_by a) s.tasks) j ≡ Some t') (sym e) (change-at j (opened_by a) s.tasks h.t h.at)

            none : NoKeeper j s.tasks
            none i w there = false_from_ne_true _ (λ e. may.arriving a others left for_task i w there (keeps_asks j w.pieces (h.heads i w there) e))

            none' : NoKeeper j z.tasks
            none' i w there = changed k i (opened_by a) s.tasks w there (λ x e was same. ap (λ v. keeps j v.pieces) same ∙ none k x was)
                (λ apart was. none i w was)

            heads' : HaveHeads z.tasks
            heads' i w there = changed k i (opened_by a) s.tasks w there (λ x e was same. subst (λ v. Heads v.pieces) (sym same) (h.heads k x was))
                (λ apart was. h.heads i w was)

            asked_first : (es : List machine.Event) → told p y j th is (event.Arrive s.time a.task a.value ∷ es)
                ≡ Asked s.time a.value ∷ told p y j th is es
            asked_first es = ap (λ b. cons_option (only_if b (Asked s.time a.value)) (told p y j th is es))
                (ap (λ n. same_name (unit_name p n) th.name) for_task ∙ is.own)

            Ends' : Next → Type 0
            Ends' next = (q' : List Pending) × (idle' : Option ℕ) × Stands th j next.0.time next.0.tasks q' idle'
                × Onward q idle (told p y j th is (event.Arrive s.time a.task a.value ∷ next.1)) q' idle'

            waits_on : (r : List Pending) → idle ≡ None
                → Onward r idle (Asked s.time a.value ∷ []) (record { time = s.time; value = a.value } ∷ []) None
            waits_on [] empty = subst (λ o. Onward [] o (Asked s.time a.value ∷ []) (record { time = s.time; value = a.value } ∷ []) None) (sym empty)
                (λ more b. b)
            waits_on (r ∷ rs) empty = subst (λ o. Onward (r ∷ rs) o (Asked s.time a.value ∷ []) (record { time = s.time; value = a.value } ∷ []) None)
                (sym empty) (λ more b. tt)

            serves_on : (r : List Pending) (since : ℕ) → since ≤ s.time → Queue j s.time s.tasks h.t.readiness h.t.gate r → h.t.readiness ≡ Waiting
                → Onward r (Some since) (Asked s.time a.value ∷ Taken s.time a.value ∷ []) [] None
            serves_on [] since le queue waits = λ more b. (let latest : s.time ≡ max s.time since = omega (arith, le) in latest, refl, b)
            serves_on (r ∷ []) since le queue waits = λ more b. absurd (waits_not_ready (sym waits ∙ queue.1))
            serves_on (r ∷ r' ∷ rs) since le queue waits = λ more b. absurd queue

            by : (r : Readiness) → h.t.readiness ≡ r → Goal
            by Ready ready =
                let same : serve y k z ≡ (z, []) = ap (λ n. serve y n z) e ∙ serve_ready p y j th is z t' at' ready in
                let empty : idle ≡ None = subst (λ r. Idles r s.time idle) ready h.idles in
                subst Ends' (sym same) (
                  record { time = s.time; value = a.value } ∷ [],
                  None,
                  stands-waits th j s.time z.tasks t' at' h.written heads' none' ready refl,
                  subst (λ ns. Onward q idle ns (record { time = s.time; value = a.value } ∷ []) None) (sym (asked_first [])) (waits_on q empty),
                )
            by Waiting waits =
                let served : Served p y j th is z t' (serve y k z)
                = subst (λ n. Served p y j th is z t' (serve y n z)) (sym e) (serve_waiting p y j th is z t' at' h.written waits refl) in
                let since : (since : ℕ) × (idle ≡ Some since) × (since ≤ s.time) = subst (λ r. Idles r s.time idle) waits h.idles in
                let tells : told p y j th is (event.Arrive s.time a.task a.value ∷ (serve y k z).1)
                ≡ Asked s.time a.value ∷ Taken s.time a.value ∷ [] =
                asked_first (serve y k z).1 ∙ ap (λ ns. Asked s.time a.value ∷ ns) served.tells in (
                  [],
                  None,
                  subst (λ n. Stands th j n (serve y k z).0.tasks [] None) (sym time_is)
                      (subst (λ ts. Stands th j s.time ts [] None) (sym served.tasks)
                      (stands-released y.costs th j s.time z.tasks t' at' h.written heads' none')),
                  subst (λ ns. Onward q idle ns [] None) (sym tells) (subst
                      (λ o. Onward q o (Asked s.time a.value ∷ Taken s.time a.value ∷ []) [] None) (sym since.1) (serves_on q since.0 since.2
                      h.queue waits)),
                )
            by (Asleep until) sleeps = absurd (subst (λ r. Idles r s.time idle) sleeps h.idles)

    horizon_goes : Steps q idle (horizon_step y s)
    horizon_goes = by (s.time == y.until)
      where
        by : (b : Bool) → Steps q idle (if b then (record s { stopped = true }, event.Horizon s.time ∷ []) else goes_to Use s)
        by true = still (record s { stopped = true }, event.Horizon s.time ∷ []) refl refl refl
        by false = still (goes_to Use s) refl refl refl

    arrivals_step : Steps q idle (arrival_step y s.arrivals s)
    arrivals_step = by_items s.arrivals refl
      where
        by_found : (a : Arrival) (others : List Arrival) (o : Option (ℕ × Task)) → s.arrivals ≡ a ∷ others → (a.time == s.time) ≡ true
            → first_where (λ t. t.thread.unit == a.task) s.tasks ≡ o
            → Steps q idle (arrive_at y a o (record s { arrivals = others }))
        by_found a others None left now e = still (record s { arrivals = others }, []) refl refl refl
        by_found a others (Some (k, u)) left now e =
            let f = first-where (λ (t : Task). t.thread.unit == a.task) s.tasks k u e in
            arrives_at a others k u left (eqb-true a.time s.time now) f.0 (eqb-true u.thread.unit a.task f.1)

        by_time : (a : Arrival) (others : List Arrival) (b : Bool) → s.arrivals ≡ a ∷ others → (a.time == s.time) ≡ b
            → Steps q idle (if b then arrive_at y a (first_where (λ t. t.thread.unit == a.task) s.tasks)
            (record s { arrivals = others }) else horizon_step y s)
        by_time a others true left e = by_found a others (first_where (λ t. t.thread.unit == a.task) s.tasks) left e refl
        by_time a others false left e = horizon_goes

        by_items : (items : List Arrival) → s.arrivals ≡ items → Steps q idle (arrival_step y items s)
        by_items [] left = horizon_goes
        by_items (a ∷ others) left = by_time a others (a.time == s.time) left refl

    -- a tick
    ticks_step : Steps q idle (use_step y (dispatched s.tasks s.orders) s)
    ticks_step = by (dispatched s.tasks s.orders)
      where
        by : (o : Option ℕ) → Steps q idle (use_step y o s)
        by None = (q, idle, later_on th j s.time (s.time + 1) s.tasks q idle h (omega arith), onward_none q idle)
        by (Some i) = (
          q,
          idle,
          later_on th j s.time (s.time + 1) (change i (λ t. record t { left = t.left - 1; used = t.used + 1 }) s.tasks) q idle
              (moved th j s.time s.tasks q idle i (λ t. record t { left = t.left - 1; used = t.used + 1 }) h (λ w there. inr refl)
              (λ e. (refl, refl, refl))) (omega arith),
          onward_none q idle,
        )

    pub any_step : Steps q idle (step y s)
    any_step = by_stopped s.stopped
      where
        by_phase : (f : Phase) → s.phase ≡ f → Steps q idle (step_in f y s)
        by_phase Effects e = effects_step e
        by_phase Delays e = delays_step
        by_phase Arriving e = arrivals_step
        by_phase Use e = ticks_step

        by_stopped : (b : Bool) → Steps q idle (if b then (s, []) else step_in s.phase y s)
        by_stopped true = still (s, []) refl refl refl
        by_stopped false = by_phase s.phase refl

  -- all that is told
  told-append : (es fs : List machine.Event) → told p y j th is (es ++ fs) ≡ told p y j th is es ++ told p y j th is fs
  told-append es fs = ap (filter_map (notice_by th.name)) (map-append (named_event p) es fs) ∙ filter_map-append (notice_by th.name) (named p es)
      (named p fs)

  at_end : (s : State) (q : List Pending) (idle : Option ℕ) → Stands th j s.time s.tasks q idle → ServedWhile (first_of q) idle []
  at_end s [] None h = tt
  at_end s [] (Some since) h = tt
  at_end s (r ∷ []) idle h =
      let none : idle ≡ None = subst (λ r. Idles r s.time idle) h.queue.1 h.idles in
      subst (λ o. ServedWhile (Some r) o []) (sym none) tt
  at_end s (r ∷ r' ∷ rs) idle h = absurd h.queue

  pub served_from : (n : ℕ) (s : State) (q : List Pending) (idle : Option ℕ) → Stands th j s.time s.tasks q idle → ((m : ℕ) → MayServe (run y m s).0)
      → ServedWhile (first_of q) idle (told p y j th is (run y n s).1)
  served_from zero s q idle h may = at_end s q idle h
  served_from (suc n) s q idle h may =
      let o = any_step s q idle h (may 0) in
      let rest : List Notice = told p y j th is (run y n (step y s).0).1 in
      let parts : told p y j th is ((step y s).1 ++ (run y n (step y s).0).1) ≡ told p y j th is (step y s).1 ++ rest
      = told-append (step y s).1 (run y n (step y s).0).1 in
      let later : ServedWhile (first_of o.0) o.1 rest = served_from n (step y s).0 o.0 o.1 o.2 (λ m. may (suc m)) in
      subst (ServedWhile (first_of q) idle) (sym parts) (o.3 rest later)

  -- at the opening
  pub stands_opening : (items : List Arrival) → Stands th j 0 (opening y items).tasks [] (Some 0)
  stands_opening items = record {
    t = first_task th;
    at = slice_get-map first_task y.threads j ∙ ap (option_map first_task) is.at;
    written = refl;
    idles = subst (λ r. Idles r 0 (Some 0)) (sym (ap first_wait timing)) (0, refl, omega arith);
    heads = λ i u at. subst Heads (sym (no_first_pieces y i u at)) tt;
    kept = λ i u at. subst (λ ps. KeptBy j shut ps) (sym (no_first_pieces y i u at)) tt;
    queue = λ e. absurd (true≢false (sym e));
  }

  -- requests are served in order, each once, up to the first that comes while another is not yet served
  pub served_in_order : (items : List Arrival) (n : ℕ) → ((m : ℕ) → MayServe (run y m (opening y items)).0)
      → ServedWhile None (Some 0) (told p y j th is (run y n (opening y items)).1)
  served_in_order items n may = served_from n (opening y items) [] (Some 0) (stands_opening items) may
