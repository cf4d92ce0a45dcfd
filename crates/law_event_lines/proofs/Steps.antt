-- Each step of a system whose texts are fit tells events of the program, and keeps what that needs.
use Rattle.std.proofs.Common.{◌≡◌, ℕ, zero, suc, ◌+◌, ◌-◌, ◌<◌, ◌≤◌, ◌^◌, Bool, true, false, List, [], ◌∷◌, ◌++◌, map, Option, Some, None}
use Rattle.std.proofs.Common.{refl, sym, subst, ◌∙◌, arith}
use Rattle.std.specs.Prelude.{◌==◌, ◌&&◌, nat_lt, set, slice_get, unwrap_or, ⊤, if◌then◌else◌}
use Rattle.seq_tree.specs.Lists.{Each, change, first_where}
use Rattle.seq_tree.specs.Names.{Name}
use Rattle.seq_tree.specs.Variables.{Variables, written}
use Rattle.seq_tree.specs.declared.tree.Costs.{Costs}
use Rattle.ada_tree.specs.Programs.{Program}
use Rattle.arrivals_tree.specs.declared.arrivals.Arrival.{Arrival}
use Rattle.trace_tree.specs.Placed.{IsUnit}
use Rattle.trace_tree.specs.declared.event.Event.{Event}
use Rattle.trace_tree.specs.declared.event.Event.TheVariants as event
use Rattle.machine.specs.Systems.{System, TaskUnit, ProtectedUnit, callee}
use Rattle.machine.specs.Pieces.{Piece, Finishing, pieces}
use Rattle.machine.specs.Deeds.{Act, Silent, Print, Enter, Leave, Ask, Keep, Open, Ended, Finish}
use Rattle.machine.specs.States.{State, Task, Gate, Phase, Effects, Delays, Arriving, Use, Resource, Object, Control, Held, Ready, shut}
use Rattle.machine.specs.States.{first_task, opening}
use Rattle.machine.specs.Dispatch.{dispatched}
use Rattle.machine.specs.Releases.{Next, after, going, released, release_task, release, is_waiting, serve_task, serve, parameter, next_time}
use Rattle.machine.specs.Effects.{task_unit, ceiling_of, inside_now, outside_by, outside_now, lent, stopped_at, entered_at}
use Rattle.machine.specs.Effects.{entry, exit, go, ended, acted}
use Rattle.machine.specs.Steps.{goes_to, effect_of, effect_at, effect_step, is_due, delay_step, horizon_step, arrive_at, arrival_step, use_step}
use Rattle.machine.specs.Steps.{step_in, step}
use Rattle.machine.specs.Meanings.{run, Rest}
use Rattle.law_lists.proofs.Shared.Facts.{first-where}
use Rattle.law_lists.proofs.Shared.Lists.{each-append}
use Rattle.law_lists.proofs.Shared.Places.{all-at}
use Rattle.law_traces.specs.Told.{IsTicks, IsWord, IsWordWhere, IsEvent}
use Rattle.law_event_lines.proofs.Values.{HoldWords, pick, kept-fits, parameter-fits}
use Rattle.law_event_lines.proofs.Pieces.{FitBlock, FitPieces, FitCallee, FitAct, block-fits, done-fits}

-- what holds of each still holds as one of them changes
change-each : {A : Type 0} (P : A → Type 0) (i : ℕ) (f : A → A) (xs : List A) → ((x : A) → P x → P (f x)) → Each P xs → Each P (change i f xs)
change-each P i f [] keeps h = tt
change-each P zero f (x ∷ xs) keeps h = (keeps x h.0, h.1)
change-each P (suc i) f (x ∷ xs) keeps h = (h.0, change-each P i f xs keeps h.1)

set-each : {A : Type 0} (P : A → Type 0) (i : ℕ) (v : A) (xs : List A) → P v → Each P xs → Each P (set xs i v)
set-each P i v [] new h = tt
set-each P zero v (x ∷ xs) new h = (new, h.1)
set-each P (suc i) v (x ∷ xs) new h = (h.0, set-each P i v xs new h.1)

each-from : {A : Type 0} (P Q : A → Type 0) (xs : List A) → ((x : A) → P x → Q x) → Each P xs → Each Q xs
each-from P Q [] f h = tt
each-from P Q (x ∷ xs) f h = (f x h.0, each-from P Q xs f h.1)

each-map : {A B : Type 0} (Q : B → Type 0) (f : A → B) (xs : List A) → Each (λ x. Q (f x)) xs → Each Q (map f xs)
each-map Q f [] h = tt
each-map Q f (x ∷ xs) h = (h.0, each-map Q f xs h.1)

-- the data of an object, where there is one
stored-data : (stores : List Variables) (i : ℕ) → Each HoldWords stores → HoldWords (unwrap_or (slice_get stores i) [])
stored-data [] i h = tt
stored-data (s ∷ stores) zero h = h.0
stored-data (s ∷ stores) (suc i) h = stored-data stores i h.1

-- what is told: an event of the program, or a stop
abbrev pub TellsOf : Program → Event → Type 0
TellsOf p (event.Stop time task unit priority ceiling) = ⊤
TellsOf p e = IsEvent p e

module _ (p : Program) (y : System) where
  abbrev pub FitThread : TaskUnit → Type 0
  FitThread t = IsUnit p t.unit × FitBlock t.block

  -- a task
  pub record FitTask (time : ℕ) (t : Task) : Type 0 where
    pub thread : FitThread t.thread
    pub vars : HoldWords t.vars
    pub pieces : FitPieces p y t.pieces
    pub gate : IsWordWhere t.gate.value
    pub used : t.used ≤ time

  -- a state
  pub record FitState (s : State) : Type 0 where
    pub tasks : Each (FitTask s.time) s.tasks
    pub stores : Each HoldWords s.stores
    pub arrivals : Each (λ (a : Arrival). IsWordWhere a.value) s.arrivals
    pub within : s.time ≤ y.until
    pub before : s.phase ≡ Use → s.time < y.until

  abbrev GoodNext : Next → Type 0
  GoodNext n = FitState n.0 × Each (TellsOf p) n.1

  -- tasks
  going-fits : (time : ℕ) (costs : Costs) (vars : Variables) (ps : List Piece) (t : Task) → HoldWords vars → FitPieces p y ps → FitTask time t
      → FitTask time (going costs vars ps t)
  going-fits time costs vars [] t w f h = record { thread = h.thread; vars = w; pieces = tt; gate = h.gate; used = h.used }
  going-fits time costs vars (x ∷ ps) t w f h = record { thread = h.thread; vars = w; pieces = f; gate = h.gate; used = h.used }

  released-fits : (time : ℕ) (costs : Costs) (t : Task) → FitTask time t → FitTask time (released costs t)
  released-fits time costs t h =
      let begun : Task = record t { readiness = Ready; next = next_time t.thread.timing t.next; used = 0; gate = shut } in
      going-fits time costs (parameter t.thread.timing t.gate.value ++ t.vars) (pieces t.thread.block (Finishing ∷ [])) begun
      (each-append (λ v. IsWord v.1) (parameter t.thread.timing t.gate.value) t.vars (parameter-fits t.thread.timing t.gate.value h.gate) h.vars)
      (block-fits p y t.thread.block (Finishing ∷ []) h.thread.1 (tt, tt))
      (record { thread = h.thread; vars = h.vars; pieces = h.pieces; gate = tt; used = omega arith })

  outside-fits : (time : ℕ) (hs : List Held) (t : Task) → FitTask time t → FitTask time (outside_by hs t)
  outside-fits time [] t h = h
  outside-fits time (x ∷ hs) t h = record { thread = h.thread; vars = h.vars; pieces = h.pieces; gate = h.gate; used = h.used }

  inside-fits : (time : ℕ) (section : Resource) (ceiling : ℕ) (t : Task) → FitTask time t → FitTask time (inside_now section ceiling t)
  inside-fits time section ceiling t h = record { thread = h.thread; vars = h.vars; pieces = h.pieces; gate = h.gate; used = h.used }

  gate-fits : (time : ℕ) (g : Gate) (t : Task) → IsWordWhere g.value → FitTask time t → FitTask time (record t { gate = g })
  gate-fits time g t w h = record { thread = h.thread; vars = h.vars; pieces = h.pieces; gate = w; used = h.used }

  ended-fits : (time : ℕ) (vars : Variables) (t : Task) → HoldWords vars → FitTask time t → FitTask time (ended vars t)
  ended-fits time vars t w h =
      record { thread = h.thread; vars = kept-fits t.thread.vars vars w; pieces = tt; gate = h.gate; used = h.used }

  -- a state of which the tasks changed, and the data of objects
  with-tasks : (s s' : State) → s'.time ≡ s.time → s'.phase ≡ s.phase → s'.arrivals ≡ s.arrivals → Each (FitTask s.time) s'.tasks
      → Each HoldWords s'.stores → FitState s → FitState s'
  with-tasks s s' time phase arrivals tasks stores f = record {
    tasks = subst (λ n. Each (FitTask n) s'.tasks) (sym time) tasks;
    stores = stores;
    arrivals = subst (Each (λ (a : Arrival). IsWordWhere a.value)) (sym arrivals) f.arrivals;
    within = subst (λ n. n ≤ y.until) (sym time) f.within;
    before = λ e. subst (λ n. n < y.until) (sym time) (f.before (sym phase ∙ e));
  }

  module _ (near : y.until < 2 ^ 64) where
    now : (s : State) → FitState s → IsTicks s.time
    now s f = let most = f.within in omega (arith, most, near)

    changed : (i : ℕ) (g : Task → Task) (s : State) → ((t : Task) → FitTask s.time t → FitTask s.time (g t)) → FitState s
        → Each (FitTask s.time) (change i g s.tasks)
    changed i g s keeps f = change-each (FitTask s.time) i g s.tasks keeps f.tasks

    -- releases
    release-good : (i : ℕ) (s : State) → FitState s → GoodNext (release y i s)
    release-good i s f = by (slice_get s.tasks i) refl
      where
        by : (o : Option Task) → slice_get s.tasks i ≡ o → GoodNext (release_task y i o s)
        by None e = (f, tt)
        by (Some t) e =
            let h = all-at (FitTask s.time) s.tasks i t f.tasks e in (
              with-tasks s _ refl refl refl (changed i (released y.costs) s (released-fits s.time y.costs) f) f.stores f,
              ((h.thread.0, (now s f, h.gate)), tt),
            )

    serve-good : (i : ℕ) (s : State) → FitState s → GoodNext (serve y i s)
    serve-good i s f = by (slice_get s.tasks i)
      where
        by : (o : Option Task) → GoodNext (serve_task y i o s)
        by None = (f, tt)
        by (Some t) = pick GoodNext (is_waiting t.readiness && t.gate.open') (release y i s) (s, []) (release-good i s f) (f, tt)

    behind : (e : Event) (n : Next) → TellsOf p e → GoodNext n → GoodNext (after (e ∷ []) n)
    behind e n t g = (g.0, (t, g.1))

    -- entries and exits
    lent-fits : (section : Resource) (s : State) (vars : Variables) → FitState s → HoldWords vars → HoldWords (lent section s vars)
    lent-fits (Object object) s vars f w =
        each-append (λ v. IsWord v.1) vars (unwrap_or (slice_get s.stores object) []) w (stored-data s.stores object f.stores)
    lent-fits (Control task) s vars f w = w

    entered-good : (i : ℕ) (section : Resource) (told : List Event) (vars : Variables) (ps : List Piece) (s : State) → FitState s
        → HoldWords vars → FitPieces p y ps → Each (TellsOf p) told → GoodNext (entered_at y i section told vars ps s)
    entered-good i section told vars ps s f w q t = (by section, t)
      where
        tasks : (x : Resource) → Each (FitTask s.time) (change i (λ u. going y.costs (lent x s vars) ps (inside_now x (ceiling_of y x) u)) s.tasks)
        tasks x = changed i _ s (λ u h. going-fits s.time y.costs (lent x s vars) ps (inside_now x (ceiling_of y x) u) (lent-fits x s vars f w) q
            (inside-fits s.time x (ceiling_of y x) u h)) f

        by : (x : Resource) → FitState (entered_at y i x told vars ps s).0
        by (Object object) = with-tasks s _ refl refl refl (tasks (Object object)) (set-each HoldWords object [] s.stores tt f.stores) f
        by (Control task) = with-tasks s _ refl refl refl (tasks (Control task)) f.stores f

    entry-good : (i : ℕ) (t : Task) (section : Resource) (told : List Event) (vars : Variables) (ps : List Piece) (s : State) → FitState s
        → HoldWords vars → FitPieces p y ps → Each (TellsOf p) told → GoodNext (entry y i t section told vars ps s)
    entry-good i t section told vars ps s f w q r =
        pick GoodNext (nat_lt (ceiling_of y section) t.active) (stopped_at y t section s) (entered_at y i section told vars ps s)
        (with-tasks s _ refl refl refl f.tasks f.stores f, (tt, tt)) (entered-good i section told vars ps s f w q r)

    exit-tasks : (i : ℕ) (vars : Variables) (ps : List Piece) (s : State) → FitState s → HoldWords vars → FitPieces p y ps
        → Each (FitTask s.time) (change i (λ u. going y.costs vars ps (outside_now u)) s.tasks)
    exit-tasks i vars ps s f w q =
        changed i _ s (λ u h. going-fits s.time y.costs vars ps (outside_now u) w q (outside-fits s.time u.inside u h)) f

    go-good : (i : ℕ) (vars : Variables) (ps : List Piece) (s : State) → FitState s → HoldWords vars → FitPieces p y ps → FitState (go y i vars ps s)
    go-good i vars ps s f w q =
        with-tasks s _ refl refl refl (changed i _ s (λ u h. going-fits s.time y.costs vars ps u w q h) f) f.stores f

    -- effects
    acted-good : (i : ℕ) (t : Task) (act : Act) (vars : Variables) (ps : List Piece) (s : State) → FitState s → FitTask s.time t
        → FitAct p y act → HoldWords vars → FitPieces p y ps → GoodNext (acted y i t act vars ps s)
    acted-good i t Silent vars ps s f h a w q = (go-good i vars ps s f w q, tt)
    acted-good i t (Print v) vars ps s f h a w q = (go-good i vars ps s f w q, ((h.thread.0, (now s f, a)), tt))
    acted-good i t (Enter object op values) vars ps s f h a w q =
        entry-good i t (Object object) _ vars ps s f w q (((h.thread.0, a.0.0, a.0.1), (now s f, a.1)), tt)
    acted-good i t (Leave object op values data') vars ps s f h a w q = (
      with-tasks s _ refl refl refl (exit-tasks i vars ps s f w q) (set-each HoldWords object data' s.stores a.2 f.stores) f,
      (((h.thread.0, a.0.0, a.0.1), (now s f, a.1)), tt),
    )
    acted-good i t (Ask task) vars ps s f h a w q = entry-good i t (Control task) [] vars ps s f w q tt
    acted-good i t (Keep task v) vars ps s f h a w q =
        let g = go-good i vars ps s f w q in
        (with-tasks (go y i vars ps s) _ refl refl refl (changed task _ (go y i vars ps s) (λ u k. gate-fits s.time _ u a k) g) g.stores g, tt)
    acted-good i t (Open task) vars ps s f h a w q =
        let g = go-good i vars ps s f w q in
        (with-tasks (go y i vars ps s) _ refl refl refl (changed task _ (go y i vars ps s) (λ u k. gate-fits s.time _ u k.gate k) g) g.stores g, tt)
    acted-good i t (Ended task v) vars ps s f h a w q =
        behind (event.Request s.time t.thread.unit (task_unit y task) v) _ ((h.thread.0, a.0), (now s f, a.1))
        (serve-good task (exit y i vars ps s) (with-tasks s _ refl refl refl (exit-tasks i vars ps s f w q) f.stores f))
    acted-good i t Finish vars ps s f h a w q =
        let used = h.used in
        behind (event.End s.time t.thread.unit t.used) _ (h.thread.0, (now s f, (let most = f.within in omega (arith, used, most, near))))
        (serve-good i (record s { tasks = change i (ended vars) s.tasks })
        (with-tasks s _ refl refl refl (changed i (ended vars) s (λ u k. ended-fits s.time vars u w k) f) f.stores f))

    -- on to the next part of an instant, which is not the use of a tick
    goes-good : (phase : Phase) (s : State) → (phase ≡ Use → s.time < y.until) → FitState s → GoodNext (goes_to phase s)
    goes-good phase s before f =
        (record { tasks = f.tasks; stores = f.stores; arrivals = f.arrivals; within = f.within; before = before }, tt)

    module _ (texts : (unit op : Name) → FitCallee p y (callee y unit op)) where
      effects-good : (ran : Option ℕ) (s : State) → FitState s → GoodNext (effect_step y ran s)
      effects-good None s f = goes-good Delays s (λ e. absurd (let z : Delays ≡ Use = e in cc)) f
      effects-good (Some i) s f = by (slice_get s.tasks i) refl
        where
          away : GoodNext (goes_to Delays s)
          away = goes-good Delays s (λ e. absurd (let z : Delays ≡ Use = e in cc)) f

          pieced : (t : Task) (ps : List Piece) → FitTask s.time t → FitPieces p y ps → GoodNext (effect_of y i t ps s)
          pieced t [] h q = away
          pieced t (x ∷ ps) h q =
              let d = done-fits p y texts x t.vars ps q.0 q.1 h.vars in
              pick GoodNext (t.left == 0) _ (goes_to Delays s) (acted-good i t _ _ _ s f h d.0 d.1 d.2) away

          by : (o : Option Task) → slice_get s.tasks i ≡ o → GoodNext (effect_at y i o s)
          by None e = away
          by (Some t) e = let h = all-at (FitTask s.time) s.tasks i t f.tasks e in pieced t t.pieces h h.pieces

      delays-good : (o : Option (ℕ × Task)) (s : State) → FitState s → GoodNext (delay_step y o s)
      delays-good None s f = goes-good Arriving s (λ e. absurd (let z : Arriving ≡ Use = e in cc)) f
      delays-good (Some sleeper) s f = release-good sleeper.0 s f

      horizon-good : (s : State) → FitState s → GoodNext (horizon_step y s)
      horizon-good s f = by (s.time == y.until) refl
        where
          by : (b : Bool) → (s.time == y.until) ≡ b → GoodNext (if b then (record s { stopped = true }, event.Horizon s.time ∷ []) else goes_to Use s)
          by true e = (with-tasks s _ refl refl refl f.tasks f.stores f, ((tt, now s f), tt))
          by false e = goes-good Use s (λ z. let most = f.within in grind (arith, most, e)) f

      -- arrivals
      arrive-good : (a : Arrival) (o : Option (ℕ × Task)) (s : State) → FitState s → IsWordWhere a.value
          → first_where (λ t. t.thread.unit == a.task) s.tasks ≡ o → GoodNext (arrive_at y a o s)
      arrive-good a None s f w e = (f, tt)
      arrive-good a (Some t) s f w e =
          let found = first-where (λ (u : Task). u.thread.unit == a.task) s.tasks t.0 t.1 e in
          let h = all-at (FitTask s.time) s.tasks t.0 t.1 f.tasks found.0 in
          let unit : t.1.thread.unit ≡ a.task = (let one = found.1 in grind (arith, one)) in
          behind (event.Arrive s.time a.task a.value) _ (subst (IsUnit p) unit h.thread.0, (now s f, w))
          (serve-good t.0 (record s { tasks = change t.0 (λ u. record u { gate = record { value = a.value; open' = true } }) s.tasks })
          (with-tasks s _ refl refl refl (changed t.0 _ s (λ u k. gate-fits s.time _ u w k) f) f.stores f))

      arrivals-good : (as' : List Arrival) (s : State) → s.arrivals ≡ as' → FitState s → GoodNext (arrival_step y as' s)
      arrivals-good [] s e f = horizon-good s f
      arrivals-good (a ∷ others) s e f =
          let all = subst (Each (λ (b : Arrival). IsWordWhere b.value)) e f.arrivals in
          let later : State = record s { arrivals = others } in
          let g : FitState later = record { tasks = f.tasks; stores = f.stores; arrivals = all.1; within = f.within; before = f.before } in
          pick GoodNext (a.time == s.time) _ (horizon_step y s)
          (arrive-good a (first_where (λ t. t.thread.unit == a.task) s.tasks) later g all.0 refl) (horizon-good s f)

      -- the use of a tick
      later : (time : ℕ) (t : Task) → FitTask time t → FitTask (time + 1) t
      later time t h = record { thread = h.thread; vars = h.vars; pieces = h.pieces; gate = h.gate; used = (let u = h.used in omega (arith, u)) }

      use-good : (o : Option ℕ) (s : State) → s.time < y.until → FitState s → GoodNext (use_step y o s)
      use-good None s less f = (
        record {
          tasks = each-from (FitTask s.time) (FitTask (s.time + 1)) s.tasks (later s.time) f.tasks;
          stores = f.stores;
          arrivals = f.arrivals;
          within = omega (arith, less);
          before = λ e. absurd (let z : Effects ≡ Use = e in cc);
        },
        tt,
      )
      use-good (Some i) s less f = (
        record {
          tasks = used i s.tasks f.tasks;
          stores = f.stores;
          arrivals = f.arrivals;
          within = omega (arith, less);
          before = λ e. absurd (let z : Effects ≡ Use = e in cc);
        },
        tt,
      )
        where
          used : (k : ℕ) (ts : List Task) → Each (FitTask s.time) ts
              → Each (FitTask (s.time + 1)) (change k (λ t. record t { left = t.left - 1; used = t.used + 1 }) ts)
          used k [] h = tt
          used zero (t ∷ ts) h = (
            record {
              thread = h.0.thread;
              vars = h.0.vars;
              pieces = h.0.pieces;
              gate = h.0.gate;
              used = (let u = h.0.used in omega (arith, u));
            },
            each-from (FitTask s.time) (FitTask (s.time + 1)) ts (later s.time) h.1,
          )
          used (suc k) (t ∷ ts) h = (later s.time t h.0, used k ts h.1)

      -- a step
      phase-good : (phase : Phase) (s : State) → s.phase ≡ phase → FitState s → GoodNext (step_in phase y s)
      phase-good Effects s e f = effects-good s.ran s f
      phase-good Delays s e f = delays-good (first_where (λ t. is_due s.time t.readiness) s.tasks) s f
      phase-good Arriving s e f = arrivals-good s.arrivals s refl f
      phase-good Use s e f = use-good (dispatched s.tasks s.orders) s (f.before e) f

      step-good : (s : State) → FitState s → GoodNext (step y s)
      step-good s f = pick GoodNext s.stopped (s, []) (step_in s.phase y s) (f, tt) (phase-good s.phase s refl f)

      run-good : (n : ℕ) (s : State) → FitState s → Each (TellsOf p) (run y n s).1
      run-good zero s f = tt
      run-good (suc n) s f =
          let g = step-good s f in
          each-append (TellsOf p) (step y s).1 (run y n (step y s).0).1 g.1 (run-good n (step y s).0 g.0)

      -- the opening
      opening-fits : (as' : List Arrival) → Each (λ t. FitThread t × HoldWords (written t.vars)) y.threads
          → Each (λ (g : ProtectedUnit). HoldWords (written g.vars)) y.objects → Each (λ (a : Arrival). IsWordWhere a.value) as'
          → FitState (opening y as')
      opening-fits as' threads objects arrivals = record {
        tasks = each-map (FitTask 0) first_task y.threads (each-from _ (λ t. FitTask 0 (first_task t)) y.threads
            (λ t h. record { thread = h.0; vars = h.1; pieces = tt; gate = tt; used = omega arith }) threads);
        stores = each-map HoldWords (λ (g : ProtectedUnit). written g.vars) y.objects objects;
        arrivals = arrivals;
        within = omega arith;
        before = λ e. absurd (let z : Effects ≡ Use = e in cc);
      }

      pub rest-tells : (as' : List Arrival) (told : List Event) → Each (λ t. FitThread t × HoldWords (written t.vars)) y.threads
          → Each (λ (g : ProtectedUnit). HoldWords (written g.vars)) y.objects → Each (λ (a : Arrival). IsWordWhere a.value) as'
          → Rest y (opening y as') told → Each (TellsOf p) told
      rest-tells as' told threads objects arrivals rest =
          subst (Each (TellsOf p)) rest.tells (run-good rest.steps (opening y as') (opening-fits as' threads objects arrivals))
