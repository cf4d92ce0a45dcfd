-- Order numbers of different ready tasks differ: a task that is released gets one above all others, one that enters or leaves a section one below.
use Rattle.std.specs.Prelude.{◌≡◌, ◌≢◌, ◌&&◌, ℕ, zero, suc, Bool, true, false, nat_lt, List, [], ◌∷◌, slice_get, Option, Some, None, option_map}
use Rattle.std.specs.Prelude.{ℤ, ◌<ℤ◌, ◌==◌, if◌then◌else◌}
use Rattle.std.proofs.Common.{sym, ◌∙◌, ap, subst, arith}
use Rattle.std.proofs.lemmas.Int.{ints}
use Rattle.std.proofs.lemmas.Option.{none-some, same_Some, slice_get-map}
use Rattle.seq_tree.specs.Lists.{change, first_where}
use Rattle.seq_tree.specs.Variables.{Variables}
use Rattle.arrivals_tree.specs.declared.arrivals.Arrival.{Arrival}
use Rattle.trace_tree.specs.declared.event.Event.{Event}
use Rattle.trace_tree.specs.declared.event.Event.TheVariants as event
use Rattle.machine.specs.Systems.{System, TaskUnit, ReleasePattern, Periodic, Requested}
use Rattle.machine.specs.Pieces.{Piece}
use Rattle.machine.specs.Deeds.{Act, Silent, Print, Enter, Leave, Ask, Keep, Open, Ended, Finish, done}
use Rattle.machine.specs.States.{State, Task, Phase, Effects, Delays, Arriving, Use, Ready, Resource, Object, Control, opening, first_task}
use Rattle.machine.specs.States.{first_wait}
use Rattle.machine.specs.Effects.{ceiling_of, stopped_at, entered_at, entry, exit, ended, resting, acted, object_unit, inside_now, outside_now, lent}
use Rattle.machine.specs.Dispatch.{put_last, put_first, dispatched}
use Rattle.machine.specs.Releases.{Next, going, released, release_task, release, is_waiting, serve_task, serve}
use Rattle.machine.specs.Steps.{goes_to, effect_of, effect_at, effect_step, is_due, delay_step, horizon_step, arrive_at, arrival_step, use_step}
use Rattle.machine.specs.Steps.{step_in, step}
use Rattle.machine.specs.Meanings.{run}
use Rattle.law_ceilings.specs.Sections.{Stands, IsNumbered}
use Rattle.law_ceilings.proofs.OrderNumbers.{last-above, last-else, first-below, first-else}
use Rattle.law_ceilings.proofs.Shared.Keeping.{going-is}
use Rattle.law_lists.proofs.Shared.Places.{changed}

-- ready tasks of one number are one
abbrev pub Differ : List Task → List ℤ → Type 0
Differ ts os =
    (i j : ℕ) (t u : Task) (o : ℤ) → Stands ts i t → Stands ts j u → t.readiness ≡ Ready → u.readiness ≡ Ready → IsNumbered os i o
    → IsNumbered os j o → i ≡ j

-- a task that is not made ready
differ-change : (ts : List Task) (os : List ℤ) (i : ℕ) (f : Task → Task) → ((t : Task) → (f t).readiness ≡ Ready → t.readiness ≡ Ready) → Differ ts os
    → Differ (change i f ts) os
differ-change ts os i f same differ a b t u o at bt ready ready' an bn =
    changed i a f ts t at
    (λ x is at' e. changed i b f ts u bt (λ x' is' bt' e'. is ∙ sym is')
    (λ not bt'. differ a b x u o (subst (λ k. Stands ts k x) (sym is) at') bt' (same x (sym (ap (λ z. z.readiness) e) ∙ ready)) ready' an bn))
    (λ not at'. changed i b f ts u bt
    (λ x' is' bt' e'. differ a b t x' o at' (subst (λ k. Stands ts k x') (sym is') bt') ready
    (same x' (sym (ap (λ z. z.readiness) e') ∙ ready')) an bn)
    (λ not' bt'. differ a b t u o at' bt' ready ready' an bn))

-- one that gets a number unlike all others
differ-set : (ts : List Task) (os os' : List ℤ) (i : ℕ) (f : Task → Task) → ((j : ℕ) (p : ℤ) → j ≢ i → IsNumbered os' i p → IsNumbered os j p → ⊥)
    → ((j : ℕ) → j ≢ i → slice_get os' j ≡ slice_get os j) → Differ ts os → Differ (change i f ts) os'
differ-set ts os os' i f unlike others differ a b t u o at bt ready ready' an bn =
    changed i a f ts t at
    (λ x is at' e. changed i b f ts u bt (λ x' is' bt' e'. is ∙ sym is')
    (λ not bt'. absurd (unlike b o not (subst (λ k. IsNumbered os' k o) is an) (sym (others b not) ∙ bn))))
    (λ not at'. changed i b f ts u bt
    (λ x' is' bt' e'. absurd (unlike a o not (subst (λ k. IsNumbered os' k o) is' bn) (sym (others a not) ∙ an)))
    (λ not' bt'. differ a b t u o at' bt' ready ready' (sym (others a not) ∙ an) (sym (others b not') ∙ bn)))

differ-last : (ts : List Task) (os : List ℤ) (i : ℕ) (f : Task → Task) → Differ ts os → Differ (change i f ts) (put_last i os)
differ-last ts os i f differ =
    differ-set ts os (put_last i os) i f (λ j p not mine theirs. let above : p <ℤ p = last-above i j os p p theirs mine
    in omega (arith, ints)) (λ j not. last-else i j os not) differ

differ-first : (ts : List Task) (os : List ℤ) (i : ℕ) (f : Task → Task) → Differ ts os → Differ (change i f ts) (put_first i os)
differ-first ts os i f differ =
    differ-set ts os (put_first i os) i f (λ j p not mine theirs. let below : p <ℤ p = first-below i j os p p theirs mine
    in omega (arith, ints)) (λ j not. first-else i j os not) differ

module _ (y : System) where
  going-ready : (vars' : Variables) (ps : List Piece) (t : Task) → (going y.costs vars' ps t).readiness ≡ Ready → t.readiness ≡ Ready
  going-ready vars' ps t e = sym (ap (λ x. x.readiness) (going-is y.costs vars' ps t)) ∙ e

  abbrev After : Next → Type 0
  After n = Differ n.0.tasks n.0.orders

  release-differs : (k : ℕ) (s : State) → Differ s.tasks s.orders → After (release y k s)
  release-differs k s differ = by (slice_get s.tasks k)
    where
      by : (o : Option Task) → After (release_task y k o s)
      by None = differ
      by (Some t) = differ-last s.tasks s.orders k (released y.costs) differ

  serve-differs : (k : ℕ) (s : State) → Differ s.tasks s.orders → After (serve y k s)
  serve-differs k s differ = by (slice_get s.tasks k)
    where
      by : (o : Option Task) → After (serve_task y k o s)
      by None = differ
      by (Some t) = served (is_waiting t.readiness && t.gate.open')
        where
          served : (b : Bool) → After (if b then release y k s else (s, []))
          served true = release-differs k s differ
          served false = differ

  module _ (s : State) (differ : Differ s.tasks s.orders) where
    go-differs : (i : ℕ) (vars' : Variables) (ps : List Piece) → Differ (change i (going y.costs vars' ps) s.tasks) s.orders
    go-differs i vars' ps = differ-change s.tasks s.orders i (going y.costs vars' ps) (going-ready vars' ps) differ

    entry-differs : (i : ℕ) (t : Task) (section : Resource) (told : List Event) (vars' : Variables) (ps : List Piece)
        → After (entry y i t section told vars' ps s)
    entry-differs i t section told vars' ps = by (nat_lt (ceiling_of y section) t.active)
      where
        into : (x : Resource) → After (entered_at y i x told vars' ps s)
        into (Object object) =
            differ-first s.tasks s.orders i (λ u. going y.costs (lent (Object object) s vars') ps
            (inside_now (Object object) (ceiling_of y (Object object)) u)) differ
        into (Control task) = differ-first s.tasks s.orders i
            (λ u. going y.costs vars' ps (inside_now (Control task) (ceiling_of y (Control task)) u)) differ

        by : (b : Bool) → After (if b then stopped_at y t section s else entered_at y i section told vars' ps s)
        by true = differ
        by false = into section

    exit-differs : (i : ℕ) (vars' : Variables) (ps : List Piece)
        → Differ (change i (λ u. going y.costs vars' ps (outside_now u)) s.tasks) (put_first i s.orders)
    exit-differs i vars' ps = differ-first s.tasks s.orders i (λ u. going y.costs vars' ps (outside_now u)) differ

    never-ready : (vars' : Variables) (t : Task) → (ended vars' t).readiness ≡ Ready → t.readiness ≡ Ready
    never-ready vars' t e = absurd (by t.thread.timing e)
      where
        by : (x : ReleasePattern) → resting x t.next ≡ Ready → ⊥
        by (Periodic offset period) e' = cc
        by (Requested op ceiling separation jitter external) e' = cc

    acted-differs : (i : ℕ) (t : Task) (act : Act) (vars' : Variables) (ps : List Piece) → After (acted y i t act vars' ps s)
    acted-differs i t Silent vars' ps = go-differs i vars' ps
    acted-differs i t (Print v) vars' ps = go-differs i vars' ps
    acted-differs i t (Enter object op values) vars' ps =
        entry-differs i t (Object object) (event.Enter s.time t.thread.unit (object_unit y object) op values ∷ []) vars' ps
    acted-differs i t (Leave object op values data') vars' ps = exit-differs i vars' ps
    acted-differs i t (Ask task) vars' ps = entry-differs i t (Control task) [] vars' ps
    acted-differs i t (Keep task v) vars' ps =
        differ-change (change i (going y.costs vars' ps) s.tasks) s.orders task (λ u. record u { gate = record u.gate { value = v } }) (λ u e. e)
        (go-differs i vars' ps)
    acted-differs i t (Open task) vars' ps =
        differ-change (change i (going y.costs vars' ps) s.tasks) s.orders task (λ u. record u { gate = record u.gate { open' = true } }) (λ u e. e)
        (go-differs i vars' ps)
    acted-differs i t (Ended task v) vars' ps = serve-differs task (exit y i vars' ps s) (exit-differs i vars' ps)
    acted-differs i t Finish vars' ps =
        serve-differs i (record s { tasks = change i (ended vars') s.tasks })
        (differ-change s.tasks s.orders i (ended vars') (never-ready vars') differ)

    effect-differs : (ran : Option ℕ) → After (effect_step y ran s)
    effect-differs None = differ
    effect-differs (Some i) = at (slice_get s.tasks i)
      where
        at : (o : Option Task) → After (effect_at y i o s)
        at None = differ
        at (Some t) = piece t.pieces
          where
            piece : (ps : List Piece) → After (effect_of y i t ps s)
            piece [] = differ
            piece (p ∷ ps) = now (t.left == 0)
              where
                now : (b : Bool) → After (if b then acted y i t (done y p t.vars ps).act (done y p t.vars ps).vars
                    (done y p t.vars ps).pieces s else goes_to Delays s)
                now true = acted-differs i t (done y p t.vars ps).act (done y p t.vars ps).vars (done y p t.vars ps).pieces
                now false = differ

    delay-differs : (o : Option (ℕ × Task)) → After (delay_step y o s)
    delay-differs None = differ
    delay-differs (Some sleeper) = release-differs sleeper.0 s differ

    arrival-differs : (xs : List Arrival) → After (arrival_step y xs s)
    arrival-differs xs = by xs
      where
        horizon : (b : Bool) → After (if b then (record s { stopped = true }, event.Horizon s.time ∷ []) else goes_to Use s)
        horizon true = differ
        horizon false = differ

        arrive : (a : Arrival) (others : List Arrival) (o : Option (ℕ × Task)) → After (arrive_at y a o (record s { arrivals = others }))
        arrive a others None = differ
        arrive a others (Some t) =
            let opened : Task → Task = λ u. record u { gate = record { value = a.value; open' = true } } in
            serve-differs t.0 (record s { arrivals = others; tasks = change t.0 opened s.tasks })
            (differ-change s.tasks s.orders t.0 opened (λ u e. e) differ)

        by : (zs : List Arrival) → After (arrival_step y zs s)
        by [] = horizon (s.time == y.until)
        by (a ∷ others) = now (a.time == s.time)
          where
            now : (b : Bool) → After (if b then arrive_at y a (first_where (λ t. t.thread.unit == a.task) s.tasks)
                (record s { arrivals = others }) else horizon_step y s)
            now true = arrive a others (first_where (λ t. t.thread.unit == a.task) s.tasks)
            now false = horizon (s.time == y.until)

    use-differs : (o : Option ℕ) → After (use_step y o s)
    use-differs None = differ
    use-differs (Some i) = differ-change s.tasks s.orders i _ (λ u e. e) differ

    step-in-differs : (phase : Phase) → After (step_in phase y s)
    step-in-differs Effects = effect-differs s.ran
    step-in-differs Delays = delay-differs (first_where (λ t. is_due s.time t.readiness) s.tasks)
    step-in-differs Arriving = arrival-differs s.arrivals
    step-in-differs Use = use-differs (dispatched s.tasks s.orders)

    pub step-differs : After (step y s)
    step-differs = by s.stopped
      where
        by : (b : Bool) → After (if b then (s, []) else step_in s.phase y s)
        by true = differ
        by false = step-in-differs s.phase

  -- at the opening no task is ready
  pub opening-differs : (as' : List Arrival) → Differ (opening y as').tasks (opening y as').orders
  opening-differs as' i j t u o at bt ready ready' an bn = absurd (by (slice_get y.threads i) (sym (slice_get-map first_task y.threads i) ∙ at))
    where
      sleeps : (x : ReleasePattern) → first_wait x ≡ Ready → ⊥
      sleeps (Periodic offset period) e = cc
      sleeps (Requested op ceiling separation jitter external) e = cc

      by : (z : Option TaskUnit) → option_map first_task z ≡ Some t → ⊥
      by None e = none-some t e
      by (Some th) e = sleeps th.timing (ap (λ x. x.readiness) (same_Some (first_task th) t e) ∙ ready)

  pub run-differs : (n : ℕ) (s : State) → Differ s.tasks s.orders → Differ (run y n s).0.tasks (run y n s).0.orders
  run-differs zero s differ = differ
  run-differs (suc n) s differ = run-differs n (step y s).0 (step-differs s differ)
