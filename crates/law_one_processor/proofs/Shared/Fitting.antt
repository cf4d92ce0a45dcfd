-- Each step of the processor keeps the accounts of its tasks, so the events of a run fit one processor.
-- A claim at a state, with the events from there on, is carried back over the step before it, from the stop of the run to its opening.
use Rattle.std.specs.Prelude.{◌≡◌, ℕ, zero, suc, ◌+◌, ◌-◌, Bool, true, false, ◌&&◌, ◌==◌, nat_lt, List, [], ◌∷◌, ◌++◌, map, slice_get, Option, Some, None}
use Rattle.std.specs.Prelude.{if◌then◌else◌, refl}
use Rattle.std.proofs.Common.{sym, ◌∙◌, subst}
use Rattle.std.proofs.lemmas.Bool.{and_parts}
use Rattle.seq_tree.specs.Lists.{change, first_where}
use Rattle.seq_tree.specs.Variables.{Variables}
use Rattle.seq_tree.specs.declared.tree.Costs.{Costs}
use Rattle.arrivals_tree.specs.declared.arrivals.Arrival.{Arrival}
use Rattle.trace_tree.specs.declared.event.Event.{Event}
use Rattle.trace_tree.specs.declared.event.Event.TheVariants as event
use Rattle.machine.specs.Systems.{System, ReleasePattern, Periodic, Requested}
use Rattle.machine.specs.Pieces.{Piece, Finishing, pieces}
use Rattle.machine.specs.Deeds.{Act, Silent, Print, Enter, Leave, Ask, Keep, Open, Ended as Served, Finish, done}
use Rattle.machine.specs.States.{State, Task, Phase, Effects, Delays, Arriving, Use, Readiness, Asleep, Waiting, Ready, Resource, Object, Control, Held}
use Rattle.machine.specs.States.{shut}
use Rattle.machine.specs.Dispatch.{dispatched}
use Rattle.machine.specs.Releases.{Next, going, next_time, parameter, released, release_task, release, is_waiting, serve_task, serve}
use Rattle.machine.specs.Effects.{ceiling_of, inside_now, outside_by, outside_now, lent, stopped_at, entered_at, entry, exit}
use Rattle.machine.specs.Effects.{ended, resting, acted}
use Rattle.machine.specs.Steps.{goes_to, effect_of, effect_at, effect_step, is_due, delay_step, horizon_step, arrive_at, arrival_step, use_step}
use Rattle.machine.specs.Steps.{step_in, step}
use Rattle.machine.specs.Meanings.{run}
use Rattle.law_lists.proofs.Shared.Facts.{first-where}
use Rattle.law_lists.proofs.Shared.Places.{map-at, map-changed, map-kept, same-item}
use Rattle.law_one_processor.specs.Demand.{Ended, FitOneProcessor}
use Rattle.law_one_processor.specs.Activations.{ended_by}
use Rattle.law_one_processor.proofs.Shared.Accounts.{Account, opened, closed, ticked, NextEnds, Owes, AreApart, owes-nothing, owes-idle, owes-tick}
use Rattle.law_one_processor.proofs.Shared.Accounts.{owes-release, owes-end}

-- the next ends and the activations of the events of a run, by which units count as one
abbrev pub next_by : (ℕ → ℕ → Bool) → List Event → NextEnds
next_by alike [] unit = None
next_by alike (event.End time task used ∷ told) unit = if alike task unit then Some (time, used) else next_by alike told unit
next_by alike (_ ∷ told) unit = next_by alike told unit

abbrev pub ends_by : (ℕ → ℕ → Bool) → List Event → List Ended
ends_by alike [] = []
ends_by alike (event.Release time task value ∷ told) = ended_by time (next_by alike told task) ++ ends_by alike told
ends_by alike (_ ∷ told) = ends_by alike told

-- the account of a task
abbrev pub is_ready : Readiness → Bool
is_ready Ready = true
is_ready Waiting = false
is_ready (Asleep until) = false

abbrev pub account : Task → Account
account t = record { unit = t.thread.unit; runs = is_ready t.readiness; used = t.used }

abbrev pub accounts : List Task → List Account
accounts ts = map account ts

-- what a change of a task does to its account
going-account : (costs : Costs) (vars : Variables) (ps : List Piece) (t : Task) → account (going costs vars ps t) ≡ account t
going-account costs vars [] t = refl
going-account costs vars (p ∷ ps) t = refl

outside-account : (t : Task) → account (outside_now t) ≡ account t
outside-account t = by t.inside
  where
    by : (hs : List Held) → account (outside_by hs t) ≡ account t
    by [] = refl
    by (h ∷ hs) = refl

released-account : (costs : Costs) (t : Task) → account (released costs t) ≡ opened (account t)
released-account costs t =
    going-account costs (parameter t.thread.timing t.gate.value ++ t.vars) (pieces t.thread.block (Finishing ∷ []))
    (record t { readiness = Ready; next = next_time t.thread.timing t.next; used = 0; gate = shut })

ended-account : (vars : Variables) (t : Task) → account (ended vars t) ≡ closed (account t)
ended-account vars t = by t.thread.timing
  where
    by : (timing : ReleasePattern) → (let c : Account = record { unit = t.thread.unit; runs = is_ready (resting timing t.next); used = t.used } in c)
        ≡ closed (account t)
    by (Periodic offset period) = refl
    by (Requested op ceiling separation jitter external) = refl

-- a task that is due or waits isn't ready
due-rests : (time : ℕ) (r : Readiness) → is_due time r ≡ true → is_ready r ≡ false
due-rests time (Asleep until) e = refl
due-rests time Waiting e = refl
due-rests time Ready e = sym e

waiting-rests : (r : Readiness) → is_waiting r ≡ true → is_ready r ≡ false
waiting-rests (Asleep until) e = refl
waiting-rests Waiting e = refl
waiting-rests Ready e = sym e

module _ (alike : ℕ → ℕ → Bool) (alike-self : (unit : ℕ) → alike unit unit ≡ true) where
  -- units that don't count as one
  abbrev pub Separate : List Account → Type 0
  Separate cs = AreApart alike alike-self (map (λ c. c.unit) cs)

  -- what is claimed at a time of accounts, with the events from there on
  abbrev Claims : ℕ → List Account → List Event → Type 0
  Claims now cs told = Separate cs → Owes now cs (next_by alike told) (ends_by alike told)

  abbrev Holds : State → List Event → Type 0
  Holds s told = Claims s.time (accounts s.tasks) told

  -- a claim behind a step holds before it
  abbrev Carries : State → Next → Type 0
  Carries s n = (more : List Event) → Holds n.0 more → Holds s (n.1 ++ more)

  same-claims : (now : ℕ) (cs ds : List Account) (told : List Event) → ds ≡ cs → Claims now ds told → Claims now cs told
  same-claims now cs ds told same h = subst (λ x. Claims now x told) same h

  changed-owes : (now i : ℕ) (f : Account → Account) (cs : List Account) (told : List Event) → ((c : Account) → (f c).unit ≡ c.unit)
      → Claims now (change i f cs) told → Separate cs → Owes now (change i f cs) (next_by alike told) (ends_by alike told)
  changed-owes now i f cs told keeps h apart =
      h (subst (AreApart alike alike-self) (sym (map-kept (λ c. c.unit) i f cs keeps)) apart)

  -- a release of a task that isn't ready
  release-carries : (y : System) (i : ℕ) (s : State) → ((t : Task) → slice_get s.tasks i ≡ Some t → is_ready t.readiness ≡ false)
      → Carries s (release y i s)
  release-carries y i s rests = by (slice_get s.tasks i) refl
    where
      by : (o : Option Task) → slice_get s.tasks i ≡ o → Carries s (release_task y i o s)
      by None at = λ more h. h
      by (Some t) at = λ more h apart.
          let opens = map-changed account i (released y.costs) opened s.tasks (released-account y.costs) in
          owes-release s.time i (accounts s.tasks) (account t) (next_by alike more) (ends_by alike more) (map-at account s.tasks i t at) (rests t at)
          (changed-owes s.time i opened (accounts s.tasks) more (λ c. refl) (subst (λ x. Claims s.time x more) opens h) apart)

  serve-carries : (y : System) (i : ℕ) (s : State) → Carries s (serve y i s)
  serve-carries y i s = by (slice_get s.tasks i) refl
    where
      by : (o : Option Task) → slice_get s.tasks i ≡ o → Carries s (serve_task y i o s)
      by None at = λ more h. h
      by (Some t) at = served (is_waiting t.readiness && t.gate.open') refl
        where
          rests : is_waiting t.readiness ≡ true → (u : Task) → slice_get s.tasks i ≡ Some u → is_ready u.readiness ≡ false
          rests waits u there =
              subst (λ x. is_ready x.readiness ≡ false) (same-item (slice_get s.tasks i) t u at there) (waiting-rests t.readiness waits)

          served : (b : Bool) → (is_waiting t.readiness && t.gate.open') ≡ b → Carries s (if b then release y i s else (s, []))
          served true e = release-carries y i s (rests (and_parts (is_waiting t.readiness) t.gate.open' e).0)
          served false e = λ more h. h

  -- the entry of a section
  entered-carries : (y : System) (i : ℕ) (section : Resource) (told : List Event) (vars : Variables) (ps : List Piece) (s : State)
      → ((more : List Event) → Holds s more → Holds s (told ++ more)) → Carries s (entered_at y i section told vars ps s)
  entered-carries y i (Object object) told vars ps s unheard more h =
      unheard more
      (same-claims s.time (accounts s.tasks) _ more
      (map-kept account i (λ u. going y.costs (lent (Object object) s vars) ps (inside_now (Object object) (ceiling_of y (Object object)) u)) s.tasks
      (λ u. going-account y.costs (lent (Object object) s vars) ps (inside_now (Object object) (ceiling_of y (Object object)) u)))
      h)
  entered-carries y i (Control task) told vars ps s unheard more h =
      unheard more
      (same-claims s.time (accounts s.tasks) _ more
      (map-kept account i (λ u. going y.costs vars ps (inside_now (Control task) (ceiling_of y (Control task)) u)) s.tasks
      (λ u. going-account y.costs vars ps (inside_now (Control task) (ceiling_of y (Control task)) u)))
      h)

  entry-carries : (y : System) (i : ℕ) (t : Task) (section : Resource) (told : List Event) (vars : Variables) (ps : List Piece) (s : State)
      → ((more : List Event) → Holds s more → Holds s (told ++ more)) → Carries s (entry y i t section told vars ps s)
  entry-carries y i t section told vars ps s unheard = by (nat_lt (ceiling_of y section) t.active)
    where
      by : (b : Bool) → Carries s (if b then stopped_at y t section s else entered_at y i section told vars ps s)
      by true = λ more h. h
      by false = entered-carries y i section told vars ps s unheard

  go-accounts : (y : System) (i : ℕ) (vars : Variables) (ps : List Piece) (ts : List Task)
      → accounts (change i (going y.costs vars ps) ts) ≡ accounts ts
  go-accounts y i vars ps ts = map-kept account i (going y.costs vars ps) ts (going-account y.costs vars ps)

  exit-accounts : (y : System) (i : ℕ) (vars : Variables) (ps : List Piece) (ts : List Task)
      → accounts (change i (λ u. going y.costs vars ps (outside_now u)) ts) ≡ accounts ts
  exit-accounts y i vars ps ts =
      map-kept account i (λ u. going y.costs vars ps (outside_now u)) ts (λ u. going-account y.costs vars ps (outside_now u) ∙ outside-account u)

  -- what the running task does
  acted-carries : (y : System) (i : ℕ) (t : Task) (act : Act) (vars : Variables) (ps : List Piece) (s : State) → slice_get s.tasks i ≡ Some t
      → Carries s (acted y i t act vars ps s)
  acted-carries y i t Silent vars ps s at = λ more h. same-claims s.time (accounts s.tasks) _ more (go-accounts y i vars ps s.tasks) h
  acted-carries y i t (Print v) vars ps s at = λ more h. same-claims s.time (accounts s.tasks) _ more (go-accounts y i vars ps s.tasks) h
  acted-carries y i t (Enter object op values) vars ps s at = entry-carries y i t (Object object) _ vars ps s (λ more h. h)
  acted-carries y i t (Leave object op values data') vars ps s at = λ more h.
      same-claims s.time (accounts s.tasks) _ more (exit-accounts y i vars ps s.tasks) h
  acted-carries y i t (Ask task) vars ps s at = entry-carries y i t (Control task) [] vars ps s (λ more h. h)
  acted-carries y i t (Keep task v) vars ps s at = λ more h.
      same-claims s.time (accounts s.tasks) _ more
      (map-kept account task (λ u. record u { gate = record u.gate { value = v } }) (change i (going y.costs vars ps) s.tasks) (λ u. refl)
      ∙ go-accounts y i vars ps s.tasks)
      h
  acted-carries y i t (Open task) vars ps s at = λ more h.
      same-claims s.time (accounts s.tasks) _ more
      (map-kept account task (λ u. record u { gate = record u.gate { open' = true } }) (change i (going y.costs vars ps) s.tasks) (λ u. refl)
      ∙ go-accounts y i vars ps s.tasks)
      h
  acted-carries y i t (Served task v) vars ps s at = λ more h.
      same-claims s.time (accounts s.tasks) _ ((serve y task (exit y i vars ps s)).1 ++ more) (exit-accounts y i vars ps s.tasks)
      (serve-carries y task (exit y i vars ps s) more h)
  acted-carries y i t Finish vars ps s at = λ more h apart.
      let s' : State = record s { tasks = change i (ended vars) s.tasks } in
      let told : List Event = (serve y i s').1 ++ more in
      let closes = map-changed account i (ended vars) closed s.tasks (ended-account vars) in
      let served : Claims s.time (accounts (change i (ended vars) s.tasks)) told = serve-carries y i s' more h in
      owes-end alike alike-self s.time i (accounts s.tasks) (account t) (next_by alike told) (ends_by alike told) apart (map-at account s.tasks i t at)
      (changed-owes s.time i closed (accounts s.tasks) told (λ c. refl) (subst (λ x. Claims s.time x told) closes served) apart)

  effect-carries : (y : System) (o : Option ℕ) (s : State) → Carries s (effect_step y o s)
  effect-carries y None s = λ more h. h
  effect-carries y (Some i) s = by (slice_get s.tasks i) refl
    where
      by : (o : Option Task) → slice_get s.tasks i ≡ o → Carries s (effect_at y i o s)
      by None at = λ more h. h
      by (Some t) at = pieced t.pieces
        where
          pieced : (qs : List Piece) → Carries s (effect_of y i t qs s)
          pieced [] = λ more h. h
          pieced (p ∷ ps) = acting (t.left == 0)
            where
              acting : (b : Bool) → Carries s
                  (if b then acted y i t (done y p t.vars ps).act (done y p t.vars ps).vars (done y p t.vars ps).pieces s else goes_to Delays s)
              acting true = acted-carries y i t (done y p t.vars ps).act (done y p t.vars ps).vars (done y p t.vars ps).pieces s at
              acting false = λ more h. h

  delay-carries : (y : System) (s : State) → Carries s (delay_step y (first_where (λ t. is_due s.time t.readiness) s.tasks) s)
  delay-carries y s = by (first_where (λ t. is_due s.time t.readiness) s.tasks) refl
    where
      by : (o : Option (ℕ × Task)) → first_where (λ t. is_due s.time t.readiness) s.tasks ≡ o → Carries s (delay_step y o s)
      by None e = λ more h. h
      by (Some sleeper) e = release-carries y sleeper.0 s rests
        where
          rests : (u : Task) → slice_get s.tasks sleeper.0 ≡ Some u → is_ready u.readiness ≡ false
          rests u there =
              let found = first-where (λ t. is_due s.time t.readiness) s.tasks sleeper.0 sleeper.1 e in
              subst (λ x. is_ready x.readiness ≡ false) (same-item (slice_get s.tasks sleeper.0) sleeper.1 u found.0 there)
              (due-rests s.time sleeper.1.readiness found.1)

  horizon-carries : (y : System) (s : State) → Carries s (horizon_step y s)
  horizon-carries y s = by (s.time == y.until)
    where
      by : (b : Bool) → Carries s (if b then (record s { stopped = true }, event.Horizon s.time ∷ []) else goes_to Use s)
      by true more h = h
      by false more h = h

  arrive-carries : (y : System) (a : Arrival) (o : Option (ℕ × Task)) (s : State) → Carries s (arrive_at y a o s)
  arrive-carries y a None s more h = h
  arrive-carries y a (Some t) s more h =
      let s' : State = record s { tasks = change t.0 (λ u. record u { gate = record { value = a.value; open' = true } }) s.tasks } in
      same-claims s.time (accounts s.tasks) _ ((serve y t.0 s').1 ++ more)
      (map-kept account t.0 (λ u. record u { gate = record { value = a.value; open' = true } }) s.tasks (λ u. refl)) (serve-carries y t.0 s' more h)

  arrival-carries : (y : System) (as' : List Arrival) (s : State) → Carries s (arrival_step y as' s)
  arrival-carries y [] s = horizon-carries y s
  arrival-carries y (a ∷ others) s = by (a.time == s.time)
    where
      by : (b : Bool) → Carries s
          (if b then arrive_at y a (first_where (λ t. t.thread.unit == a.task) s.tasks) (record s { arrivals = others }) else horizon_step y s)
      by true = arrive-carries y a (first_where (λ t. t.thread.unit == a.task) s.tasks) (record s { arrivals = others })
      by false = horizon-carries y s

  use-carries : (y : System) (o : Option ℕ) (s : State) → Carries s (use_step y o s)
  use-carries y None s more h apart = owes-idle s.time (accounts s.tasks) (next_by alike more) (ends_by alike more) (h apart)
  use-carries y (Some i) s more h apart =
      let ticks = map-changed account i (λ t. record t { left = t.left - 1; used = t.used + 1 }) ticked s.tasks (λ t. refl) in
      owes-tick s.time i (accounts s.tasks) (next_by alike more) (ends_by alike more)
      (changed-owes (s.time + 1) i ticked (accounts s.tasks) more (λ c. refl) (subst (λ x. Claims (s.time + 1) x more) ticks h) apart)

  -- each step
  step-carries : (y : System) (s : State) → Carries s (step y s)
  step-carries y s = by s.stopped
    where
      phased : (phase : Phase) → Carries s (step_in phase y s)
      phased Effects = effect-carries y s.ran s
      phased Delays = delay-carries y s
      phased Arriving = arrival-carries y s.arrivals s
      phased Use = use-carries y (dispatched s.tasks s.orders) s

      by : (b : Bool) → Carries s (if b then (s, []) else step_in s.phase y s)
      by true = λ more h. h
      by false = phased s.phase

  -- so many steps
  pub run-owes : (y : System) (n : ℕ) (s : State) → Holds s (run y n s).1
  run-owes y zero s = λ apart. owes-nothing s.time (accounts s.tasks)
  run-owes y (suc n) s = step-carries y s (run y n (step y s).0).1 (run-owes y n (step y s).0)

  -- their events fit one processor
  pub run-fits : (y : System) (n : ℕ) (s : State) → Separate (accounts s.tasks) → FitOneProcessor (ends_by alike (run y n s).1)
  run-fits y n s apart a b h = (run-owes y n s apart).fit a b
