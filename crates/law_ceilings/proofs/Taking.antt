-- A task takes a request from its control structure only while nobody is inside that.
use Rattle.std.specs.Prelude.{◌≡◌, ◌≤◌, ◌<◌, ◌&&◌, ℕ, Bool, true, false, nat_lt, List, [], ◌∷◌, drop, slice_get, Option, Some, None, option_map}
use Rattle.std.specs.Prelude.{unwrap_or, ◌==◌, if◌then◌else◌, refl}
use Rattle.std.proofs.Common.{sym, ◌∙◌, ap, subst, arith, inl}
use Rattle.std.proofs.lemmas.Option.{same_Some}
use Rattle.seq_tree.specs.Lists.{Each, change, first_where}
use Rattle.seq_tree.specs.Variables.{Variables}
use Rattle.arrivals_tree.specs.declared.arrivals.Arrival.{Arrival}
use Rattle.trace_tree.specs.declared.event.Event.TheVariants as event
use Rattle.machine.specs.Systems.{System, ReleasePattern, Periodic, Requested}
use Rattle.machine.specs.Pieces.{Piece}
use Rattle.machine.specs.Deeds.{Act, Silent, Print, Enter, Leave, Ask, Keep, Open, Ended, Finish, done}
use Rattle.machine.specs.States.{State, Task, Phase, Effects, Delays, Arriving, Use, Readiness, Asleep, Waiting, Ready, Resource, Object}
use Rattle.machine.specs.States.{Control, Held}
use Rattle.machine.specs.Effects.{ceiling_of, ceiling_by, stopped_at, entered_at, exit, ended, acted, object_unit, outside_now, outside_by}
use Rattle.machine.specs.Dispatch.{dispatched}
use Rattle.machine.specs.Releases.{Next, going, released, release_task, release, is_waiting, serve_task, serve}
use Rattle.machine.specs.Steps.{goes_to, effect_of, effect_at, effect_step, is_due, delay_step, horizon_step, arrive_at, arrival_step, use_step}
use Rattle.machine.specs.Steps.{step_in, step}
use Rattle.law_ceilings.proofs.Shared.Pieces.{closers, AreFit}
use Rattle.law_ceilings.specs.Sections.{Stands, sections, IsAmong, IsFree, TakesFree}
use Rattle.law_ceilings.proofs.Shared.Kept.{IsPeriodic, IsRequested, IsAtRest, IsKept, runner}
use Rattle.law_ceilings.specs.Premises.{IsElsewhere, IsCovered, MayExclude}
use Rattle.law_ceilings.proofs.Shared.Permissions.{Falls, AllFall}
use Rattle.law_ceilings.proofs.Shared.Excludes.{AreHeld, Excludes}
use Rattle.law_ceilings.proofs.Shared.Fitting.{ActFits, done-fits}
use Rattle.law_ceilings.proofs.Shared.Moves.{stacked-ceiling, among-inside}
use Rattle.law_ceilings.proofs.Shared.Keeping.{going-is}
use Rattle.law_ceilings.proofs.Shared.Passing.{Face, face, faces, faces-same, out_of, released-face, exit-faces}
use Rattle.law_ceilings.proofs.Shared.Excluding.{face-at, at-face, falls-text}
use Rattle.law_ceilings.proofs.Shared.Turning.{among-there}
use Rattle.law_lists.proofs.Shared.Facts.{first-where}
use Rattle.law_lists.proofs.Shared.Places.{changed}
use Rattle.law_lists.proofs.Shared.Lists.{each-drop}
use Rattle.std.proofs.lemmas.Bool.{false≢true}

-- free sections stay so where the faces are the same
free-same : (ts us : List Task) (section : Resource) → faces us ≡ faces ts → IsFree ts section → IsFree us section
free-same ts us section same free (j, u, at, among) =
    let found = face-at ts j (face u) (ap (λ fs. slice_get fs j) (sym same) ∙ at-face us j u at) in
    free (j, found.0, found.1, subst (λ f. IsAmong section f.1) (sym found.2) among)

periodic-requested : (t : ReleasePattern) → IsPeriodic t → IsRequested t → ⊥
periodic-requested (Periodic offset period) p q = q
periodic-requested (Requested op ceiling separation jitter external) p q = p

module _ (y : System) (as' : List Arrival) (ex : MayExclude y as') where
  -- what is told takes from free control structures alone
  abbrev pub Takes : Next → Type 0
  Takes n = Each (TakesFree n.0.tasks) n.1

  -- tasks that are written at their places
  abbrev pub AreThere : List Task → Type 0
  AreThere ts = (i : ℕ) (t : Task) → Stands ts i t → slice_get y.threads i ≡ Some t.thread

  there-same : (ts us : List Task) (i : ℕ) (f : Task → Task) → us ≡ change i f ts → ((t : Task) → (f t).thread ≡ t.thread) → AreThere ts → AreThere us
  there-same ts us i f is same there j u at =
      changed i j f ts u (subst (λ xs. slice_get xs j ≡ Some u) is at)
      (λ t place at' e. subst (λ k. slice_get y.threads k ≡ Some u.thread) (sym place)
      (there i t at' ∙ ap Some (sym (ap (λ x. x.thread) e ∙ same t))))
      (λ not at'. there j u at')

  exit-thread : (vars' : Variables) (ps : List Piece) (t : Task) → (going y.costs vars' ps (outside_now t)).thread ≡ t.thread
  exit-thread vars' ps t = ap (λ x. x.thread) (going-is y.costs vars' ps (outside_now t)) ∙ out t.inside
    where
      out : (hs : List Held) → (outside_by hs t).thread ≡ t.thread
      out [] = refl
      out (h ∷ hs) = refl

  release-takes : (k : ℕ) (s : State) → AreThere s.tasks → IsFree s.tasks (Control k) → Takes (release y k s)
  release-takes k s there free = by (slice_get s.tasks k) refl
    where
      by : (o : Option Task) → slice_get s.tasks k ≡ o → Takes (release_task y k o s)
      by None e = tt
      by (Some t) e = (takes, tt)
        where
          same : faces (change k (released y.costs) s.tasks) ≡ faces s.tasks
          same = faces-same k (released y.costs) s.tasks (released-face y.costs)

          takes : (j : ℕ) (u : Task) → Stands (change k (released y.costs) s.tasks) j u → u.thread.unit ≡ t.thread.unit
              → IsFree (change k (released y.costs) s.tasks) (Control j)
          takes j u at unit =
              let found = face-at s.tasks j (face u) (ap (λ fs. slice_get fs j) (sym same) ∙ at-face (change k (released y.costs) s.tasks) j u at) in
              let one : j ≡ k = ex.units j k found.0.thread t.thread (there j found.0 found.1) (there k t e) (ap (λ f. f.0) found.2 ∙ unit) in
              subst (λ m. IsFree (change k (released y.costs) s.tasks) (Control m)) (sym one)
              (free-same s.tasks (change k (released y.costs) s.tasks) (Control k) same free)

  serve-takes : (k : ℕ) (s : State) → AreThere s.tasks → IsFree s.tasks (Control k) → Takes (serve y k s)
  serve-takes k s there free = by (slice_get s.tasks k)
    where
      by : (o : Option Task) → Takes (serve_task y k o s)
      by None = tt
      by (Some t) = served (is_waiting t.readiness && t.gate.open')
        where
          served : (b : Bool) → Takes (if b then release y k s else (s, []))
          served true = release-takes k s there free
          served false = tt

  module _ (s : State) (x : Excludes y as' ex.ranking s) where
    there : AreThere s.tasks
    there i t at = (x.keeps.sound i t at).written

    -- a task whose control structure somebody is inside is released at requests, and gets no arrivals
    inside-there : (k j : ℕ) (t u : Task) → Stands s.tasks k t → Stands s.tasks j u → IsAmong (Control k) (sections u)
        → IsRequested t.thread.timing × Each (IsElsewhere y k) as'
    inside-there k j t u at au among =
        let is = among-there y as' (Control k) (sections u) (x.held j u au) among in
        let same : t.thread ≡ is.0 = same_Some t.thread is.0 (sym (there k t at) ∙ is.1) in
        (subst (λ th. IsRequested th.timing) (sym same) is.2, is.3)

    module _ (i : ℕ) (t : Task) (stands : Stands s.tasks i t) (kept : IsKept y (AllFall ex.ranking) (Some i) s.tasks s.orders)
        (closes : closers t.pieces ≡ sections t) where
      left-free : (k : ℕ) (vars' : Variables) (ps : List Piece) → closers t.pieces ≡ Control k ∷ closers ps
          → IsFree (exit y i vars' ps s).tasks (Control k)
      left-free k vars' ps act (j, u, at, among) =
          changed i j out_of (faces s.tasks) (face u)
          (ap (λ fs. slice_get fs j) (sym (exit-faces y i vars' ps s.tasks)) ∙ at-face (exit y i vars' ps s).tasks j u at)
          (λ f is at' e. mine f at' (subst (λ g. IsAmong (Control k) g.1) e among))
          (λ not at'. let found = face-at s.tasks j (face u) at'
          in not (x.keeps.alone j i found.0 t (Control k) found.1 stands (subst (λ g. IsAmong (Control k) g.1) (sym found.2) among) inside))
        where
          inside : IsAmong (Control k) (sections t)
          inside = subst (IsAmong (Control k)) (sym (sym closes ∙ act)) (inl refl)

          mine : (f : Face) → slice_get (faces s.tasks) i ≡ Some f → IsAmong (Control k) (drop 1 f.1) → ⊥
          mine f at' a =
              let same : face t ≡ f = same_Some (face t) f (sym (at-face s.tasks i t stands) ∙ at') in
              let once : AreHeld y as' (Control k ∷ closers ps) = subst (AreHeld y as') (sym closes ∙ act) (x.held i t stands) in
              once.0 (subst (λ ss. IsAmong (Control k) (drop 1 ss)) (sym closes ∙ act) (subst (λ g. IsAmong (Control k) (drop 1 g.1)) (sym same) a))

      -- nobody is inside the control structure of the runner
      own-free : sections t ≡ [] → IsFree s.tasks (Control i)
      own-free nothing (j, u, at, among) = by (j == i) refl
        where
          by : (b : Bool) → (j == i) ≡ b → ⊥
          by true is =
              let same : j ≡ i = grind arith in
              let t-is : u ≡ t = same_Some u t (sym at ∙ subst (λ k. Stands s.tasks k t) (sym same) stands) in
              subst (IsAmong (Control i)) nothing (subst (λ v. IsAmong (Control i) (sections v)) t-is among)
          by false is =
              let other : i ≡ j → ⊥ = λ h. grind arith in
              let inside = among-inside (Control i) u.inside among in
              let below : u.active < t.thread.priority = kept.runs i j t u inside.0 inside.1 refl stands at other inside.2 in
              let held : ceiling_of y (Control i) ≤ u.active
              = stacked-ceiling y u.thread.priority u.active u.inside (Control i) (kept.sound j u at).stacked among in
              let written : slice_get y.threads i ≡ Some t.thread = there i t stands in
              let ceiling : ceiling_of y (Control i) ≡ ceiling_by t.thread.timing
              = ap (λ o. unwrap_or (option_map (λ th. ceiling_by th.timing) o) 0) written in
              covers t.thread.timing (inside-there i j t u stands at among).0 (ex.covered i t.thread written)
              (let top : ceiling_by t.thread.timing < t.thread.priority = omega arith in top)
            where
              covers : (timing : ReleasePattern) → IsRequested timing → IsCovered t.thread.priority timing → ceiling_by timing < t.thread.priority → ⊥
              covers (Periodic offset period) asked covered low = asked
              covers (Requested op ceiling separation jitter external) asked covered low = omega arith

      acted-takes : (act : Act) (vars' : Variables) (ps : List Piece) → ActFits y (Falls ex.ranking) (closers t.pieces) act ps
          → Takes (acted y i t act vars' ps s)
      acted-takes Silent vars' ps act = tt
      acted-takes (Print v) vars' ps act = (tt, tt)
      acted-takes (Enter object op values) vars' ps act = by (nat_lt (ceiling_of y (Object object)) t.active)
        where
          by : (b : Bool) → Takes (if b then stopped_at y t (Object object) s else entered_at y i (Object object)
              (event.Enter s.time t.thread.unit (object_unit y object) op values ∷ []) vars' ps s)
          by true = (tt, tt)
          by false = (tt, tt)
      acted-takes (Leave object op values data') vars' ps act = (tt, tt)
      acted-takes (Ask task) vars' ps act = by (nat_lt (ceiling_of y (Control task)) t.active)
        where
          by : (b : Bool) → Takes (if b then stopped_at y t (Control task) s else entered_at y i (Control task) [] vars' ps s)
          by true = (tt, tt)
          by false = tt
      acted-takes (Keep task v) vars' ps act = tt
      acted-takes (Open task) vars' ps act = tt
      acted-takes (Ended task v) vars' ps act = (
        tt,
        serve-takes task (exit y i vars' ps s) (there-same s.tasks (exit y i vars' ps s).tasks i (λ u. going y.costs vars' ps (outside_now u)) refl
            (λ u. exit-thread vars' ps u) there)
            (left-free task vars' ps act),
      )
      acted-takes Finish vars' ps act = (
        tt,
        serve-takes i (record s { tasks = change i (ended vars') s.tasks })
            (there-same s.tasks (change i (ended vars') s.tasks) i (ended vars') refl (λ u. refl) there)
            (free-same s.tasks (change i (ended vars') s.tasks) (Control i) (faces-same i (ended vars') s.tasks (λ u. refl))
            (own-free (sym closes ∙ act.0))),
      )

    effect-takes : s.phase ≡ Effects → Takes (effect_step y s.ran s)
    effect-takes effects = by s.ran refl
      where
        by : (ran : Option ℕ) → s.ran ≡ ran → Takes (effect_step y ran s)
        by None e = tt
        by (Some i) e = at (slice_get s.tasks i) refl
          where
            kept : IsKept y (AllFall ex.ranking) (Some i) s.tasks s.orders
            kept = subst (λ r. IsKept y (AllFall ex.ranking) r s.tasks s.orders) (ap (λ p. runner p s.ran) effects ∙ e) x.keeps

            at : (o : Option Task) → slice_get s.tasks i ≡ o → Takes (effect_at y i o s)
            at None f = tt
            at (Some t) f = piece t.pieces refl
              where
                piece : (ps : List Piece) → t.pieces ≡ ps → Takes (effect_of y i t ps s)
                piece [] g = tt
                piece (p ∷ ps) g = now (t.left == 0)
                  where
                    now : (b : Bool) → Takes (if b then acted y i t (done y p t.vars ps).act (done y p t.vars ps).vars
                        (done y p t.vars ps).pieces s else goes_to Delays s)
                    now true =
                        let sound = x.keeps.sound i t f in
                        let d = done-fits y (Falls ex.ranking) ((falls-text y as' ex).closed i) p t.vars ps
                        (subst (AreFit (Falls ex.ranking)) g sound.fits) in
                        acted-takes i t f kept sound.closes (done y p t.vars ps).act (done y p t.vars ps).vars (done y p t.vars ps).pieces
                        (subst (λ xs. ActFits y (Falls ex.ranking) (closers xs) (done y p t.vars ps).act (done y p t.vars ps).pieces) (sym g) d.1)
                    now false = tt

    delay-takes : Takes (delay_step y (first_where (λ t. is_due s.time t.readiness) s.tasks) s)
    delay-takes = by (first_where (λ t. is_due s.time t.readiness) s.tasks) refl
      where
        by : (o : Option (ℕ × Task)) → first_where (λ t. is_due s.time t.readiness) s.tasks ≡ o → Takes (delay_step y o s)
        by None e = tt
        by (Some sleeper) e =
            let found = first-where (λ t. is_due s.time t.readiness) s.tasks sleeper.0 sleeper.1 e in
            release-takes sleeper.0 s there (λ held.
            periodic-requested sleeper.1.thread.timing (sleeps sleeper.1 (x.keeps.sound sleeper.0 sleeper.1 found.0).rests found.1)
            (inside-there sleeper.0 held.0 sleeper.1 held.1 found.0 held.2 held.3).0)
          where
            sleeps : (t : Task) → IsAtRest t.readiness t → is_due s.time t.readiness ≡ true → IsPeriodic t.thread.timing
            sleeps t rests due = go t.readiness rests due
              where
                go : (r : Readiness) → IsAtRest r t → is_due s.time r ≡ true → IsPeriodic t.thread.timing
                go Ready h d = absurd (false≢true d)
                go Waiting h d = absurd (false≢true d)
                go (Asleep until) h d = h.2

    arrival-takes : Takes (arrival_step y s.arrivals s)
    arrival-takes = by s.arrivals refl
      where
        horizon : (b : Bool) → Takes (if b then (record s { stopped = true }, event.Horizon s.time ∷ []) else goes_to Use s)
        horizon true = (tt, tt)
        horizon false = tt

        by : (xs : List Arrival) → s.arrivals ≡ xs → Takes (arrival_step y xs s)
        by [] e = horizon (s.time == y.until)
        by (a ∷ others) e = now (a.time == s.time)
          where
            elsewhere : (k : ℕ) → Each (IsElsewhere y k) as' → IsElsewhere y k a
            elsewhere k each = let each' : Each (IsElsewhere y k) (a ∷ others)
                = subst (Each (IsElsewhere y k)) (sym x.left ∙ e) (each-drop (IsElsewhere y k) x.past as' each) in each'.0

            arrive : (o : Option (ℕ × Task)) → first_where (λ t. t.thread.unit == a.task) s.tasks ≡ o
                → Takes (arrive_at y a o (record s { arrivals = others }))
            arrive None f = tt
            arrive (Some t) f =
                let found = first-where (λ z. z.thread.unit == a.task) s.tasks t.0 t.1 f in
                let unit : t.1.thread.unit ≡ a.task = same-unit t.1.thread.unit a.task found.1 in
                let opened : Task → Task = λ u. record u { gate = record { value = a.value; open' = true } } in
                let ts : List Task = change t.0 opened s.tasks in (
                  tt,
                  serve-takes t.0 (record s { arrivals = others; tasks = ts }) (there-same s.tasks ts t.0 opened refl (λ u. refl) there)
                      (free-same s.tasks ts (Control t.0) (faces-same t.0 opened s.tasks (λ u. refl))
                      (λ held. elsewhere t.0 (inside-there t.0 held.0 t.1 held.1 found.0 held.2 held.3).1 t.1.thread (there t.0 t.1 found.0) unit)),
                )
              where
                same-unit : (m n : ℕ) → (m == n) ≡ true → m ≡ n
                same-unit m n h = grind arith

            now : (b : Bool) → Takes (if b then arrive_at y a (first_where (λ t. t.thread.unit == a.task) s.tasks)
                (record s { arrivals = others }) else horizon_step y s)
            now true = arrive (first_where (λ t. t.thread.unit == a.task) s.tasks) refl
            now false = horizon (s.time == y.until)

    use-takes : (o : Option ℕ) → Takes (use_step y o s)
    use-takes None = tt
    use-takes (Some i) = tt

    step-in-takes : (phase : Phase) → s.phase ≡ phase → Takes (step_in phase y s)
    step-in-takes Effects e = effect-takes e
    step-in-takes Delays e = delay-takes
    step-in-takes Arriving e = arrival-takes
    step-in-takes Use e = use-takes (dispatched s.tasks s.orders)

    -- each release that a step tells takes from a control structure which nobody is inside after the step
    pub step-takes-free : Takes (step y s)
    step-takes-free = by s.stopped
      where
        by : (b : Bool) → Takes (if b then (s, []) else step_in s.phase y s)
        by true = tt
        by false = step-in-takes s.phase refl
