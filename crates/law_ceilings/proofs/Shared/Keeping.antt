-- The opening has what the processor keeps, and each step keeps it.
use Rattle.std.specs.Prelude.{◌≡◌, ◌⊎◌, ◌≤◌, ◌<◌, ◌≤ℤ◌, ◌<ℤ◌, ◌+◌, ◌-◌, ◌&&◌, ◌++◌, ℕ, Bool, true, false, nat_lt, List, [], ◌∷◌, map, slice_get}
use Rattle.std.specs.Prelude.{Option, Some, None, option_map, ℤ, ◌==◌, if◌then◌else◌, refl}
use Rattle.std.proofs.Common.{sym, ◌∙◌, ap, subst, arith, inl, inr}
use Rattle.std.proofs.lemmas.List.{length-replicate, length-map}
use Rattle.std.proofs.lemmas.Option.{none-some, same_Some, slice_get-map}
use Rattle.std.proofs.lemmas.Int.{ints}
use Rattle.seq_tree.specs.Lists.{change, first_where}
use Rattle.seq_tree.specs.Variables.{Variables}
use Rattle.seq_tree.specs.declared.tree.Costs.{Costs}
use Rattle.arrivals_tree.specs.declared.arrivals.Arrival.{Arrival}
use Rattle.trace_tree.specs.declared.event.Event.{Event}
use Rattle.trace_tree.specs.declared.event.Event.TheVariants as event
use Rattle.machine.specs.Systems.{System, TaskUnit, ReleasePattern, Periodic, Requested}
use Rattle.machine.specs.Pieces.{Piece, Finishing, pieces, ticks_of, works_of}
use Rattle.machine.specs.Deeds.{Act, Silent, Print, Enter, Leave, Ask, Keep, Open, Ended, Finish, done}
use Rattle.machine.specs.States.{State, Task, Phase, Effects, Delays, Arriving, Use, Readiness, Asleep, Waiting, Ready, Resource, Object}
use Rattle.machine.specs.States.{Control, Held, Gate, first_wait, first_task, opening}
use Rattle.machine.specs.Effects.{ceiling_of, inside_now, outside_by, outside_now, lent, stopped_at, entered_at, entry, exit, resting, ended}
use Rattle.machine.specs.Effects.{acted, object_unit}
use Rattle.machine.specs.Dispatch.{put_last, put_first, dispatched}
use Rattle.machine.specs.Releases.{Next, going, released, release_task, release, is_waiting, serve_task, serve, parameter, next_time}
use Rattle.machine.specs.Steps.{goes_to, effect_of, effect_at, effect_step, is_due, delay_step, horizon_step, arrive_at, arrival_step, use_step}
use Rattle.machine.specs.Steps.{step_in, step}
use Rattle.law_ceilings.proofs.Shared.Pieces.{Permission, Inside, closers, AreFit, IsClosed}
use Rattle.law_ceilings.specs.Bodies.{BlockFits}
use Rattle.law_ceilings.specs.Sections.{Stands, IsNumbered, sections, IsAmong}
use Rattle.law_ceilings.proofs.Shared.Kept.{IsPeriodic, IsAtRest, IsSound, GoesBefore, IsKept, runner, Keeps}
use Rattle.law_ceilings.proofs.Shared.Fitting.{block-closers, block-fit, ActFits, done-fits}
use Rattle.law_ceilings.proofs.Shared.Moves.{empty, gone_on, entered, left-section, ended-one, released-one, halted, begun}
use Rattle.law_ceilings.proofs.Dispatching.{IsFirst, dispatched-first}
use Rattle.law_lists.proofs.Shared.Facts.{first-where}
use Rattle.law_lists.proofs.Shared.Places.{change-none}
use Rattle.std.proofs.lemmas.Bool.{and_parts, false≢true}

-- a task that goes on, written out
abbrev pub first_left : Costs → List Piece → Task → ℕ
first_left costs [] t = 0
first_left costs (p ∷ ps) t = ticks_of costs (slice_get t.thread.durations t.works) p

abbrev pub first_works : List Piece → Task → ℕ
first_works [] t = t.works
first_works (p ∷ ps) t = t.works + works_of p

pub going-is : (costs : Costs) (vars' : Variables) (ps : List Piece) (t : Task)
    → going costs vars' ps t ≡ record t { vars = vars'; pieces = ps; left = first_left costs ps t; works = first_works ps t }
going-is costs vars' [] t = refl
going-is costs vars' (p ∷ ps) t = refl

-- a task that uses a tick
abbrev pub tick : Task → Task
tick t = record t { left = t.left - 1; used = t.used + 1 }

-- a task that waits is not ready
waits : (t : Task) → IsAtRest t.readiness t → is_waiting t.readiness ≡ true → t.inside ≡ []
waits t rests w = by t.readiness rests w
  where
    by : (x : Readiness) → IsAtRest x t → is_waiting x ≡ true → t.inside ≡ []
    by Ready r e = absurd (false≢true e)
    by Waiting r e = r.0
    by (Asleep until) r e = r.0

pub due-rests : (time : ℕ) (t : Task) → IsAtRest t.readiness t → is_due time t.readiness ≡ true → t.inside ≡ []
due-rests time t rests w = by t.readiness rests w
  where
    by : (x : Readiness) → IsAtRest x t → is_due time x ≡ true → t.inside ≡ []
    by Ready r e = absurd (false≢true e)
    by Waiting r e = r.0
    by (Asleep until) r e = r.0

-- a task with pieces left is ready
pub busy-ready : (t : Task) (p : Piece) (ps : List Piece) → IsAtRest t.readiness t → t.pieces ≡ p ∷ ps → t.readiness ≡ Ready
busy-ready t p ps rests e = by t.readiness refl rests
  where
    by : (x : Readiness) → t.readiness ≡ x → IsAtRest x t → t.readiness ≡ Ready
    by Ready f r = f
    by Waiting f r = absurd (empty p ps (sym r.1 ∙ e))
    by (Asleep until) f r = absurd (empty p ps (sym r.1 ∙ e))

head-same : {A : Type 0} (x y : A) (xs ys : List A) → x ∷ xs ≡ y ∷ ys → x ≡ y
head-same x y xs ys e = cc

pub map-empty : {A B : Type 0} (f : A → B) (xs : List A) → map f xs ≡ [] → xs ≡ []
map-empty f [] e = refl
map-empty f (x ∷ xs) e = absurd (empty (f x) (map f xs) (sym e))

-- what a request or an end leaves at rest
pub ended-rests : (vars' : Variables) (t : Task) → t.inside ≡ [] → IsAtRest (ended vars' t).readiness (ended vars' t)
ended-rests vars' t inside = by t.thread.timing refl
  where
    by : (x : ReleasePattern) → t.thread.timing ≡ x → IsAtRest (resting x t.next) (ended vars' t)
    by (Periodic offset period) e = (inside, refl, subst IsPeriodic (sym e) tt)
    by (Requested op ceiling separation jitter external) e = (inside, refl)

ended-sleeps : (vars' : Variables) (t : Task) → (ended vars' t).readiness ≡ Ready → ⊥
ended-sleeps vars' t e = by t.thread.timing e
  where
    by : (x : ReleasePattern) → resting x t.next ≡ Ready → ⊥
    by (Periodic offset period) e' = cc
    by (Requested op ceiling separation jitter external) e' = cc

-- what the system's texts promise
pub record AreWritten (y : System) (May : ℕ → Permission) : Type 0 where
  pub closed : (i : ℕ) → IsClosed y (May i)
  pub tasks : (i : ℕ) (t : TaskUnit) → slice_get y.threads i ≡ Some t → BlockFits (Inside (May i) []) false t.block

-- the opening
pub opening-keeps : (y : System) (May : ℕ → Permission) (as' : List Arrival) → Keeps y May (opening y as')
opening-keeps y May as' = record {
  numbered = simp (length-replicate, length-map);
  sound = λ i t stands. let found = at i t stands in subst (IsSound y (May i) i) (sym found.2) (record {
    written = found.1;
    rests = rests found.0;
    stacked = refl;
    closes = refl;
    fits = tt;
  });
  leads = λ i j t u o p h hs st su no nu other ready inside low. absurd (nothing j u h hs su inside);
  runs = λ i j t u h hs run. absurd (none-some i run);
  alone = λ i j t u section st su among among'. absurd (subst (IsAmong section) (let found = at i t st in ap sections found.2) among);
}
  where
    at : (i : ℕ) (t : Task) → Stands (map first_task y.threads) i t → (th : TaskUnit) × (slice_get y.threads i ≡ Some th) × (t ≡ first_task th)
    at i t stands = by (slice_get y.threads i) refl (sym (slice_get-map first_task y.threads i) ∙ stands)
      where
        by : (o : Option TaskUnit) → slice_get y.threads i ≡ o → option_map first_task o ≡ Some t
            → (th : TaskUnit) × (slice_get y.threads i ≡ Some th) × (t ≡ first_task th)
        by None e f = absurd (none-some t f)
        by (Some th) e f = (th, e, sym (same_Some (first_task th) t f))

    rests : (th : TaskUnit) → IsAtRest (first_wait th.timing) (first_task th)
    rests th = by th.timing refl
      where
        by : (x : ReleasePattern) → th.timing ≡ x → IsAtRest (first_wait x) (first_task th)
        by (Periodic offset period) e = (refl, refl, subst IsPeriodic (sym e) tt)
        by (Requested op ceiling separation jitter external) e = (refl, refl)

    nothing : (j : ℕ) (u : Task) (h : Held) (hs : List Held) → Stands (map first_task y.threads) j u → u.inside ≡ h ∷ hs → ⊥
    nothing j u h hs su inside = empty h hs (sym (let found = at j u su in ap (λ x. x.inside) found.2) ∙ inside)

module _ (y : System) (May : ℕ → Permission) (text : AreWritten y May) where
  -- what a step leads to
  abbrev pub Goes : Phase → Option ℕ → Option ℕ → Next → Type 0
  Goes phase ran r n = (n.0.phase ≡ phase) × (n.0.ran ≡ ran) × IsKept y May r n.0.tasks n.0.orders

  pub released-keeps : (r : Option ℕ) (ts : List Task) (os : List ℤ) (i : ℕ) (t : Task) → IsKept y May r ts os → Stands ts i t → t.inside ≡ []
      → IsKept y May r (change i (released y.costs) ts) (put_last i os)
  released-keeps r ts os i t kept stands inside =
      let first : Task = record t {
        readiness = Ready;
        next = next_time t.thread.timing t.next;
        used = 0;
        gate = record { value = None; open' = false };
      } in
      let ps = pieces t.thread.block (Finishing ∷ []) in
      let vars' = parameter t.thread.timing t.gate.value ++ t.vars in
      let t' : Task = record first { vars = vars'; pieces = ps; left = first_left y.costs ps first; works = first_works ps first } in
      released-one y May r ts os i (released y.costs) t t' kept stands (going-is y.costs vars' ps first) refl refl inside refl inside
      (block-closers t.thread.block (Finishing ∷ []))
      (block-fit (May i) t.thread.block (Finishing ∷ []) (text.tasks i t.thread ((kept.sound i t stands).written)) (refl, tt))

  pub release-goes : (phase : Phase) (ran r : Option ℕ) (i : ℕ) (t : Task) (s : State) → s.phase ≡ phase → s.ran ≡ ran
      → IsKept y May r s.tasks s.orders → Stands s.tasks i t → t.inside ≡ [] → Goes phase ran r (release y i s)
  release-goes phase ran r i t s p q kept stands inside =
      subst (λ o. Goes phase ran r (release_task y i o s)) (sym stands) (p, q, released-keeps r s.tasks s.orders i t kept stands inside)

  pub serve-goes : (phase : Phase) (ran r : Option ℕ) (i : ℕ) (s : State) → s.phase ≡ phase → s.ran ≡ ran
      → IsKept y May r s.tasks s.orders → Goes phase ran r (serve y i s)
  serve-goes phase ran r i s p q kept = by (slice_get s.tasks i) refl
    where
      by : (o : Option Task) → slice_get s.tasks i ≡ o → Goes phase ran r (serve_task y i o s)
      by None e = (p, q, kept)
      by (Some t) e = served (is_waiting t.readiness && t.gate.open') refl
        where
          served : (b : Bool) → (is_waiting t.readiness && t.gate.open') ≡ b → Goes phase ran r (if b then release y i s else (s, []))
          served true f = release-goes phase ran r i t s p q kept e
              (waits t (kept.sound i t e).rests (and_parts (is_waiting t.readiness) t.gate.open' f).0)
          served false f = (p, q, kept)

  -- a change of one task's control structure
  pub gate-keeps : (r : Option ℕ) (ts : List Task) (os : List ℤ) (k : ℕ) (f : Task → Gate) → IsKept y May r ts os
      → IsKept y May r (change k (λ u. record u { gate = f u }) ts) os
  gate-keeps r ts os k f kept = by (slice_get ts k) refl
    where
      by : (o : Option Task) → slice_get ts k ≡ o → IsKept y May r (change k (λ u. record u { gate = f u }) ts) os
      by None e = subst (λ xs. IsKept y May r xs os) (sym (change-none k (λ u. record u { gate = f u }) ts e)) kept
      by (Some t) e =
          let sound = kept.sound k t e in
          let t' : Task = record t { gate = f t } in
          gone_on y May r ts os k (λ u. record u { gate = f u }) t t' kept e refl (record {
            thread = refl;
            readiness = refl;
            active = refl;
            inside = refl;
          })
          (record {
            written = sound.written;
            rests = rests t.readiness t sound.rests;
            stacked = sound.stacked;
            closes = sound.closes;
            fits = sound.fits;
          })
        where
          rests : (x : Readiness) (u : Task) → IsAtRest x u → IsAtRest x (record u { gate = f u })
          rests Ready u h = tt
          rests Waiting u h = h
          rests (Asleep until) u h = h

  module _ (i : ℕ) (t : Task) (s : State) (effects : s.phase ≡ Effects) (ran : s.ran ≡ Some i) (stands : Stands s.tasks i t)
      (ready : t.readiness ≡ Ready)
      (kept : IsKept y May (Some i) s.tasks s.orders) where
    go-keeps : (vars' : Variables) (ps : List Piece) → closers ps ≡ closers t.pieces → AreFit (May i) ps
        → IsKept y May (Some i) (change i (going y.costs vars' ps) s.tasks) s.orders
    go-keeps vars' ps closes fits =
        let sound = kept.sound i t stands in
        let t' : Task = record t { vars = vars'; pieces = ps; left = first_left y.costs ps t; works = first_works ps t } in
        gone_on y May (Some i) s.tasks s.orders i (going y.costs vars' ps) t t' kept stands (going-is y.costs vars' ps t)
        (record { thread = refl; readiness = refl; active = refl; inside = refl })
        (record {
          written = sound.written;
          rests = subst (λ x. IsAtRest x t') (sym ready) tt;
          stacked = sound.stacked;
          closes = closes ∙ sound.closes;
          fits = fits;
        })

    enter-keeps : (section : Resource) (vars' : Variables) (ps : List Piece) → t.active ≤ ceiling_of y section
        → closers ps ≡ section ∷ closers t.pieces → AreFit (May i) ps
        → IsKept y May (Some i) (change i (λ u. going y.costs vars' ps (inside_now section (ceiling_of y section) u)) s.tasks) (put_first i s.orders)
    enter-keeps section vars' ps low closes fits =
        let within : Task = inside_now section (ceiling_of y section) t in
        entered y May (Some i) s.tasks s.orders i t kept refl stands section
        (λ u. going y.costs vars' ps (inside_now section (ceiling_of y section) u))
        vars' ps (first_left y.costs ps within) (first_works ps within) (going-is y.costs vars' ps within) ready low closes fits

    entry-goes : (section : Resource) (told : List Event) (vars' : Variables) (ps : List Piece)
        → closers ps ≡ section ∷ closers t.pieces → AreFit (May i) ps → Goes Effects (Some i) (Some i) (entry y i t section told vars' ps s)
    entry-goes section told vars' ps closes fits = by (nat_lt (ceiling_of y section) t.active) refl
      where
        into : (x : Resource) → closers ps ≡ x ∷ closers t.pieces → t.active ≤ ceiling_of y x
            → Goes Effects (Some i) (Some i) (entered_at y i x told vars' ps s)
        into (Object object) closes' low = (effects, ran, enter-keeps (Object object) (lent (Object object) s vars') ps low closes' fits)
        into (Control task) closes' low = (effects, ran, enter-keeps (Control task) (lent (Control task) s vars') ps low closes' fits)

        by : (b : Bool) → nat_lt (ceiling_of y section) t.active ≡ b
            → Goes Effects (Some i) (Some i) (if b then stopped_at y t section s else entered_at y i section told vars' ps s)
        by true e = (effects, ran, kept)
        by false e = into section closes (let low : t.active ≤ ceiling_of y section = grind arith in low)

    exit-keeps : (section : Resource) (vars' : Variables) (ps : List Piece) → closers t.pieces ≡ section ∷ closers ps → AreFit (May i) ps
        → IsKept y May (Some i) (change i (λ u. going y.costs vars' ps (outside_now u)) s.tasks) (put_first i s.orders)
    exit-keeps section vars' ps closes fits = by t.inside refl
      where
        sections : map (λ h. h.section) t.inside ≡ section ∷ closers ps
        sections = sym (kept.sound i t stands).closes ∙ closes

        by : (hs : List Held) → t.inside ≡ hs
            → IsKept y May (Some i) (change i (λ u. going y.costs vars' ps (outside_now u)) s.tasks) (put_first i s.orders)
        by [] inside = absurd (empty section (closers ps) (ap (map (λ h. h.section)) (sym inside) ∙ sections))
        by (h ∷ hs) inside =
            let outside : Task = record t { active = h.before; inside = hs } in
            let same : h.section ∷ map (λ x. x.section) hs ≡ section ∷ closers ps = ap (map (λ x. x.section)) (sym inside) ∙ sections in
            let is : section ≡ h.section = sym (head-same h.section section (map (λ x. x.section) hs) (closers ps) same) in
            left-section y May (Some i) s.tasks s.orders i t kept refl stands h hs (λ u. going y.costs vars' ps (outside_now u))
            vars' ps (first_left y.costs ps outside) (first_works ps outside) inside
            (ap (λ x. going y.costs vars' ps (outside_by x t)) inside ∙ going-is y.costs vars' ps outside) ready
            (closes ∙ ap (λ x. x ∷ closers ps) is) fits

    -- the effect of a piece
    pub acted-goes : (act : Act) (vars' : Variables) (ps : List Piece) → AreFit (May i) ps → ActFits y (May i) (closers t.pieces) act ps
        → Goes Effects (Some i) (Some i) (acted y i t act vars' ps s)
    acted-goes Silent vars' ps fits act = (effects, ran, go-keeps vars' ps act fits)
    acted-goes (Print v) vars' ps fits act = (effects, ran, go-keeps vars' ps act fits)
    acted-goes (Enter object op values) vars' ps fits act =
        entry-goes (Object object) (event.Enter s.time t.thread.unit (object_unit y object) op values ∷ []) vars' ps act.1 fits
    acted-goes (Leave object op values data') vars' ps fits act = (effects, ran, exit-keeps (Object object) vars' ps act fits)
    acted-goes (Ask task) vars' ps fits act = entry-goes (Control task) [] vars' ps act.1 fits
    acted-goes (Keep task v) vars' ps fits act = (
      effects,
      ran,
      gate-keeps (Some i) (change i (going y.costs vars' ps) s.tasks) s.orders task (λ u. record u.gate {
        value
            = v;
      }) (go-keeps vars' ps act fits),
    )
    acted-goes (Open task) vars' ps fits act = (
      effects,
      ran,
      gate-keeps (Some i) (change i (going y.costs vars' ps) s.tasks) s.orders task (λ u. record u.gate {
        open'
            = true;
      }) (go-keeps vars' ps act fits),
    )
    acted-goes (Ended task v) vars' ps fits act =
        serve-goes Effects (Some i) (Some i) task (exit y i vars' ps s) effects ran (exit-keeps (Control task) vars' ps act fits)
    acted-goes Finish vars' ps fits act =
        serve-goes Effects (Some i) (Some i) i (record s { tasks = change i (ended vars') s.tasks }) effects ran
        (ended-one y May (Some i) s.tasks s.orders i (ended vars') t (ended vars' t) kept stands refl refl
        (ended-rests vars' t inside) (ended-sleeps vars' t) inside refl refl inside)
      where
        inside : t.inside ≡ []
        inside = map-empty (λ h. h.section) t.inside (sym (kept.sound i t stands).closes ∙ act.0)

  -- what a step keeps
  abbrev pub NextKeeps : Next → Type 0
  NextKeeps n = Keeps y May n.0

  goes-keeps : (i : ℕ) (n : Next) → Goes Effects (Some i) (Some i) n → NextKeeps n
  goes-keeps i n g = subst (λ r. IsKept y May r n.0.tasks n.0.orders) (sym (ap (λ p. runner p n.0.ran) g.0 ∙ g.1)) g.2

  none-keeps : (phase : Phase) (ran : Option ℕ) (n : Next) → runner phase ran ≡ None → Goes phase ran None n → NextKeeps n
  none-keeps phase ran n none g =
      subst (λ r. IsKept y May r n.0.tasks n.0.orders) (sym (ap (λ p. runner p n.0.ran) g.0 ∙ ap (runner phase) g.1 ∙ none)) g.2

  effect-keeps : (s : State) → s.phase ≡ Effects → Keeps y May s → NextKeeps (effect_step y s.ran s)
  effect-keeps s effects keeps = by s.ran refl
    where
      rests : (phase : Phase) → runner phase s.ran ≡ None → NextKeeps (goes_to phase s)
      rests phase none = subst (λ r. IsKept y May r s.tasks s.orders) (sym none) (halted y May (runner s.phase s.ran) s.tasks s.orders keeps)

      by : (ran : Option ℕ) → s.ran ≡ ran → NextKeeps (effect_step y ran s)
      by None e = rests Delays refl
      by (Some i) e = at (slice_get s.tasks i) refl
        where
          kept : IsKept y May (Some i) s.tasks s.orders
          kept = subst (λ r. IsKept y May r s.tasks s.orders) (ap (λ p. runner p s.ran) effects ∙ e) keeps

          at : (o : Option Task) → slice_get s.tasks i ≡ o → NextKeeps (effect_at y i o s)
          at None f = rests Delays refl
          at (Some t) f = piece t.pieces refl
            where
              piece : (ps : List Piece) → t.pieces ≡ ps → NextKeeps (effect_of y i t ps s)
              piece [] g = rests Delays refl
              piece (p ∷ ps) g = now (t.left == 0)
                where
                  now : (b : Bool) → NextKeeps (if b then acted y i t (done y p t.vars ps).act (done y p t.vars ps).vars
                      (done y p t.vars ps).pieces s else goes_to Delays s)
                  now true =
                      let sound = kept.sound i t f in
                      let d = done-fits y (May i) (text.closed i) p t.vars ps (subst (AreFit (May i)) g sound.fits) in
                      goes-keeps i (acted y i t (done y p t.vars ps).act (done y p t.vars ps).vars (done y p t.vars ps).pieces s)
                      (acted-goes i t s effects e f (busy-ready t p ps sound.rests g) kept (done y p t.vars ps).act (done y p t.vars ps).vars
                      (done y p t.vars ps).pieces d.0
                      (subst (λ xs. ActFits y (May i) (closers xs) (done y p t.vars ps).act (done y p t.vars ps).pieces) (sym g) d.1))
                  now false = rests Delays refl

  delay-keeps : (s : State) → s.phase ≡ Delays → Keeps y May s → NextKeeps (delay_step y (first_where (λ t. is_due s.time t.readiness) s.tasks) s)
  delay-keeps s delays keeps = by (first_where (λ t. is_due s.time t.readiness) s.tasks) refl
    where
      kept : IsKept y May None s.tasks s.orders
      kept = halted y May (runner s.phase s.ran) s.tasks s.orders keeps

      by : (o : Option (ℕ × Task)) → first_where (λ t. is_due s.time t.readiness) s.tasks ≡ o → NextKeeps (delay_step y o s)
      by None e = kept
      by (Some sleeper) e =
          let found = first-where (λ t. is_due s.time t.readiness) s.tasks sleeper.0 sleeper.1 e in
          none-keeps Delays s.ran (release y sleeper.0 s) refl
          (release-goes Delays s.ran None sleeper.0 sleeper.1 s delays refl kept found.0
          (due-rests s.time sleeper.1 (kept.sound sleeper.0 sleeper.1 found.0).rests found.1))

  arrival-keeps : (s : State) → s.phase ≡ Arriving → Keeps y May s → NextKeeps (arrival_step y s.arrivals s)
  arrival-keeps s arriving keeps = by s.arrivals
    where
      kept : IsKept y May None s.tasks s.orders
      kept = halted y May (runner s.phase s.ran) s.tasks s.orders keeps

      horizon : (b : Bool) → NextKeeps (if b then (record s { stopped = true }, event.Horizon s.time ∷ []) else goes_to Use s)
      horizon true = keeps
      horizon false = kept

      arrive : (a : Arrival) (others : List Arrival) (o : Option (ℕ × Task)) → NextKeeps (arrive_at y a o (record s { arrivals = others }))
      arrive a others None = keeps
      arrive a others (Some t) =
          let changed : List Task = change t.0 (λ u. record u { gate = record { value = a.value; open' = true } }) s.tasks in
          none-keeps Arriving s.ran (serve y t.0 (record s { arrivals = others; tasks = changed })) refl
          (serve-goes Arriving s.ran None t.0 (record s { arrivals = others; tasks = changed }) arriving refl
          (gate-keeps None s.tasks s.orders t.0 (λ u. record { value = a.value; open' = true }) kept))

      by : (as' : List Arrival) → NextKeeps (arrival_step y as' s)
      by [] = horizon (s.time == y.until)
      by (a ∷ others) = now (a.time == s.time)
        where
          now : (b : Bool) → NextKeeps (if b then arrive_at y a (first_where (λ t. t.thread.unit == a.task) s.tasks)
              (record s { arrivals = others }) else horizon_step y s)
          now true = arrive a others (first_where (λ t. t.thread.unit == a.task) s.tasks)
          now false = horizon (s.time == y.until)

  use-keeps : (s : State) → Keeps y May s → NextKeeps (use_step y (dispatched s.tasks s.orders) s)
  use-keeps s keeps = by (dispatched s.tasks s.orders) refl
    where
      kept : IsKept y May None s.tasks s.orders
      kept = halted y May (runner s.phase s.ran) s.tasks s.orders keeps

      by : (o : Option ℕ) → dispatched s.tasks s.orders ≡ o → NextKeeps (use_step y o s)
      by None e = kept
      by (Some i) e =
          let f = dispatched-first s.tasks s.orders i e in
          let begins : IsKept y May (Some i) s.tasks s.orders =
          begun y May s.tasks s.orders i f.task kept f.stands f.ready (λ j u o p not su ready no nu before.
          goes-behind i j f u o p su ready no nu before) in
          let sound = begins.sound i f.task f.stands in
          gone_on y May (Some i) s.tasks s.orders i tick f.task (tick f.task) begins f.stands refl
          (record { thread = refl; readiness = refl; active = refl; inside = refl })
          (record {
            written = sound.written;
            rests = subst (λ x. IsAtRest x (tick f.task)) (sym f.ready) tt;
            stacked = sound.stacked;
            closes = sound.closes;
            fits = sound.fits;
          })
        where
          goes-behind : (i j : ℕ) (f : IsFirst s.tasks s.orders i) (u : Task) (o p : ℤ) → Stands s.tasks j u → u.readiness ≡ Ready
              → IsNumbered s.orders i o → IsNumbered s.orders j p
              → GoesBefore u.active p f.task.active o → ⊥
          goes-behind i j f u o p su ready mine theirs before = which (f.first j u p su theirs ready)
            where
              same : f.order ≡ o
              same = same_Some f.order o (sym f.numbered ∙ mine)

              which : (u.active < f.task.active) ⊎ ((u.active ≡ f.task.active) × (f.order ≤ℤ p)) → ⊥
              which (inl lower) = let high : f.task.active ≤ u.active = before.0 in omega arith
              which (inr level) =
                  let less : p <ℤ o = before.1 (sym level.0) in
                  let more : o ≤ℤ p = subst (λ x. x ≤ℤ p) same level.1 in
                  omega (arith, ints)

  step-in-keeps : (s : State) (phase : Phase) → s.phase ≡ phase → Keeps y May s → NextKeeps (step_in phase y s)
  step-in-keeps s Effects e keeps = effect-keeps s e keeps
  step-in-keeps s Delays e keeps = delay-keeps s e keeps
  step-in-keeps s Arriving e keeps = arrival-keeps s e keeps
  step-in-keeps s Use e keeps = use-keeps s keeps

  -- each step keeps it
  pub step-keeps : (s : State) → Keeps y May s → Keeps y May (step y s).0
  step-keeps s keeps = by s.stopped
    where
      by : (b : Bool) → NextKeeps (if b then (s, []) else step_in s.phase y s)
      by true = keeps
      by false = step-in-keeps s s.phase refl keeps
