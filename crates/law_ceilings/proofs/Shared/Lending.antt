-- What the processor keeps of its objects' data: a store for each object, at home where no task is inside, and ends that hand them back.
-- The opening has it, and each step keeps it.
use Rattle.std.specs.Prelude.{◌≡◌, ◌≢◌, ◌&&◌, ◌++◌, ℕ, zero, suc, Bool, true, false, nat_lt, List, [], ◌∷◌, map, drop, set, slice_get, Option, Some}
use Rattle.std.specs.Prelude.{None, option_map, ◌==◌, ◌⊎◌, if◌then◌else◌, refl}
use Rattle.std.proofs.Common.{sym, ◌∙◌, ap, subst, arith, inl, inr}
use Rattle.std.proofs.lemmas.Option.{none-some, same_Some, slice_get-map}
use Rattle.seq_tree.specs.Lists.{change, first_where}
use Rattle.seq_tree.specs.Variables.{Variables, written}
use Rattle.seq_tree.specs.declared.tree.Costs.{Costs}
use Rattle.arrivals_tree.specs.declared.arrivals.Arrival.{Arrival}
use Rattle.trace_tree.specs.declared.event.Event.{Event}
use Rattle.trace_tree.specs.declared.event.Event.TheVariants as event
use Rattle.machine.specs.Systems.{System, TaskUnit, ProtectedUnit}
use Rattle.machine.specs.Pieces.{Piece, Finishing, pieces}
use Rattle.machine.specs.Deeds.{Act, Silent, Print, Enter, Leave, Ask, Keep, Open, Ended, Finish, done}
use Rattle.machine.specs.States.{State, Task, Phase, Effects, Delays, Arriving, Use, Ready, Resource, Object, Control, shut, first_task, opening}
use Rattle.machine.specs.Effects.{ceiling_of, inside_now, outside_now, lent, stopped_at, entered_at, entry, exit, ended, acted, object_unit}
use Rattle.machine.specs.Dispatch.{dispatched}
use Rattle.machine.specs.Releases.{going, released, release_task, release, is_waiting, serve_task, serve, parameter, next_time}
use Rattle.machine.specs.Steps.{goes_to, effect_of, effect_at, effect_step, is_due, delay_step, horizon_step, arrive_at, arrival_step, use_step}
use Rattle.machine.specs.Steps.{step_in, step}
use Rattle.law_ceilings.proofs.Shared.Pieces.{Permission, closers, AreFit}
use Rattle.law_ceilings.specs.Sections.{Stands, sections, IsAmong, Holds, IsFree}
use Rattle.law_ceilings.proofs.Shared.Kept.{Keeps}
use Rattle.law_ceilings.proofs.Shared.Fitting.{ActFits, done-fits}
use Rattle.law_ceilings.proofs.Shared.Keeping.{AreWritten, tick}
use Rattle.law_ceilings.proofs.Shared.Passing.{Face, face, faces, faces-same, faces-change, going-face, released-face, into, out_of, exit-faces}
use Rattle.law_ceilings.proofs.Shared.Passing.{go-faces}
use Rattle.law_ceilings.proofs.Shared.Excluding.{face-at, at-face}
use Rattle.law_lists.proofs.Shared.Places.{change-at, change-else, set-else, each-changed, mapped-at}
use Rattle.law_ceilings.specs.Homes.{AreAsWritten, IsHome}
use Rattle.law_ceilings.proofs.Shared.Ending.{AreEnds, HandsBack, block-ends, done-back, done-ends, written-names}

-- what is kept of tasks and stores
pub record AreLent (y : System) (ts : List Task) (stores : List Variables) : Type 0 where
  pub ends : (k : ℕ) (t : Task) → Stands ts k t → AreEnds y t.pieces
  pub has : (j : ℕ) (g : ProtectedUnit) → slice_get y.objects j ≡ Some g → (vars : Variables) × (slice_get stores j ≡ Some vars)
  pub home : (j : ℕ) (g : ProtectedUnit) → slice_get y.objects j ≡ Some g → IsFree ts (Object j) → IsHome stores j g

-- what is kept of a state
abbrev pub Lends : System → State → Type 0
Lends y s = AreLent y s.tasks s.stores

-- a place that is another, or not
either-place : {P : Type 0} (j k : ℕ) → (j ≡ k → P) → (j ≢ k → P) → P
either-place {P} j k same other = by (j == k) refl
  where
    by : (b : Bool) → (j == k) ≡ b → P
    by true e = same (grind arith)
    by false e = other (λ h. grind arith)

set-here : {A : Type 0} (xs : List A) (k : ℕ) (x v : A) → slice_get xs k ≡ Some x → slice_get (set xs k v) k ≡ Some v
set-here [] k x v e = absurd (none-some x e)
set-here (a ∷ xs) zero x v e = refl
set-here (a ∷ xs) (suc k) x v e = set-here xs k x v e

-- a section that is free after a step at which no other is left was free before
free-same : (ts us : List Task) (x : Resource) → faces us ≡ faces ts → IsFree us x → IsFree ts x
free-same ts us x same free (k, t, at, holds) =
    let found = face-at us k (face t) (ap (λ fs. slice_get fs k) same ∙ at-face ts k t at) in
    free (k, found.0, found.1, subst (λ f. IsAmong x f.1) (sym found.2) holds)

free-changed : (i : ℕ) (g : Face → Face) (ts us : List Task) (x : Resource) → faces us ≡ change i g (faces ts)
    → ((t : Task) → Stands ts i t → IsAmong x (sections t) → IsAmong x (g (face t)).1) → IsFree us x → IsFree ts x
free-changed i g ts us x changes stays free (k, t, at, holds) = either-place k i own others
  where
    own : k ≡ i → ⊥
    own is =
        let here : Stands ts i t = subst (λ n. Stands ts n t) is at in
        let found = face-at us i (g (face t)) (ap (λ fs. slice_get fs i) changes ∙ change-at i g (faces ts) (face t) (at-face ts i t here)) in
        free (i, found.0, found.1, subst (λ f. IsAmong x f.1) (sym found.2) (stays t here holds))

    others : k ≢ i → ⊥
    others not =
        let found = face-at us k (face t) (ap (λ fs. slice_get fs k) changes ∙ change-else i k g (faces ts) not ∙ at-face ts k t at) in
        free (k, found.0, found.1, subst (λ f. IsAmong x f.1) (sym found.2) holds)

going-pieces : (costs : Costs) (vars : Variables) (ps : List Piece) (t : Task) → (going costs vars ps t).pieces ≡ ps
going-pieces costs vars [] t = refl
going-pieces costs vars (p ∷ ps) t = refl

-- an object that isn't the innermost section stays when that is left
other-stays : (section x : Resource) (ss others : List Resource) → ss ≡ section ∷ others → (section ≡ x → ⊥) → IsAmong x ss → IsAmong x (drop 1 ss)
other-stays section x ss others e not a = subst (λ xs. IsAmong x (drop 1 xs)) (sym e) (by (subst (IsAmong x) e a))
  where
    by : (section ≡ x) ⊎ IsAmong x others → IsAmong x others
    by (inl is) = absurd (not is)
    by (inr b) = b

objects-apart : (j k : ℕ) → j ≢ k → Object k ≡ Object j → ⊥
objects-apart j k not e = let is : k ≡ j = cc in not (sym is)

no-control : (task j : ℕ) → Control task ≡ Object j → ⊥
no-control task j e = cc

module _ (y : System) where
  -- the same tasks' sections and the same stores
  still : (ts us : List Task) (stores : List Variables) → faces us ≡ faces ts → ((k : ℕ) (u : Task) → Stands us k u → AreEnds y u.pieces)
      → AreLent y ts stores → AreLent y us stores
  still ts us stores same ends h = record {
    ends = ends;
    has = h.has;
    home = λ j g at free. h.home j g at (free-same ts us (Object j) same free);
  }

  -- an object is entered
  lent-out : (ts us : List Task) (stores : List Variables) (i object : ℕ) (t : Task) → Stands ts i t
      → faces us ≡ change i (into (Object object)) (faces ts) → ((k : ℕ) (u : Task) → Stands us k u → AreEnds y u.pieces)
      → AreLent y ts stores → AreLent y us (set stores object [])
  lent-out ts us stores i object t here changes ends h = record {
    ends = ends;
    has = λ j g at. either-place j object
        (λ is. (
          [],
          subst (λ n. slice_get (set stores object []) n ≡ Some []) (sym is)
              (set-here stores object (h.has j g at).0 [] (subst (λ n. slice_get stores n ≡ Some (h.has j g at).0) is (h.has j g at).1)),
        ))
        (λ not. ((h.has j g at).0, set-else object j [] stores not ∙ (h.has j g at).1));
    home = λ j g at free. either-place j object
        (λ is. absurd (free (held j is)))
        (λ not. let found = h.home j g at (free-changed i (into (Object object)) ts us (Object j) changes (λ u stands holds. inr holds) free) in
        (found.0, set-else object j [] stores not ∙ found.1, found.2));
  }
    where
      held : (j : ℕ) → j ≡ object → (k : ℕ) × (u : Task) × Stands us k u × Holds u (Object j)
      held j is =
          let found = face-at us i (into (Object object) (face t))
          (ap (λ fs. slice_get fs i) changes ∙ change-at i (into (Object object)) (faces ts) (face t) (at-face ts i t here)) in
          (i, found.0, found.1, subst (λ f. IsAmong (Object j) f.1) (sym found.2) (inl (ap Object (sym is))))

  -- an object is left, and its data come back
  handed-back : (ts us : List Task) (stores : List Variables) (i object : ℕ) (t : Task) (others : List Resource) (data' : Variables)
      → Stands ts i t → sections t ≡ Object object ∷ others
      → faces us ≡ change i out_of (faces ts) → ((k : ℕ) (u : Task) → Stands us k u → AreEnds y u.pieces)
      → (g : ProtectedUnit) → slice_get y.objects object ≡ Some g → AreAsWritten g.vars data'
      → AreLent y ts stores → AreLent y us (set stores object data')
  handed-back ts us stores i object t others data' here inside changes ends g there whole h = record {
    ends = ends;
    has = λ j g' at. either-place j object
        (λ is. (data', subst (λ n. slice_get (set stores object data') n ≡ Some data') (sym is) stored))
        (λ not. ((h.has j g' at).0, set-else object j data' stores not ∙ (h.has j g' at).1));
    home = λ j g' at free. either-place j object
        (λ is. let same : g ≡ g' = same_Some g g' (sym there ∙ ap (slice_get y.objects) (sym is) ∙ at) in (
          data',
          subst (λ n. slice_get (set stores object data') n ≡ Some data') (sym is) stored,
          subst (λ x. AreAsWritten x.vars data') same whole,
        ))
        (λ not. let found = h.home j g' at (free-changed i out_of ts us (Object j) changes (stays j not) free) in
        (found.0, set-else object j data' stores not ∙ found.1, found.2));
  }
    where
      stored : slice_get (set stores object data') object ≡ Some data'
      stored = set-here stores object (h.has object g there).0 data' (h.has object g there).1

      stays : (j : ℕ) → j ≢ object → (u : Task) → Stands ts i u → IsAmong (Object j) (sections u) → IsAmong (Object j) (drop 1 (sections u))
      stays j not u at holds =
          let is : t ≡ u = same_Some t u (sym here ∙ at) in
          other-stays (Object object) (Object j) (sections u) others (ap sections (sym is) ∙ inside) (objects-apart j object not) holds

  -- a control structure is entered or left
  control-in : (ts us : List Task) (stores : List Variables) (i task : ℕ) → faces us ≡ change i (into (Control task)) (faces ts)
      → ((k : ℕ) (u : Task) → Stands us k u → AreEnds y u.pieces) → AreLent y ts stores → AreLent y us stores
  control-in ts us stores i task changes ends h = record {
    ends = ends;
    has = h.has;
    home = λ j g at free. h.home j g at
        (free-changed i (into (Control task)) ts us (Object j) changes (λ u stands holds. inr holds) free);
  }

  control-out : (ts us : List Task) (stores : List Variables) (i task : ℕ) (t : Task) (others : List Resource) → Stands ts i t
      → sections t ≡ Control task ∷ others → faces us ≡ change i out_of (faces ts)
      → ((k : ℕ) (u : Task) → Stands us k u → AreEnds y u.pieces) → AreLent y ts stores → AreLent y us stores
  control-out ts us stores i task t others here inside changes ends h = record {
    ends = ends;
    has = h.has;
    home = λ j g at free. h.home j g at (free-changed i out_of ts us (Object j) changes (stays j) free);
  }
    where
      stays : (j : ℕ) (u : Task) → Stands ts i u → IsAmong (Object j) (sections u) → IsAmong (Object j) (drop 1 (sections u))
      stays j u at holds =
          let is : t ≡ u = same_Some t u (sym here ∙ at) in
          other-stays (Control task) (Object j) (sections u) others (ap sections (sym is) ∙ inside) (no-control task j) holds

  -- the pieces after a change of one task
  own-ends : (i : ℕ) (f : Task → Task) (ts : List Task) → ((k : ℕ) (t : Task) → Stands ts k t → AreEnds y t.pieces)
      → ((t : Task) → Stands ts i t → AreEnds y (f t).pieces) → (k : ℕ) (u : Task) → Stands (change i f ts) k u → AreEnds y u.pieces
  own-ends i f ts ends own = each-changed (λ k t. AreEnds y t.pieces) i f ts (λ k t other at. ends k t at) own

  going-ends : (i : ℕ) (vars : Variables) (ps : List Piece) (f : Task → Task) (ts : List Task) → AreEnds y ps
      → ((k : ℕ) (t : Task) → Stands ts k t → AreEnds y t.pieces)
      → (k : ℕ) (u : Task) → Stands (change i (λ u. going y.costs vars ps (f u)) ts) k u → AreEnds y u.pieces
  going-ends i vars ps f ts h ends =
      own-ends i (λ u. going y.costs vars ps (f u)) ts ends (λ t at. subst (AreEnds y) (sym (going-pieces y.costs vars ps (f t))) h)

  released-ends : (t : Task) → AreEnds y (released y.costs t).pieces
  released-ends t =
      subst (AreEnds y) (sym (going-pieces y.costs (parameter t.thread.timing t.gate.value ++ t.vars) (pieces t.thread.block (Finishing ∷ []))
      (record t { readiness = Ready; next = next_time t.thread.timing t.next; used = 0; gate = shut })))
      (block-ends y t.thread.block (Finishing ∷ []) (tt, tt))

  -- a release
  release-lends : (i : ℕ) (s : State) → Lends y s → Lends y (release y i s).0
  release-lends i s h = by (slice_get s.tasks i)
    where
      by : (o : Option Task) → Lends y (release_task y i o s).0
      by None = h
      by (Some t) =
          still s.tasks (change i (released y.costs) s.tasks) s.stores (faces-same i (released y.costs) s.tasks (released-face y.costs))
          (own-ends i (released y.costs) s.tasks h.ends (λ u at. released-ends u)) h

  serve-lends : (i : ℕ) (s : State) → Lends y s → Lends y (serve y i s).0
  serve-lends i s h = by (slice_get s.tasks i)
    where
      by : (o : Option Task) → Lends y (serve_task y i o s).0
      by None = h
      by (Some t) = served (is_waiting t.readiness && t.gate.open')
        where
          served : (b : Bool) → Lends y (if b then release y i s else (s, [])).0
          served true = release-lends i s h
          served false = h

  -- a change that leaves sections and pieces as they are
  quiet-lends : (i : ℕ) (f : Task → Task) (s : State) → ((t : Task) → face (f t) ≡ face t) → ((t : Task) → (f t).pieces ≡ t.pieces) → Lends y s
      → AreLent y (change i f s.tasks) s.stores
  quiet-lends i f s same pieces' h =
      still s.tasks (change i f s.tasks) s.stores (faces-same i f s.tasks same)
      (own-ends i f s.tasks h.ends (λ t at. subst (AreEnds y) (sym (pieces' t)) (h.ends i t at))) h

  module _ (May : Permission) (i : ℕ) (t : Task) (s : State) (here : Stands s.tasks i t) (closes : closers t.pieces ≡ sections t) (h : Lends y s) where
    enter-lends : (section : Resource) (told : List Event) (vars : Variables) (ps : List Piece) → AreEnds y ps
        → Lends y (entry y i t section told vars ps s).0
    enter-lends section told vars ps ends = by section (nat_lt (ceiling_of y section) t.active)
      where
        changes : (x : Resource) (vars' : Variables)
            → faces (change i (λ u. going y.costs vars' ps (inside_now x (ceiling_of y x) u)) s.tasks) ≡ change i (into x) (faces s.tasks)
        changes x vars' =
            faces-change i (λ u. going y.costs vars' ps (inside_now x (ceiling_of y x) u)) (into x) s.tasks
            (λ u. going-face y.costs vars' ps (inside_now x (ceiling_of y x) u))

        by : (x : Resource) (b : Bool) → Lends y (if b then stopped_at y t x s else entered_at y i x told vars ps s).0
        by x true = h
        by (Object object) false =
            lent-out s.tasks _ s.stores i object t here (changes (Object object) (lent (Object object) s vars))
            (going-ends i (lent (Object object) s vars) ps (inside_now (Object object) (ceiling_of y (Object object))) s.tasks ends h.ends) h
        by (Control task) false =
            control-in s.tasks _ s.stores i task (changes (Control task) vars)
            (going-ends i vars ps (inside_now (Control task) (ceiling_of y (Control task))) s.tasks ends h.ends) h

    go-lends : (vars : Variables) (ps : List Piece) → AreEnds y ps → AreLent y (change i (going y.costs vars ps) s.tasks) s.stores
    go-lends vars ps ends =
        still s.tasks (change i (going y.costs vars ps) s.tasks) s.stores (go-faces y i vars ps s.tasks)
        (going-ends i vars ps (λ u. u) s.tasks ends h.ends) h

    -- the effect of a piece
    acted-lends : (act : Act) (vars : Variables) (ps : List Piece) → ActFits y May (closers t.pieces) act ps → AreEnds y ps → HandsBack y act
        → Lends y (acted y i t act vars ps s).0
    acted-lends Silent vars ps fits ends back = go-lends vars ps ends
    acted-lends (Print v) vars ps fits ends back = go-lends vars ps ends
    acted-lends (Enter object op values) vars ps fits ends back =
        enter-lends (Object object) (event.Enter s.time t.thread.unit (object_unit y object) op values ∷ []) vars ps ends
    acted-lends (Leave object op values data') vars ps fits ends back =
        handed-back s.tasks _ s.stores i object t (closers ps) data' here (sym closes ∙ fits) (exit-faces y i vars ps s.tasks)
        (going-ends i vars ps outside_now s.tasks ends h.ends) back.0 back.1 back.2 h
    acted-lends (Ask task) vars ps fits ends back = enter-lends (Control task) [] vars ps ends
    acted-lends (Keep task v) vars ps fits ends back =
        quiet-lends task (λ u. record u { gate = record u.gate { value = v } }) (record s { tasks = change i (going y.costs vars ps) s.tasks })
        (λ u. refl) (λ u. refl) (go-lends vars ps ends)
    acted-lends (Open task) vars ps fits ends back =
        quiet-lends task (λ u. record u { gate = record u.gate { open' = true } }) (record s { tasks = change i (going y.costs vars ps) s.tasks })
        (λ u. refl) (λ u. refl) (go-lends vars ps ends)
    acted-lends (Ended task v) vars ps fits ends back =
        serve-lends task (exit y i vars ps s)
        (control-out s.tasks _ s.stores i task t (closers ps) here (sym closes ∙ fits) (exit-faces y i vars ps s.tasks)
        (going-ends i vars ps outside_now s.tasks ends h.ends) h)
    acted-lends Finish vars ps fits ends back =
        serve-lends i (record s { tasks = change i (ended vars) s.tasks })
        (still s.tasks (change i (ended vars) s.tasks) s.stores (faces-same i (ended vars) s.tasks (λ u. refl))
        (own-ends i (ended vars) s.tasks h.ends (λ u at. tt)) h)

module _ (y : System) (May : ℕ → Permission) (text : AreWritten y May) where
  effect-lends : (s : State) → Keeps y May s → Lends y s → Lends y (effect_step y s.ran s).0
  effect-lends s keeps h = by s.ran
    where
      by : (ran : Option ℕ) → Lends y (effect_step y ran s).0
      by None = h
      by (Some i) = at (slice_get s.tasks i) refl
        where
          at : (o : Option Task) → slice_get s.tasks i ≡ o → Lends y (effect_at y i o s).0
          at None f = h
          at (Some t) f = piece t.pieces refl
            where
              piece : (ps : List Piece) → t.pieces ≡ ps → Lends y (effect_of y i t ps s).0
              piece [] g = h
              piece (p ∷ ps) g = now (t.left == 0)
                where
                  now : (b : Bool) → Lends y (if b then acted y i t (done y p t.vars ps).act (done y p t.vars ps).vars
                      (done y p t.vars ps).pieces s else goes_to Delays s).0
                  now true =
                      let sound = keeps.sound i t f in
                      let ends = subst (AreEnds y) g (h.ends i t f) in
                      let d = done-fits y (May i) (text.closed i) p t.vars ps (subst (AreFit (May i)) g sound.fits) in
                      acted-lends y (May i) i t s f sound.closes h (done y p t.vars ps).act (done y p t.vars ps).vars (done y p t.vars ps).pieces
                      (subst (λ xs. ActFits y (May i) (closers xs) (done y p t.vars ps).act (done y p t.vars ps).pieces) (sym g) d.1)
                      (done-ends y p t.vars ps ends) (done-back y p t.vars ps ends.0)
                  now false = h

  delay-lends : (s : State) → Lends y s → Lends y (delay_step y (first_where (λ t. is_due s.time t.readiness) s.tasks) s).0
  delay-lends s h = by (first_where (λ t. is_due s.time t.readiness) s.tasks)
    where
      by : (o : Option (ℕ × Task)) → Lends y (delay_step y o s).0
      by None = h
      by (Some sleeper) = release-lends y sleeper.0 s h

  arrival-lends : (s : State) → Lends y s → Lends y (arrival_step y s.arrivals s).0
  arrival-lends s h = by s.arrivals
    where
      horizon : (b : Bool) → Lends y (if b then (record s { stopped = true }, event.Horizon s.time ∷ []) else goes_to Use s).0
      horizon true = h
      horizon false = h

      arrive : (a : Arrival) (others : List Arrival) (o : Option (ℕ × Task)) → Lends y (arrive_at y a o (record s { arrivals = others })).0
      arrive a others None = h
      arrive a others (Some t) =
          let opened : Task → Task = λ u. record u { gate = record { value = a.value; open' = true } } in
          serve-lends y t.0 (record s { arrivals = others; tasks = change t.0 opened s.tasks })
          (quiet-lends y t.0 opened s (λ u. refl) (λ u. refl) h)

      by : (as' : List Arrival) → Lends y (arrival_step y as' s).0
      by [] = horizon (s.time == y.until)
      by (a ∷ others) = now (a.time == s.time)
        where
          now : (b : Bool) → Lends y (if b then arrive_at y a (first_where (λ t. t.thread.unit == a.task) s.tasks)
              (record s { arrivals = others }) else horizon_step y s).0
          now true = arrive a others (first_where (λ t. t.thread.unit == a.task) s.tasks)
          now false = horizon (s.time == y.until)

  use-lends : (s : State) → Lends y s → Lends y (use_step y (dispatched s.tasks s.orders) s).0
  use-lends s h = by (dispatched s.tasks s.orders)
    where
      by : (o : Option ℕ) → Lends y (use_step y o s).0
      by None = h
      by (Some i) = quiet-lends y i tick s (λ u. refl) (λ u. refl) h

  step-in-lends : (s : State) (phase : Phase) → Keeps y May s → Lends y s → Lends y (step_in phase y s).0
  step-in-lends s Effects keeps h = effect-lends s keeps h
  step-in-lends s Delays keeps h = delay-lends s h
  step-in-lends s Arriving keeps h = arrival-lends s h
  step-in-lends s Use keeps h = use-lends s h

  -- each step keeps it
  pub step-lends : (s : State) → Keeps y May s → Lends y s → Lends y (step y s).0
  step-lends s keeps h = by s.stopped
    where
      by : (b : Bool) → Lends y (if b then (s, []) else step_in s.phase y s).0
      by true = h
      by false = step-in-lends s s.phase keeps h

-- the opening
pub opening-lends : (y : System) (as' : List Arrival) → Lends y (opening y as')
opening-lends y as' = record {
  ends = λ k t at.
      let found : (th : TaskUnit) × (slice_get y.threads k ≡ Some th) × (first_task th ≡ t) = mapped-at first_task y.threads k t at in
      subst (λ u. AreEnds y u.pieces) found.2 tt;
  has = λ j g at. (written g.vars, stored j g at);
  home = λ j g at free. (written g.vars, stored j g at, written-names g.vars);
}
  where
    stored : (j : ℕ) (g : ProtectedUnit) → slice_get y.objects j ≡ Some g → slice_get (map (λ x. written x.vars) y.objects) j ≡ Some (written g.vars)
    stored j g at = slice_get-map (λ x. written x.vars) y.objects j ∙ ap (option_map (λ x. written x.vars)) at
