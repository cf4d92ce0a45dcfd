-- What a step is to sections: it leaves them as they are, a task enters one, or a task leaves its innermost one; and what passages it tells.
use Rattle.std.specs.Prelude.{◌≡◌, ◌≤◌, ◌&&◌, ◌++◌, ℕ, zero, suc, Bool, true, false, nat_lt, List, [], ◌∷◌, map, drop, slice_get, Option, Some}
use Rattle.std.specs.Prelude.{None, ◌==◌, if◌then◌else◌, refl}
use Rattle.std.proofs.Common.{sym, ◌∙◌, ap, subst, arith}
use Rattle.seq_tree.specs.Lists.{change, first_where}
use Rattle.seq_tree.specs.Variables.{Variables}
use Rattle.seq_tree.specs.declared.tree.Costs.{Costs}
use Rattle.arrivals_tree.specs.declared.arrivals.Arrival.{Arrival}
use Rattle.trace_tree.specs.declared.event.Event.{Event}
use Rattle.trace_tree.specs.declared.event.Event.TheVariants as event
use Rattle.trace_tree.specs.Exclusion.{Passage, Into, Out, passages}
use Rattle.machine.specs.Systems.{System}
use Rattle.machine.specs.Pieces.{Piece, Finishing, pieces}
use Rattle.machine.specs.Deeds.{Act, Silent, Print, Enter, Leave, Ask, Keep, Open, Ended, Finish, done}
use Rattle.machine.specs.States.{State, Task, Phase, Effects, Delays, Arriving, Use, Ready, Resource, Object, Control, Held, shut}
use Rattle.machine.specs.Effects.{ceiling_of, inside_now, outside_by, outside_now, lent, stopped_at, entered_at, entry, exit, ended, acted}
use Rattle.machine.specs.Effects.{object_unit}
use Rattle.machine.specs.Dispatch.{dispatched}
use Rattle.machine.specs.Releases.{Next, going, released, release_task, release, is_waiting, serve_task, serve, parameter, next_time}
use Rattle.machine.specs.Steps.{goes_to, effect_of, effect_at, effect_step, is_due, delay_step, horizon_step, arrive_at, arrival_step, use_step}
use Rattle.machine.specs.Steps.{step_in, step}
use Rattle.law_ceilings.proofs.Shared.Pieces.{Permission, closers, AreFit}
use Rattle.law_ceilings.specs.Sections.{Stands, sections}
use Rattle.law_ceilings.proofs.Shared.Kept.{Keeps}
use Rattle.law_ceilings.proofs.Shared.Fitting.{ActFits, done-fits, IsEntered}
use Rattle.law_ceilings.proofs.Shared.Keeping.{AreWritten, tick}

-- what sections see of a task: its unit, and those that it is inside
abbrev pub Face : Type 0
Face = ℕ × List Resource

abbrev pub face : Task → Face
face t = (t.thread.unit, sections t)

abbrev pub faces : List Task → List Face
faces ts = map face ts

pub faces-same : (i : ℕ) (f : Task → Task) (ts : List Task) → ((t : Task) → face (f t) ≡ face t) → faces (change i f ts) ≡ faces ts
faces-same i f [] e = refl
faces-same zero f (t ∷ ts) e = ap (λ x. x ∷ faces ts) (e t)
faces-same (suc i) f (t ∷ ts) e = ap (λ xs. face t ∷ xs) (faces-same i f ts e)

pub faces-change : (i : ℕ) (f : Task → Task) (g : Face → Face) (ts : List Task) → ((t : Task) → face (f t) ≡ g (face t))
    → faces (change i f ts) ≡ change i g (faces ts)
faces-change i f g [] e = refl
faces-change zero f g (t ∷ ts) e = ap (λ x. x ∷ faces ts) (e t)
faces-change (suc i) f g (t ∷ ts) e = ap (λ xs. face t ∷ xs) (faces-change i f g ts e)

pub going-face : (costs : Costs) (vars' : Variables) (ps : List Piece) (t : Task) → face (going costs vars' ps t) ≡ face t
going-face costs vars' [] t = refl
going-face costs vars' (p ∷ ps) t = refl

pub released-face : (costs : Costs) (t : Task) → face (released costs t) ≡ face t
released-face costs t =
    going-face costs (parameter t.thread.timing t.gate.value ++ t.vars) (pieces t.thread.block (Finishing ∷ []))
    (record t { readiness = Ready; next = next_time t.thread.timing t.next; used = 0; gate = shut })

abbrev pub into : Resource → Face → Face
into section f = (f.0, section ∷ f.1)

abbrev pub out_of : Face → Face
out_of f = (f.0, drop 1 f.1)

outside-face : (t : Task) → face (outside_now t) ≡ out_of (face t)
outside-face t = by t.inside refl
  where
    by : (hs : List Held) → t.inside ≡ hs → face (outside_by hs t) ≡ (t.thread.unit, drop 1 (map (λ h. h.section) hs))
    by [] e = ap (λ hs. (t.thread.unit, map (λ h. h.section) hs)) e
    by (h ∷ hs) e = refl

pub exit-faces : (y : System) (i : ℕ) (vars' : Variables) (ps : List Piece) (ts : List Task)
    → faces (change i (λ u. going y.costs vars' ps (outside_now u)) ts) ≡ change i out_of (faces ts)
exit-faces y i vars' ps ts =
    faces-change i (λ u. going y.costs vars' ps (outside_now u)) out_of ts (λ u. going-face y.costs vars' ps (outside_now u) ∙ outside-face u)

pub go-faces : (y : System) (i : ℕ) (vars' : Variables) (ps : List Piece) (ts : List Task) → faces (change i (going y.costs vars' ps) ts) ≡ faces ts
go-faces y i vars' ps ts = faces-same i (going y.costs vars' ps) ts (going-face y.costs vars' ps)

-- events that tell no passage
abbrev pub IsUnheard : List Event → Type 0
IsUnheard told = (u : ℕ) (more : List Event) → passages u (told ++ more) ≡ passages u more

-- a passage of a section, where it is the object of this unit
abbrev pub passage_if : System → Resource → ℕ → Passage → List Passage → List Passage
passage_if y (Object object) u p ps = if object_unit y object == u then p ∷ ps else ps
passage_if y (Control task) u p ps = ps

-- a task at the entry of a section
pub record IsEntering (y : System) (May : ℕ → Permission) (s : State) (i : ℕ) (t : Task) (section : Resource) : Type 0 where
  pub effects : s.phase ≡ Effects
  pub ran : s.ran ≡ Some i
  pub stands : Stands s.tasks i t
  pub low : t.active ≤ ceiling_of y section
  pub entered : IsEntered y (May i) section (sections t)

-- a task at the exit from its innermost section
pub record IsLeaving (s : State) (i : ℕ) (t : Task) (section : Resource) : Type 0 where
  pub stands : Stands s.tasks i t
  pub others : List Resource
  pub inside : sections t ≡ section ∷ others

-- what a step is to sections
pub data Passing (y : System) (May : ℕ → Permission) (s : State) (n : Next) : Type 0 where
  Stays : (same : faces n.0.tasks ≡ faces s.tasks) (unheard : IsUnheard n.1) → Passing y May s n
  Enters : (i : ℕ) (t : Task) (section : Resource) (entering : IsEntering y May s i t section)
      (changes : faces n.0.tasks ≡ change i (into section) (faces s.tasks))
      (tells : (u : ℕ) (more : List Event) → passages u (n.1 ++ more) ≡ passage_if y section u (Into t.thread.unit) (passages u more))
      → Passing y May s n
  Leaves : (i : ℕ) (t : Task) (section : Resource) (leaving : IsLeaving s i t section)
      (changes : faces n.0.tasks ≡ change i out_of (faces s.tasks))
      (tells : (u : ℕ) (more : List Event) → passages u (n.1 ++ more) ≡ passage_if y section u (Out t.thread.unit) (passages u more))
      → Passing y May s n

module _ (y : System) where
  -- a release leaves sections as they are
  abbrev IsStill : State → Next → Type 0
  IsStill s n = (faces n.0.tasks ≡ faces s.tasks) × IsUnheard n.1

  release-still : (i : ℕ) (s : State) → IsStill s (release y i s)
  release-still i s = by (slice_get s.tasks i)
    where
      by : (o : Option Task) → IsStill s (release_task y i o s)
      by None = (refl, λ u more. refl)
      by (Some t) = (faces-same i (released y.costs) s.tasks (released-face y.costs), λ u more. refl)

  serve-still : (i : ℕ) (s : State) → IsStill s (serve y i s)
  serve-still i s = by (slice_get s.tasks i)
    where
      by : (o : Option Task) → IsStill s (serve_task y i o s)
      by None = (refl, λ u more. refl)
      by (Some t) = served (is_waiting t.readiness && t.gate.open')
        where
          served : (b : Bool) → IsStill s (if b then release y i s else (s, []))
          served true = release-still i s
          served false = (refl, λ u more. refl)

module _ (y : System) (May : ℕ → Permission) (text : AreWritten y May) where
  module _ (i : ℕ) (t : Task) (s : State) (effects : s.phase ≡ Effects) (ran : s.ran ≡ Some i) (stands : Stands s.tasks i t)
      (closes : closers t.pieces ≡ sections t) where
    entry-passing : (section : Resource) (told : List Event) (vars' : Variables) (ps : List Piece) → IsEntered y (May i) section (closers t.pieces)
        → ((u : ℕ) (more : List Event) → passages u (told ++ more) ≡ passage_if y section u (Into t.thread.unit) (passages u more))
        → Passing y May s (entry y i t section told vars' ps s)
    entry-passing section told vars' ps enters tells = by (nat_lt (ceiling_of y section) t.active) refl
      where
        changes : (x : Resource) → faces (entered_at y i x told vars' ps s).0.tasks ≡ change i (into x) (faces s.tasks)
        changes (Object object) =
            faces-change i (λ u. going y.costs (lent (Object object) s vars') ps (inside_now (Object object) (ceiling_of y (Object object)) u))
            (into (Object object)) s.tasks
            (λ u. going-face y.costs (lent (Object object) s vars') ps (inside_now (Object object) (ceiling_of y (Object object)) u))
        changes (Control task) =
            faces-change i (λ u. going y.costs vars' ps (inside_now (Control task) (ceiling_of y (Control task)) u)) (into (Control task)) s.tasks
            (λ u. going-face y.costs vars' ps (inside_now (Control task) (ceiling_of y (Control task)) u))

        by : (b : Bool) → nat_lt (ceiling_of y section) t.active ≡ b
            → Passing y May s (if b then stopped_at y t section s else entered_at y i section told vars' ps s)
        by true e = Stays refl (λ u more. refl)
        by false e =
            Enters i t section
            (record {
              effects = effects;
              ran = ran;
              stands = stands;
              low = (let low : t.active ≤ ceiling_of y section = grind arith in low);
              entered = subst (IsEntered y (May i) section) closes enters;
            })
            (changes section) tells

    leaving : (section : Resource) (ps : List Piece) → closers t.pieces ≡ section ∷ closers ps → IsLeaving s i t section
    leaving section ps e = record { stands = stands; others = closers ps; inside = sym closes ∙ e }

    acted-passing : (act : Act) (vars' : Variables) (ps : List Piece) → ActFits y (May i) (closers t.pieces) act ps
        → Passing y May s (acted y i t act vars' ps s)
    acted-passing Silent vars' ps act = Stays (go-faces y i vars' ps s.tasks) (λ u more. refl)
    acted-passing (Print v) vars' ps act = Stays (go-faces y i vars' ps s.tasks) (λ u more. refl)
    acted-passing (Enter object op values) vars' ps act =
        entry-passing (Object object) (event.Enter s.time t.thread.unit (object_unit y object) op values ∷ []) vars' ps act.0 (λ u more. refl)
    acted-passing (Leave object op values data') vars' ps act =
        Leaves i t (Object object) (leaving (Object object) ps act) (exit-faces y i vars' ps s.tasks) (λ u more. refl)
    acted-passing (Ask task) vars' ps act = entry-passing (Control task) [] vars' ps act.0 (λ u more. refl)
    acted-passing (Keep task v) vars' ps act =
        Stays (faces-same task (λ u. record u { gate = record u.gate { value = v } }) (change i (going y.costs vars' ps) s.tasks)
        (λ u. refl) ∙ go-faces y i vars' ps s.tasks) (λ u more. refl)
    acted-passing (Open task) vars' ps act =
        Stays (faces-same task (λ u. record u { gate = record u.gate { open' = true } }) (change i (going y.costs vars' ps) s.tasks)
        (λ u. refl) ∙ go-faces y i vars' ps s.tasks) (λ u more. refl)
    acted-passing (Ended task v) vars' ps act =
        let still = serve-still y task (exit y i vars' ps s) in
        Leaves i t (Control task) (leaving (Control task) ps act) (still.0 ∙ exit-faces y i vars' ps s.tasks) (λ u more. still.1 u more)
    acted-passing Finish vars' ps act =
        let still = serve-still y i (record s { tasks = change i (ended vars') s.tasks }) in
        Stays (still.0 ∙ faces-same i (ended vars') s.tasks (λ u. refl)) (λ u more. still.1 u more)

  effect-passing : (s : State) → s.phase ≡ Effects → Keeps y May s → Passing y May s (effect_step y s.ran s)
  effect-passing s effects keeps = by s.ran refl
    where
      by : (ran : Option ℕ) → s.ran ≡ ran → Passing y May s (effect_step y ran s)
      by None e = Stays refl (λ u more. refl)
      by (Some i) e = at (slice_get s.tasks i) refl
        where
          at : (o : Option Task) → slice_get s.tasks i ≡ o → Passing y May s (effect_at y i o s)
          at None f = Stays refl (λ u more. refl)
          at (Some t) f = piece t.pieces refl
            where
              piece : (ps : List Piece) → t.pieces ≡ ps → Passing y May s (effect_of y i t ps s)
              piece [] g = Stays refl (λ u more. refl)
              piece (p ∷ ps) g = now (t.left == 0)
                where
                  now : (b : Bool) → Passing y May s (if b then acted y i t (done y p t.vars ps).act (done y p t.vars ps).vars
                      (done y p t.vars ps).pieces s else goes_to Delays s)
                  now true =
                      let sound = keeps.sound i t f in
                      let d = done-fits y (May i) (text.closed i) p t.vars ps (subst (AreFit (May i)) g sound.fits) in
                      acted-passing i t s effects e f sound.closes (done y p t.vars ps).act (done y p t.vars ps).vars (done y p t.vars ps).pieces
                      (subst (λ xs. ActFits y (May i) (closers xs) (done y p t.vars ps).act (done y p t.vars ps).pieces) (sym g) d.1)
                  now false = Stays refl (λ u more. refl)

  still-passing : (s : State) (n : Next) → IsStill y s n → Passing y May s n
  still-passing s n still = Stays still.0 still.1

  delay-passing : (s : State) → Passing y May s (delay_step y (first_where (λ t. is_due s.time t.readiness) s.tasks) s)
  delay-passing s = by (first_where (λ t. is_due s.time t.readiness) s.tasks)
    where
      by : (o : Option (ℕ × Task)) → Passing y May s (delay_step y o s)
      by None = Stays refl (λ u more. refl)
      by (Some sleeper) = still-passing s (release y sleeper.0 s) (release-still y sleeper.0 s)

  arrival-passing : (s : State) → Passing y May s (arrival_step y s.arrivals s)
  arrival-passing s = by s.arrivals
    where
      horizon : (b : Bool) → Passing y May s (if b then (record s { stopped = true }, event.Horizon s.time ∷ []) else goes_to Use s)
      horizon true = Stays refl (λ u more. refl)
      horizon false = Stays refl (λ u more. refl)

      arrive : (a : Arrival) (others : List Arrival) (o : Option (ℕ × Task)) → Passing y May s (arrive_at y a o (record s { arrivals = others }))
      arrive a others None = Stays refl (λ u more. refl)
      arrive a others (Some t) =
          let opened : Task → Task = λ u. record u { gate = record { value = a.value; open' = true } } in
          let still = serve-still y t.0 (record s { arrivals = others; tasks = change t.0 opened s.tasks }) in
          Stays (still.0 ∙ faces-same t.0 opened s.tasks (λ u. refl)) (λ u more. still.1 u more)

      by : (as' : List Arrival) → Passing y May s (arrival_step y as' s)
      by [] = horizon (s.time == y.until)
      by (a ∷ others) = now (a.time == s.time)
        where
          now : (b : Bool) → Passing y May s (if b then arrive_at y a (first_where (λ t. t.thread.unit == a.task) s.tasks)
              (record s { arrivals = others }) else horizon_step y s)
          now true = arrive a others (first_where (λ t. t.thread.unit == a.task) s.tasks)
          now false = horizon (s.time == y.until)

  use-passing : (s : State) → Passing y May s (use_step y (dispatched s.tasks s.orders) s)
  use-passing s = by (dispatched s.tasks s.orders)
    where
      by : (o : Option ℕ) → Passing y May s (use_step y o s)
      by None = Stays refl (λ u more. refl)
      by (Some i) = Stays (faces-same i tick s.tasks (λ u. refl)) (λ u more. refl)

  step-in-passing : (s : State) (phase : Phase) → s.phase ≡ phase → Keeps y May s → Passing y May s (step_in phase y s)
  step-in-passing s Effects e keeps = effect-passing s e keeps
  step-in-passing s Delays e keeps = delay-passing s
  step-in-passing s Arriving e keeps = arrival-passing s
  step-in-passing s Use e keeps = use-passing s

  -- what a step is to sections
  pub step-passing : (s : State) → Keeps y May s → Passing y May s (step y s)
  step-passing s keeps = by s.stopped
    where
      by : (b : Bool) → Passing y May s (if b then (s, []) else step_in s.phase y s)
      by true = Stays refl (λ u more. refl)
      by false = step-in-passing s s.phase refl keeps
