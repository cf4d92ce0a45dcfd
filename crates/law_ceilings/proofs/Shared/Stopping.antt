-- Where tasks call at ceilings of at least their active priority, no step tells a stop at a ceiling.
use Rattle.std.specs.Prelude.{◌≡◌, ◌≤◌, ◌<◌, ◌&&◌, ℕ, zero, suc, Bool, true, false, nat_lt, List, [], ◌∷◌, map, slice_get, Option, Some, None}
use Rattle.std.specs.Prelude.{option_map, unwrap_or, ◌==◌, if◌then◌else◌, refl}
use Rattle.std.proofs.Common.{sym, ◌∙◌, ap, subst, arith, le_trans}
use Rattle.std.proofs.lemmas.Option.{none-some, same_Some}
use Rattle.seq_tree.specs.Lists.{Each, change, first_where}
use Rattle.seq_tree.specs.Variables.{Variables}
use Rattle.arrivals_tree.specs.declared.arrivals.Arrival.{Arrival}
use Rattle.trace_tree.specs.declared.event.Event.{Event}
use Rattle.trace_tree.specs.declared.event.Event.TheVariants as event
use Rattle.machine.specs.Systems.{System, TaskUnit, CallTarget, Plain, Protected, Request, Unknown, callee}
use Rattle.machine.specs.Pieces.{Piece}
use Rattle.machine.specs.Deeds.{Act, Silent, Print, Enter, Leave, Ask, Keep, Open, Ended, Finish, done}
use Rattle.machine.specs.States.{State, Task, Phase, Effects, Delays, Arriving, Use, Resource, Object, Control, Held, opening}
use Rattle.machine.specs.Effects.{ceiling_of, stopped_at, entered_at, entry, exit, ended, acted, object_unit}
use Rattle.machine.specs.Dispatch.{dispatched}
use Rattle.machine.specs.Releases.{release_task, release, is_waiting, serve_task, serve}
use Rattle.machine.specs.Steps.{goes_to, effect_of, effect_at, effect_step, is_due, delay_step, horizon_step, arrive_at, arrival_step, use_step}
use Rattle.machine.specs.Steps.{step_in, step}
use Rattle.machine.specs.Meanings.{run, Rest}
use Rattle.law_ceilings.proofs.Shared.Pieces.{Inside, closers, AreFit, entered_by, LeadsWithin}
use Rattle.law_ceilings.specs.Sections.{Stands, sections, AreStacked}
use Rattle.law_ceilings.proofs.Shared.Kept.{IsSound, Keeps}
use Rattle.law_ceilings.specs.Ceilings.{IsMadeFrom, RisesTo, IsCeiled, priority_at, GoesOn}
use Rattle.law_ceilings.proofs.Shared.Permissions.{level, Rises, AllRise}
use Rattle.law_ceilings.proofs.Shared.Fitting.{block-weaken, ActFits, done-fits, IsEntered}
use Rattle.law_ceilings.proofs.Shared.Keeping.{AreWritten, opening-keeps, step-keeps}
use Rattle.law_lists.proofs.Shared.Lists.{each-append}

-- the active priority is that of the innermost section, or the base one
pub stacked-level : (y : System) (base active : ℕ) (hs : List Held) → AreStacked y base active hs → active ≡ level y base (map (λ h. h.section) hs)
stacked-level y base active [] s = s
stacked-level y base active (h ∷ hs) s = s.0

pub priority-at : (y : System) (i : ℕ) (t : TaskUnit) → slice_get y.threads i ≡ Some t → priority_at y i ≡ t.priority
priority-at y i t e = ap (λ o. unwrap_or (option_map (λ th. th.priority) o) 0) e

module _ (y : System) (c : IsCeiled y) where
  pub rises-text : AreWritten y (AllRise y c.reach)
  rises-text = record {
    closed = λ i unit op ss may. by (priority_at y i) ss (c.reach.low unit op) may.1 (callee y unit op) (c.calls unit op may.0);
    tasks = λ i t at. block-weaken (IsMadeFrom c.reach t.priority) (Inside (AllRise y c.reach i) [])
        (λ unit op h. (
          h.0,
          (let same : priority_at y i ≡ t.priority = priority-at y i t at in let low : t.priority ≤ c.reach.low unit op = h.1
              in omega arith),
        )) false t.block (c.tasks i t at);
  }
    where
      by : (base : ℕ) (ss : List Resource) (n : ℕ) → level y base ss ≤ n → (x : CallTarget) → RisesTo y c.reach n x
          → LeadsWithin (Rises y c.reach base) x ss
      by base ss n low (Plain o) rises = block-weaken (IsMadeFrom c.reach n) (Inside (Rises y c.reach base) ss)
          (λ unit op h. (h.0, le_trans low h.1)) false o.block rises
      by base ss n low (Protected object j g o) rises = rises.1
      by base ss n low (Request task) rises = tt
      by base ss n low Unknown rises = tt

  -- a section that is entered has a ceiling of at least the active priority
  pub entry-low : (i : ℕ) (t : Task) (section : Resource) → IsSound y (AllRise y c.reach i) i t
      → IsEntered y (AllRise y c.reach i) section (sections t) → t.active ≤ ceiling_of y section
  entry-low i t section sound e =
      let base : priority_at y i ≡ t.thread.priority = priority-at y i t.thread sound.written in
      let active : t.active ≡ level y t.thread.priority (sections t) = stacked-level y t.thread.priority t.active t.inside sound.stacked in
      let now : t.active ≡ level y (priority_at y i) (sections t) = active ∙ ap (λ n. level y n (sections t)) (sym base) in
      let low : level y (priority_at y i) (sections t) ≤ c.reach.low e.unit e.op = e.may.1 in
      let high = by (callee y e.unit e.op) (c.calls e.unit e.op e.may.0) e.enters in
      omega (arith, now, low, high)
    where
      by : (x : CallTarget) → RisesTo y c.reach (c.reach.low e.unit e.op) x → entered_by x ≡ Some section
          → c.reach.low e.unit e.op ≤ ceiling_of y section
      by (Plain o) rises enters = absurd (none-some section enters)
      by (Protected object j g o) rises enters = subst (λ z. c.reach.low e.unit e.op ≤ ceiling_of y z)
          (same_Some (Object object) section enters) rises.0
      by (Request task) rises enters = subst (λ z. c.reach.low e.unit e.op ≤ ceiling_of y z) (same_Some (Control task) section enters) rises
      by Unknown rises enters = absurd (none-some section enters)

  abbrev GoOn : List Event → Type 0
  GoOn told = Each GoesOn told

  release-goes-on : (k : ℕ) (s : State) → GoOn (release y k s).1
  release-goes-on k s = by (slice_get s.tasks k)
    where
      by : (o : Option Task) → GoOn (release_task y k o s).1
      by None = tt
      by (Some t) = (tt, tt)

  serve-goes-on : (k : ℕ) (s : State) → GoOn (serve y k s).1
  serve-goes-on k s = by (slice_get s.tasks k)
    where
      by : (o : Option Task) → GoOn (serve_task y k o s).1
      by None = tt
      by (Some t) = served (is_waiting t.readiness && t.gate.open')
        where
          served : (b : Bool) → GoOn (if b then release y k s else (s, [])).1
          served true = release-goes-on k s
          served false = tt

  module _ (s : State) (keeps : Keeps y (AllRise y c.reach) s) where
    entry-goes-on : (i : ℕ) (t : Task) (section : Resource) (told : List Event) (vars' : Variables) (ps : List Piece)
        → t.active ≤ ceiling_of y section → GoOn told
        → GoOn (entry y i t section told vars' ps s).1
    entry-goes-on i t section told vars' ps low goes = by (nat_lt (ceiling_of y section) t.active) refl
      where
        by : (b : Bool) → nat_lt (ceiling_of y section) t.active ≡ b
            → GoOn (if b then stopped_at y t section s else entered_at y i section told vars' ps s).1
        by true e = absurd (let above : ceiling_of y section < t.active = grind arith in omega arith)
        by false e = goes

    acted-goes-on : (i : ℕ) (t : Task) → Stands s.tasks i t → (act : Act) (vars' : Variables) (ps : List Piece)
        → ActFits y (AllRise y c.reach i) (closers t.pieces) act ps
        → GoOn (acted y i t act vars' ps s).1
    acted-goes-on i t stands Silent vars' ps act = tt
    acted-goes-on i t stands (Print v) vars' ps act = (tt, tt)
    acted-goes-on i t stands (Enter object op values) vars' ps act =
        let sound = keeps.sound i t stands in
        entry-goes-on i t (Object object) (event.Enter s.time t.thread.unit (object_unit y object) op values ∷ []) vars' ps
        (entry-low i t (Object object) sound (subst (IsEntered y (AllRise y c.reach i) (Object object)) sound.closes act.0)) (tt, tt)
    acted-goes-on i t stands (Leave object op values data') vars' ps act = (tt, tt)
    acted-goes-on i t stands (Ask task) vars' ps act =
        let sound = keeps.sound i t stands in
        entry-goes-on i t (Control task) [] vars' ps
        (entry-low i t (Control task) sound (subst (IsEntered y (AllRise y c.reach i) (Control task)) sound.closes act.0)) tt
    acted-goes-on i t stands (Keep task v) vars' ps act = tt
    acted-goes-on i t stands (Open task) vars' ps act = tt
    acted-goes-on i t stands (Ended task v) vars' ps act = (tt, serve-goes-on task (exit y i vars' ps s))
    acted-goes-on i t stands Finish vars' ps act = (tt, serve-goes-on i (record s { tasks = change i (ended vars') s.tasks }))

    effect-goes-on : (ran : Option ℕ) → GoOn (effect_step y ran s).1
    effect-goes-on None = tt
    effect-goes-on (Some i) = at (slice_get s.tasks i) refl
      where
        at : (o : Option Task) → slice_get s.tasks i ≡ o → GoOn (effect_at y i o s).1
        at None f = tt
        at (Some t) f = piece t.pieces refl
          where
            piece : (ps : List Piece) → t.pieces ≡ ps → GoOn (effect_of y i t ps s).1
            piece [] g = tt
            piece (p ∷ ps) g = now (t.left == 0)
              where
                now : (b : Bool) → GoOn (if b then acted y i t (done y p t.vars ps).act (done y p t.vars ps).vars
                    (done y p t.vars ps).pieces s else goes_to Delays s).1
                now true =
                    let sound = keeps.sound i t f in
                    let d = done-fits y (AllRise y c.reach i) (rises-text.closed i) p t.vars ps (subst (AreFit (AllRise y c.reach i)) g sound.fits) in
                    acted-goes-on i t f (done y p t.vars ps).act (done y p t.vars ps).vars (done y p t.vars ps).pieces
                    (subst (λ xs. ActFits y (AllRise y c.reach i) (closers xs) (done y p t.vars ps).act (done y p t.vars ps).pieces) (sym g) d.1)
                now false = tt

    delay-goes-on : (o : Option (ℕ × Task)) → GoOn (delay_step y o s).1
    delay-goes-on None = tt
    delay-goes-on (Some sleeper) = release-goes-on sleeper.0 s

    arrival-goes-on : (xs : List Arrival) → GoOn (arrival_step y xs s).1
    arrival-goes-on xs = by xs
      where
        horizon : (b : Bool) → GoOn (if b then (record s { stopped = true }, event.Horizon s.time ∷ []) else goes_to Use s).1
        horizon true = (tt, tt)
        horizon false = tt

        arrive : (a : Arrival) (others : List Arrival) (o : Option (ℕ × Task)) → GoOn (arrive_at y a o (record s { arrivals = others })).1
        arrive a others None = tt
        arrive a others (Some t) = (
          tt,
          serve-goes-on t.0 (record s {
            arrivals = others;
            tasks = change t.0 (λ u. record u { gate = record { value = a.value; open' = true } }) s.tasks;
          }),
        )

        by : (zs : List Arrival) → GoOn (arrival_step y zs s).1
        by [] = horizon (s.time == y.until)
        by (a ∷ others) = now (a.time == s.time)
          where
            now : (b : Bool) → GoOn (if b then arrive_at y a (first_where (λ t. t.thread.unit == a.task) s.tasks)
                (record s { arrivals = others }) else horizon_step y s).1
            now true = arrive a others (first_where (λ t. t.thread.unit == a.task) s.tasks)
            now false = horizon (s.time == y.until)

    use-goes-on : (o : Option ℕ) → GoOn (use_step y o s).1
    use-goes-on None = tt
    use-goes-on (Some i) = tt

    step-in-goes-on : (phase : Phase) → GoOn (step_in phase y s).1
    step-in-goes-on Effects = effect-goes-on s.ran
    step-in-goes-on Delays = delay-goes-on (first_where (λ t. is_due s.time t.readiness) s.tasks)
    step-in-goes-on Arriving = arrival-goes-on s.arrivals
    step-in-goes-on Use = use-goes-on (dispatched s.tasks s.orders)

    -- no step tells a stop
    pub step-goes-on : GoOn (step y s).1
    step-goes-on = by s.stopped
      where
        by : (b : Bool) → GoOn (if b then (s, []) else step_in s.phase y s).1
        by true = tt
        by false = step-in-goes-on s.phase

  run-goes-on : (n : ℕ) (s : State) → Keeps y (AllRise y c.reach) s → GoOn (run y n s).1
  run-goes-on zero s keeps = tt
  run-goes-on (suc n) s keeps =
      each-append GoesOn (step y s).1 (run y n (step y s).0).1 (step-goes-on s keeps)
      (run-goes-on n (step y s).0 (step-keeps y (AllRise y c.reach) rises-text s keeps))

  -- no run stops at a ceiling
  pub rest-goes-on : (as' : List Arrival) (told : List Event) → Rest y (opening y as') told → Each GoesOn told
  rest-goes-on as' told rest = subst (Each GoesOn) rest.tells (run-goes-on rest.steps (opening y as') (opening-keeps y (AllRise y c.reach) as'))
