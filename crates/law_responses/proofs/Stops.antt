-- A run that tells no stop at a ceiling stops at the horizon.
use Rattle.std.specs.Prelude.{◌≡◌, ℕ, zero, suc, ◌==◌, ◌&&◌, nat_lt, Bool, true, false, List, [], ◌∷◌, ◌++◌, slice_get, Option, Some, None}
use Rattle.std.specs.Prelude.{if◌then◌else◌, refl}
use Rattle.std.proofs.Common.{sym, ◌∙◌, arith}
use Rattle.std.proofs.lemmas.Bool.{both_ways}
use Rattle.seq_tree.specs.Lists.{Each, change, first_where}
use Rattle.seq_tree.specs.Variables.{Variables}
use Rattle.arrivals_tree.specs.declared.arrivals.Arrival.{Arrival}
use Rattle.trace_tree.specs.declared.event.Event.{Event}
use Rattle.trace_tree.specs.declared.event.Event.TheVariants as event
use Rattle.machine.specs.Systems.{System}
use Rattle.machine.specs.Pieces.{Piece}
use Rattle.machine.specs.Deeds.{Act, Silent, Print, Enter, Leave, Ask, Keep, Open, Ended, Finish, done}
use Rattle.machine.specs.States.{State, Task, Phase, Effects, Delays, Arriving, Use, Resource, Object, Control}
use Rattle.machine.specs.Releases.{release, release_task, is_waiting, serve, serve_task}
use Rattle.machine.specs.Dispatch.{dispatched}
use Rattle.machine.specs.Effects.{stopped_at, entered_at, entry, exit, ended, acted, takes_effect, ceiling_of}
use Rattle.machine.specs.Steps.{goes_to, effect_of, effect_at, effect_step, is_due, delay_step, horizon_step, arrive_at, arrival_step, use_step}
use Rattle.machine.specs.Steps.{step_in, step}
use Rattle.machine.specs.Meanings.{run}
use Rattle.law_ceilings.specs.Ceilings.{GoesOn}

-- a run that has stopped is at the horizon
abbrev pub EndsWell : System → State → Type 0
EndsWell y s = s.stopped ≡ true → (s.phase ≡ Arriving) × (s.time ≡ y.until)

each-front : {A : Type 0} (P : A → Type 0) (xs ys : List A) → Each P (xs ++ ys) → Each P xs
each-front P [] ys h = tt
each-front P (x ∷ xs) ys h = (h.0, each-front P xs ys h.1)

each-back : {A : Type 0} (P : A → Type 0) (xs ys : List A) → Each P (xs ++ ys) → Each P ys
each-back P [] ys h = h
each-back P (x ∷ xs) ys h = each-back P xs ys h.1

released-stops : (y : System) (k : ℕ) (o : Option Task) (s : State) → (release_task y k o s).0.stopped ≡ s.stopped
released-stops y k None s = refl
released-stops y k (Some t) s = refl

serve-stops : (y : System) (k : ℕ) (s : State) → (serve y k s).0.stopped ≡ s.stopped
serve-stops y k s = by (slice_get s.tasks k)
  where
    by : (o : Option Task) → (serve_task y k o s).0.stopped ≡ s.stopped
    by None = refl
    by (Some t) = if_open (is_waiting t.readiness && t.gate.open')
      where
        if_open : (b : Bool) → (if b then release y k s else (s, [])).0.stopped ≡ s.stopped
        if_open true = released-stops y k (slice_get s.tasks k) s
        if_open false = refl

entered-stops : (y : System) (i : ℕ) (section : Resource) (told : List Event) (vars : Variables) (ps : List Piece) (s : State)
    → (entered_at y i section told vars ps s).0.stopped ≡ s.stopped
entered-stops y i (Object object) told vars ps s = refl
entered-stops y i (Control task) told vars ps s = refl

entry-stops : (y : System) (i : ℕ) (t : Task) (section : Resource) (told : List Event) (vars : Variables) (ps : List Piece) (s : State)
    → Each GoesOn (entry y i t section told vars ps s).1
    → (entry y i t section told vars ps s).0.stopped ≡ s.stopped
entry-stops y i t section told vars ps s h = by (nat_lt (ceiling_of y section) t.active) h
  where
    by : (b : Bool) → Each GoesOn (if b then stopped_at y t section s else entered_at y i section told vars ps s).1
        → (if b then stopped_at y t section s else entered_at y i section told vars ps s).0.stopped ≡ s.stopped
    by true g = absurd g.0
    by false g = entered-stops y i section told vars ps s

acted-stops : (y : System) (i : ℕ) (t : Task) (act : Act) (vars : Variables) (ps : List Piece) (s : State) → Each GoesOn (acted y i t act vars ps s).1
    → (acted y i t act vars ps s).0.stopped ≡ s.stopped
acted-stops y i t Silent vars ps s h = refl
acted-stops y i t (Print v) vars ps s h = refl
acted-stops y i t (Enter object op values) vars ps s h = entry-stops y i t (Object object) _ vars ps s h
acted-stops y i t (Leave object op values data') vars ps s h = refl
acted-stops y i t (Ask task) vars ps s h = entry-stops y i t (Control task) [] vars ps s h
acted-stops y i t (Keep task v) vars ps s h = refl
acted-stops y i t (Open task) vars ps s h = refl
acted-stops y i t (Ended task v) vars ps s h = serve-stops y task (exit y i vars ps s)
acted-stops y i t Finish vars ps s h = serve-stops y i (record s { tasks = change i (ended vars) s.tasks })

effects-stop : (y : System) (s : State) → Each GoesOn (effect_step y s.ran s).1 → (effect_step y s.ran s).0.stopped ≡ s.stopped
effects-stop y s h = by_ran s.ran h
  where
    by_left : (i : ℕ) (t : Task) (p : Piece) (ps : List Piece) (b : Bool)
        → Each GoesOn (if b then takes_effect y i t (done y p t.vars ps) s else goes_to Delays s).1
        → (if b then takes_effect y i t (done y p t.vars ps) s else goes_to Delays s).0.stopped ≡ s.stopped
    by_left i t p ps true g = acted-stops y i t ((done y p t.vars ps).act) ((done y p t.vars ps).vars) ((done y p t.vars ps).pieces) s g
    by_left i t p ps false g = refl

    by_pieces : (i : ℕ) (t : Task) (ps : List Piece) → Each GoesOn (effect_of y i t ps s).1 → (effect_of y i t ps s).0.stopped ≡ s.stopped
    by_pieces i t [] g = refl
    by_pieces i t (p ∷ ps) g = by_left i t p ps (t.left == 0) g

    by_task : (i : ℕ) (o : Option Task) → Each GoesOn (effect_at y i o s).1 → (effect_at y i o s).0.stopped ≡ s.stopped
    by_task i None g = refl
    by_task i (Some t) g = by_pieces i t t.pieces g

    by_ran : (o : Option ℕ) → Each GoesOn (effect_step y o s).1 → (effect_step y o s).0.stopped ≡ s.stopped
    by_ran None g = refl
    by_ran (Some i) g = by_task i (slice_get s.tasks i) g

delays-stop : (y : System) (o : Option (ℕ × Task)) (s : State) → (delay_step y o s).0.stopped ≡ s.stopped
delays-stop y None s = refl
delays-stop y (Some t) s = released-stops y t.0 (slice_get s.tasks t.0) s

use-stops : (y : System) (o : Option ℕ) (s : State) → (use_step y o s).0.stopped ≡ s.stopped
use-stops y None s = refl
use-stops y (Some i) s = refl

arrive-stops : (y : System) (a : Arrival) (o : Option (ℕ × Task)) (s : State) → (arrive_at y a o s).0.stopped ≡ s.stopped
arrive-stops y a None s = refl
arrive-stops y a (Some t) s = serve-stops y t.0 (record s {
  tasks
      = change t.0 (λ u. record u { gate = record { value = a.value; open' = true } }) s.tasks;
})

horizon-ends : (y : System) (s : State) → s.stopped ≡ false → s.phase ≡ Arriving → EndsWell y (horizon_step y s).0
horizon-ends y s going arriving = by (s.time == y.until) refl
  where
    by : (b : Bool) → (s.time == y.until) ≡ b → EndsWell y (if b then (record s { stopped = true }, event.Horizon s.time ∷ []) else goes_to Use s).0
    by true e stops = (arriving, (let same : s.time ≡ y.until = grind arith in same))
    by false e stops = absurd (both_ways s.stopped going stops)

going-ends : (y : System) (s s' : State) → s'.stopped ≡ s.stopped → s.stopped ≡ false → EndsWell y s'
going-ends y s s' same going stops = absurd (both_ways s.stopped going (sym same ∙ stops))

arrivals-end : (y : System) (s : State) → s.stopped ≡ false → s.phase ≡ Arriving → EndsWell y (arrival_step y s.arrivals s).0
arrivals-end y s going arriving = by s.arrivals
  where
    by_time : (a : Arrival) (others : List Arrival) (b : Bool)
        → EndsWell y (if b then arrive_at y a (first_where (λ t. t.thread.unit == a.task) s.tasks)
        (record s { arrivals = others }) else horizon_step y s).0
    by_time a others true =
        going-ends y (record s { arrivals = others }) (arrive_at y a (first_where (λ t. t.thread.unit == a.task) s.tasks)
        (record s { arrivals = others })).0 (arrive-stops y a (first_where (λ t. t.thread.unit == a.task) s.tasks)
        (record s { arrivals = others })) going
    by_time a others false = horizon-ends y s going arriving

    by : (as' : List Arrival) → EndsWell y (arrival_step y as' s).0
    by [] = horizon-ends y s going arriving
    by (a ∷ others) = by_time a others (a.time == s.time)

step-ends : (y : System) (s : State) → Each GoesOn (step y s).1 → EndsWell y s → EndsWell y (step y s).0
step-ends y s h ends = by s.stopped refl h
  where
    by_phase : (p : Phase) → s.phase ≡ p → s.stopped ≡ false → Each GoesOn (step_in p y s).1 → EndsWell y (step_in p y s).0
    by_phase Effects e going g = going-ends y s (effect_step y s.ran s).0 (effects-stop y s g) going
    by_phase Delays e going g = going-ends y s (delay_step y (first_where (λ t. is_due s.time t.readiness) s.tasks) s).0
        (delays-stop y (first_where (λ t. is_due s.time t.readiness) s.tasks) s) going
    by_phase Arriving e going g = arrivals-end y s going e
    by_phase Use e going g = going-ends y s (use_step y (dispatched s.tasks s.orders) s).0 (use-stops y (dispatched s.tasks s.orders) s) going

    by : (b : Bool) → s.stopped ≡ b → Each GoesOn (if b then (s, []) else step_in s.phase y s).1
        → EndsWell y (if b then (s, []) else step_in s.phase y s).0
    by true e g = ends
    by false e g = by_phase s.phase refl e g

pub run-ends : (y : System) (n : ℕ) (s : State) → Each GoesOn (run y n s).1 → EndsWell y s → EndsWell y (run y n s).0
run-ends y zero s h ends = ends
run-ends y (suc n) s h ends =
    run-ends y n (step y s).0 (each-back GoesOn (step y s).1 (run y n (step y s).0).1 h)
    (step-ends y s (each-front GoesOn (step y s).1 (run y n (step y s).0).1 h) ends)
