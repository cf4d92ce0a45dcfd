-- What a step does to the order of a trace: it goes on within an instant or to the next one, or the run ends at the horizon or at a stop.
use Rattle.std.specs.Prelude.{◌≡◌, ◌⊎◌, ℕ, ◌+◌, ◌-◌, ◌≤◌, ◌<◌, Bool, true, false, List, [], ◌∷◌, ◌==◌, Option, Some, None, slice_get, refl}
use Rattle.std.specs.Prelude.{if◌then◌else◌}
use Rattle.std.specs.List.{list_any}
use Rattle.std.proofs.Common.{sym, ◌∙◌, ap, subst, arith, inl, inr}
use Rattle.seq_tree.specs.Lists.{change, Each, first_where}
use Rattle.arrivals_tree.specs.declared.arrivals.Arrival.{Arrival}
use Rattle.trace_tree.specs.declared.event.Event.TheVariants as event
use Rattle.machine.specs.Systems.{System, TaskUnit}
use Rattle.machine.specs.Pieces.{Piece}
use Rattle.machine.specs.Deeds.{PieceOutcome, done}
use Rattle.machine.specs.States.{State, Task, Phase, Effects, Delays, Arriving, Use}
use Rattle.machine.specs.Dispatch.{dispatched}
use Rattle.machine.specs.Releases.{Next, serve}
use Rattle.machine.specs.Effects.{takes_effect}
use Rattle.machine.specs.Steps.{step, step_in, goes_to, effect_of, effect_at, effect_step, delay_step, horizon_step, arrive_at, arrival_step}
use Rattle.machine.specs.Steps.{use_step, is_due}
use Rattle.law_written.proofs.Shared.Moves.{threads_of, HasUnit, IsNow, is_stopping, Goes, change-threads, unit_of, release-goes, serve-goes}
use Rattle.law_written.proofs.Shared.Moves.{acted-goes}
use Rattle.law_lists.proofs.Shared.Facts.{first-from}
use Rattle.std.proofs.lemmas.Bool.{eqb-true}

-- a time that is not past the horizon, and before it where ticks are used
abbrev pub IsTimely : ℕ → Phase → ℕ → Type 0
IsTimely until Effects now = now ≤ until
IsTimely until Delays now = now ≤ until
IsTimely until Arriving now = now ≤ until
IsTimely until Use now = now < until

-- a step after which the run goes on
pub record Follows (y : System) (ths : List TaskUnit) (s : State) (next : Next) : Type 0 where
  pub threads : threads_of next.0.tasks ≡ ths
  pub time : s.time ≤ next.0.time
  pub timely : IsTimely y.until next.0.phase next.0.time
  pub told : Each (IsNow ths s.time) next.1
  pub on : next.0.stopped ≡ false

-- the end at the horizon
pub record Ends (y : System) (s : State) (next : Next) : Type 0 where
  pub phase : s.phase ≡ Arriving
  pub now : s.time ≡ y.until
  pub told : next.1 ≡ event.Horizon s.time ∷ []
  pub stopped : next.0.stopped ≡ true

-- a step
abbrev pub Walks : System → List TaskUnit → State → Next → Type 0
Walks y ths s next = Follows y ths s next ⊎ (Ends y s next ⊎ (list_any is_stopping next.1 ≡ true))

-- a step within an instant
within : (y : System) (ths : List TaskUnit) (s : State) (next : Next) (phase : Phase) → s.stopped ≡ false → s.phase ≡ phase
    → IsTimely y.until phase s.time → Goes ths s next → Walks y ths s next
within y ths s next phase on here timely g = by g.stops
  where
    by : (next.0.stopped ≡ s.stopped) ⊎ (list_any is_stopping next.1 ≡ true) → Walks y ths s next
    by (inl e) =
        let there : next.0.phase ≡ phase = g.phase ∙ here in
        let P : Phase → Type 0 = λ z. IsTimely y.until z next.0.time in
        let Q : ℕ → Type 0 = λ n. IsTimely y.until phase n in
        inl (record {
          threads = g.threads;
          time = omega (arith, g.time);
          timely = subst P (sym there) (subst Q (sym g.time) timely);
          told = g.told;
          on = e ∙ on;
        })
    by (inr e) = inr (inr e)

-- on to another part of the instant
passes : (y : System) (ths : List TaskUnit) (s s' : State) → threads_of s'.tasks ≡ ths → s'.time ≡ s.time → IsTimely y.until s'.phase s'.time
    → s'.stopped ≡ false → Walks y ths s (s', [])
passes y ths s s' same time timely on = inl (record { threads = same; time = omega (arith, time); timely = timely; told = tt; on = on })

-- effects
effects-walk : (y : System) (ths : List TaskUnit) (s : State) → s.stopped ≡ false → s.phase ≡ Effects → s.time ≤ y.until → threads_of s.tasks ≡ ths
    → Walks y ths s (effect_step y s.ran s)
effects-walk y ths s on here timely same = by_ran s.ran
  where
    away : Walks y ths s (goes_to Delays s)
    away = passes y ths s _ same refl timely on

    by_left : (i : ℕ) (t : Task) (p : Piece) (ps : List Piece) (b : Bool) → slice_get s.tasks i ≡ Some t
        → Walks y ths s (if b then takes_effect y i t (done y p t.vars ps) s else goes_to Delays s)
    by_left i t p ps true at =
        let d : PieceOutcome = done y p t.vars ps in
        within y ths s _ Effects on here timely (acted-goes y ths i t d.act d.vars d.pieces s at same)
    by_left i t p ps false at = away

    by_pieces : (i : ℕ) (t : Task) (ps : List Piece) → slice_get s.tasks i ≡ Some t → Walks y ths s (effect_of y i t ps s)
    by_pieces i t [] at = away
    by_pieces i t (p ∷ ps) at = by_left i t p ps (t.left == 0) at

    by_task : (i : ℕ) (o : Option Task) → slice_get s.tasks i ≡ o → Walks y ths s (effect_at y i o s)
    by_task i None at = away
    by_task i (Some t) at = by_pieces i t t.pieces at

    by_ran : (o : Option ℕ) → Walks y ths s (effect_step y o s)
    by_ran None = away
    by_ran (Some i) = by_task i (slice_get s.tasks i) refl

-- delays
delays-walk : (y : System) (ths : List TaskUnit) (s : State) (o : Option (ℕ × Task)) → s.stopped ≡ false → s.phase ≡ Delays → s.time ≤ y.until
    → threads_of s.tasks ≡ ths → Walks y ths s (delay_step y o s)
delays-walk y ths s None on here timely same = passes y ths s _ same refl timely on
delays-walk y ths s (Some sleeper) on here timely same = within y ths s _ Delays on here timely (release-goes y ths sleeper.0 s same)

-- the horizon
horizon-walk : (y : System) (ths : List TaskUnit) (s : State) → s.stopped ≡ false → s.phase ≡ Arriving → s.time ≤ y.until → threads_of s.tasks ≡ ths
    → Walks y ths s (horizon_step y s)
horizon-walk y ths s on here timely same = by (s.time == y.until) refl
  where
    by : (b : Bool) → (s.time == y.until) ≡ b → Walks y ths s (if b then (record s { stopped = true }, event.Horizon s.time ∷ []) else goes_to Use s)
    by true e = inr (inl (record { phase = here; now = grind arith; told = refl; stopped = refl }))
    by false e = passes y ths s _ same refl (grind arith) on

-- an arrival
arrives : (y : System) (ths : List TaskUnit) (s : State) (a : Arrival) (o : Option (ℕ × Task))
    → first_where (λ t. t.thread.unit == a.task) s.tasks ≡ o → threads_of s.tasks ≡ ths
    → Goes ths s (arrive_at y a o s)
arrives y ths s a None e same = record { threads = same; time = refl; phase = refl; told = tt; stops = inl refl }
arrives y ths s a (Some f) e same =
    let set_gate : Task → Task = λ u. record u { gate = record { value = a.value; open' = true } } in
    let s' : State = record s { tasks = change f.0 set_gate s.tasks } in
    let g : Goes ths s' (serve y f.0 s') = serve-goes y ths f.0 s' (change-threads f.0 set_gate s.tasks (λ u. refl) ∙ same) in
    let at : (k : ℕ) × (f.0 ≡ 0 + k) × (slice_get s.tasks k ≡ Some f.1) × ((f.1.thread.unit == a.task) ≡ true)
    = first-from 0 (λ t. t.thread.unit == a.task) s.tasks f.0 f.1 e in
    let unit : HasUnit ths f.1.thread.unit = unit_of ths s.tasks at.0 f.1 at.2 same in
    let named_so : f.1.thread.unit ≡ a.task = eqb-true _ _ at.3 in
    record {
      threads = g.threads;
      time = g.time;
      phase = g.phase;
      told = ((refl, (unit.0, unit.1, unit.2, unit.3 ∙ named_so)), g.told);
      stops = g.stops;
    }

-- arrivals
arrivals-walk : (y : System) (ths : List TaskUnit) (s : State) (as' : List Arrival) → s.stopped ≡ false → s.phase ≡ Arriving → s.time ≤ y.until
    → threads_of s.tasks ≡ ths → Walks y ths s (arrival_step y as' s)
arrivals-walk y ths s [] on here timely same = horizon-walk y ths s on here timely same
arrivals-walk y ths s (a ∷ others) on here timely same = by (a.time == s.time)
  where
    by : (b : Bool) → Walks y ths s (if b then arrive_at y a (first_where (λ t. t.thread.unit == a.task) s.tasks)
        (record s { arrivals = others }) else horizon_step y s)
    by true =
        let s' : State = record s { arrivals = others } in
        let g : Goes ths s' (arrive_at y a (first_where (λ t. t.thread.unit == a.task) s.tasks) s') = arrives y ths s' a _ refl same in
        within y ths s _ Arriving on here timely (record { threads = g.threads; time = g.time; phase = g.phase; told = g.told; stops = g.stops })
    by false = horizon-walk y ths s on here timely same

-- the use of a tick
use-walk : (y : System) (ths : List TaskUnit) (s : State) (o : Option ℕ) → s.stopped ≡ false → s.time < y.until → threads_of s.tasks ≡ ths
    → Walks y ths s (use_step y o s)
use-walk y ths s None on early same = inl (record { threads = same; time = omega arith; timely = omega (arith, early); told = tt; on = on })
use-walk y ths s (Some i) on early same =
    inl (record {
      threads = change-threads i (λ t. record t { left = t.left - 1; used = t.used + 1 }) s.tasks (λ t. refl) ∙ same;
      time = omega arith;
      timely = omega (arith, early);
      told = tt;
      on = on;
    })

-- a step
pub step-walks : (y : System) (ths : List TaskUnit) (s : State) → s.stopped ≡ false → IsTimely y.until s.phase s.time → threads_of s.tasks ≡ ths
    → Walks y ths s (step y s)
step-walks y ths s on timely same =
    let P : Next → Type 0 = λ next. Walks y ths s next in
    let goes : step y s ≡ step_in s.phase y s = ap (λ b. if b then (s, []) else step_in s.phase y s) on in
    subst P (sym goes) (by s.phase refl timely)
  where
    by : (phase : Phase) → s.phase ≡ phase → IsTimely y.until phase s.time → Walks y ths s (step_in phase y s)
    by Effects here t = effects-walk y ths s on here t same
    by Delays here t = delays-walk y ths s (first_where (λ u. is_due s.time u.readiness) s.tasks) on here t same
    by Arriving here t = arrivals-walk y ths s s.arrivals on here t same
    by Use here t = use-walk y ths s (dispatched s.tasks s.orders) on t same
