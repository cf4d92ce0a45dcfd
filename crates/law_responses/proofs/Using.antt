-- What a trace tells of the ticks that an activation used: at most the cost of its row, where a log belongs to each state of the run.
use Rattle.std.specs.Prelude.{◌≡◌, ℕ, zero, suc, ◌+◌, ◌≤◌, ◌<◌, ◌&&◌, ◌==◌, nat_lt, Bool, true, false, List, [], ◌∷◌, slice_get, Option, Some, None, ⊤}
use Rattle.std.specs.Prelude.{if◌then◌else◌, refl}
use Rattle.std.proofs.Common.{sym, subst, arith}
use Rattle.seq_tree.specs.Lists.{Each, first_where}
use Rattle.seq_tree.specs.Names.{Name, same_name}
use Rattle.seq_tree.specs.Variables.{Variables}
use Rattle.ada_tree.specs.Programs.{Program}
use Rattle.arrivals_tree.specs.declared.arrivals.Arrival.{Arrival}
use Rattle.rt_response.specs.declared.rows.ThreadRow.{ThreadRow}
use Rattle.trace_tree.specs.Lines.{unit_name}
use Rattle.trace_tree.specs.declared.event.Event.{Event}
use Rattle.trace_tree.specs.declared.event.Event.TheVariants as event
use Rattle.machine.specs.Systems.{TaskUnit}
use Rattle.machine.specs.Pieces.{Piece}
use Rattle.machine.specs.Deeds.{Act, Silent, Print, Enter, Leave, Ask, Keep, Open, Ended, Finish, done}
use Rattle.machine.specs.States.{State, Task, Phase, Effects, Delays, Arriving, Use, Resource, Object, Control}
use Rattle.machine.specs.Releases.{release, release_task, is_waiting, serve, serve_task}
use Rattle.machine.specs.Effects.{acted, entry, entered_at, stopped_at, ceiling_of, takes_effect}
use Rattle.machine.specs.Steps.{goes_to, effect_of, effect_at, effect_step, is_due, delay_step, horizon_step, arrive_at, arrival_step, use_step}
use Rattle.machine.specs.Steps.{step_in, step}
use Rattle.machine.specs.Dispatch.{dispatched}
use Rattle.machine.specs.Meanings.{run}
use Rattle.guarantee.specs.Events.{named}
use Rattle.guarantee.specs.Bounded.{Either}
use Rattle.law_lists.proofs.Shared.Lists.{each-append}
use Rattle.law_responses.specs.Using.{UsesAtMost}
use Rattle.law_responses.proofs.Answering.{Names}
use Rattle.law_responses.proofs.Base.{Base, written-at}
use Rattle.law_responses.proofs.Effecting.{IsFit}
use Rattle.law_responses.proofs.Frames.{Frame, HasRow, IsFramed, remaining, ticks_measure}
use Rattle.law_responses.proofs.Logs.{Log}
use Rattle.law_responses.proofs.Moves.{HasUnit}
use Rattle.law_responses.proofs.Seen.{see}
use Rattle.law_responses.proofs.Views.{core, view}

-- an end tells at most the cost of the row of its task, where that has one
abbrev pub IsWithinCost : Frame → Event → Type 0
IsWithinCost f (event.End time task used) =
    (j r : ℕ) (t : TaskUnit) (row : ThreadRow) → HasRow f j r → slice_get f.system.threads j ≡ Some t → t.unit ≡ task
    → slice_get f.rows r ≡ Some row → used ≤ row.cost
IsWithinCost f _ = ⊤

module _ (f : Frame) where
  abbrev All : List Event → Type 0
  All es = Each (IsWithinCost f) es

  release-tells : (i : ℕ) (o : Option Task) (s : State) → All (release_task f.system i o s).1
  release-tells i None s = tt
  release-tells i (Some t) s = (tt, tt)

  serve-tells : (i : ℕ) (s : State) → All (serve f.system i s).1
  serve-tells i s = by (slice_get s.tasks i)
    where
      test : (b : Bool) → All (if b then release f.system i s else (s, [])).1
      test true = release-tells i (slice_get s.tasks i) s
      test false = tt

      by : (o : Option Task) → All (serve_task f.system i o s).1
      by None = tt
      by (Some t) = test (is_waiting t.readiness && t.gate.open')

  entry-tells : (i : ℕ) (t : Task) (section : Resource) (told : List Event) (vars : Variables) (ps : List Piece) (s : State) → All told
      → All (entry f.system i t section told vars ps s).1
  entry-tells i t section told vars ps s all = by (nat_lt (ceiling_of f.system section) t.active)
    where
      by : (b : Bool) → All (if b then stopped_at f.system t section s else entered_at f.system i section told vars ps s).1
      by true = (tt, tt)
      by false = all

  -- a deed of a task
  act-tells : (i : ℕ) (t : Task) (a : Act) (vars : Variables) (ps : List Piece) (s : State) → IsWithinCost f (event.End s.time t.thread.unit t.used)
      → All (acted f.system i t a vars ps s).1
  act-tells i t Silent vars ps s end = tt
  act-tells i t (Print v) vars ps s end = (tt, tt)
  act-tells i t (Enter object op values) vars ps s end = entry-tells i t (Object object) _ vars ps s (tt, tt)
  act-tells i t (Leave object op values data') vars ps s end = (tt, tt)
  act-tells i t (Ask task) vars ps s end = entry-tells i t (Control task) [] vars ps s tt
  act-tells i t (Keep task v) vars ps s end = tt
  act-tells i t (Open task) vars ps s end = tt
  act-tells i t (Ended task v) vars ps s end = (tt, serve-tells task _)
  act-tells i t Finish vars ps s end = (end, serve-tells i _)

  module _ (framed : IsFramed f) (s : State) (l : Log) (current : ℕ → ℕ) (base : Base f (view s) l current) (fit : IsFit s) where
    -- what a task used so far
    used-so-far : (i : ℕ) (t : Task) (p : Piece) (ps : List Piece) → slice_get s.tasks i ≡ Some t → t.pieces ≡ p ∷ ps
        → IsWithinCost f (event.End s.time t.thread.unit t.used)
    used-so-far i t p ps here is j r th row has at same asks =
        let own : slice_get f.system.threads i ≡ Some t.thread = written-at base.written i (core t) (see s.tasks i t here) in
        let place : j ≡ i = framed.units j i th t.thread at own same in
        let busy = base.runs i (core t) (see s.tasks i t here) r (subst (λ k. HasRow f k r) place has) (fit.ready i t p ps here is) in
        let most : t.used + remaining (ticks_measure f) t.left t.pieces ≤ row.cost = busy.cost row asks in
        omega (arith, most)

    effects-tell : (o : Option ℕ) → All (effect_step f.system o s).1
    effects-tell None = tt
    effects-tell (Some i) = by (slice_get s.tasks i) refl
      where
        first : (t : Task) (p : Piece) (ps : List Piece) (b : Bool) → slice_get s.tasks i ≡ Some t → t.pieces ≡ p ∷ ps
            → All (if b then takes_effect f.system i t (done f.system p t.vars ps) s else goes_to Delays s).1
        first t p ps true here is = act-tells i t _ _ _ s (used-so-far i t p ps here is)
        first t p ps false here is = tt

        pieces : (t : Task) (ps : List Piece) → slice_get s.tasks i ≡ Some t → t.pieces ≡ ps → All (effect_of f.system i t ps s).1
        pieces t [] here is = tt
        pieces t (p ∷ ps) here is = first t p ps (t.left == 0) here is

        by : (o : Option Task) → slice_get s.tasks i ≡ o → All (effect_at f.system i o s).1
        by None here = tt
        by (Some t) here = pieces t t.pieces here refl

    delays-tell : (o : Option (ℕ × Task)) → All (delay_step f.system o s).1
    delays-tell None = tt
    delays-tell (Some x) = release-tells x.0 (slice_get s.tasks x.0) s

    horizon-tells : All (horizon_step f.system s).1
    horizon-tells = by (s.time == f.system.until)
      where
        by : (b : Bool) → All (if b then (record s { stopped = true }, event.Horizon s.time ∷ []) else goes_to Use s).1
        by true = (tt, tt)
        by false = tt

    arrivals-tell : (as' : List Arrival) → All (arrival_step f.system as' s).1
    arrivals-tell [] = horizon-tells
    arrivals-tell (a ∷ others) = by (a.time == s.time)
      where
        found : (o : Option (ℕ × Task)) → All (arrive_at f.system a o (record s { arrivals = others })).1
        found None = tt
        found (Some x) = (tt, serve-tells x.0 _)

        by : (b : Bool)
            → All (if b then arrive_at f.system a (first_where (λ t. t.thread.unit == a.task) s.tasks) (record s { arrivals = others })
            else horizon_step f.system s).1
        by true = found (first_where (λ t. t.thread.unit == a.task) s.tasks)
        by false = horizon-tells

    tick-tells : (o : Option ℕ) → All (use_step f.system o s).1
    tick-tells None = tt
    tick-tells (Some i) = tt

    pub step-tells : All (step f.system s).1
    step-tells = by s.stopped
      where
        phases : (q : Phase) → All (step_in q f.system s).1
        phases Effects = effects-tell s.ran
        phases Delays = delays-tell (first_where (λ t. is_due s.time t.readiness) s.tasks)
        phases Arriving = arrivals-tell s.arrivals
        phases Use = tick-tells (dispatched s.tasks s.orders)

        by : (b : Bool) → All (if b then (s, []) else step_in s.phase f.system s).1
        by true = tt
        by false = phases s.phase

  -- a state with its log
  pub record IsLoggedState (s : State) : Type 0 where
    pub log : Log
    pub current : ℕ → ℕ
    pub base : Base f (view s) log current
    pub fit : IsFit s

  pub run-tells : IsFramed f → (n : ℕ) (s : State) → ((q : ℕ) → q < n → IsLoggedState (run f.system q s).0) → All (run f.system n s).1
  run-tells framed zero s states = tt
  run-tells framed (suc n) s states =
      let now = states 0 (omega arith) in
      each-append (IsWithinCost f) (step f.system s).1 (run f.system n (step f.system s).0).1
      (step-tells framed s now.log now.current now.base now.fit)
      (run-tells framed n (step f.system s).0 (λ q less. states (suc q) (omega (arith, less))))

-- by names
abbrev pub EndsWithin : ℕ → ℕ → Event → Type 0
EndsWithin u cost (event.End time task used) = u ≡ task → used ≤ cost
EndsWithin u cost _ = ⊤

pub within-cost : (f : Frame) (j r : ℕ) (t : TaskUnit) (row : ThreadRow) → HasRow f j r → slice_get f.system.threads j ≡ Some t
    → slice_get f.rows r ≡ Some row → (e : Event) → IsWithinCost f e → EndsWithin t.unit row.cost e
within-cost f j r t row has at asks (event.End time task used) h = λ same. h j r t row has at same asks
within-cost f j r t row has at asks _ h = tt

pub uses-named : (f : Frame) (p : Program) (name : Name) (u cost : ℕ) (es : List Event) → Names f p name u → Each (HasUnit f) es
    → Each (EndsWithin u cost) es → UsesAtMost cost name (named p es)
uses-named f p name u cost [] names units all = tt
uses-named f p name u cost (event.End time task used ∷ es) names units all
    = (by (task == u) refl (names task units.0), uses-named f p name u cost es names units.1 all.1)
  where
    Told : Bool → Type 0
    Told b = Either b (used ≤ cost) ⊤

    by : (b : Bool) → (task == u) ≡ b → same_name (unit_name p task) name ≡ b → Told (same_name (unit_name p task) name)
    by true e same = subst Told (sym same) (all.0 (let is : u ≡ task = grind arith in is))
    by false e same = subst Told (sym same) tt
uses-named f p name u cost (event.Release time task value ∷ es) names units all = uses-named f p name u cost es names units.1 all.1
uses-named f p name u cost (event.Arrive time task value ∷ es) names units all = uses-named f p name u cost es names units.1 all.1
uses-named f p name u cost (event.Enter time task unit op values ∷ es) names units all = uses-named f p name u cost es names units.1 all.1
uses-named f p name u cost (event.Leave time task unit op values ∷ es) names units all = uses-named f p name u cost es names units.1 all.1
uses-named f p name u cost (event.Request time task target value ∷ es) names units all = uses-named f p name u cost es names units.1 all.1
uses-named f p name u cost (event.Print time task value ∷ es) names units all = uses-named f p name u cost es names units.1 all.1
uses-named f p name u cost (event.Stop time task unit priority ceiling ∷ es) names units all = uses-named f p name u cost es names units.1 all.1
uses-named f p name u cost (event.Horizon time ∷ es) names units all = uses-named f p name u cost es names units.1 all.1
