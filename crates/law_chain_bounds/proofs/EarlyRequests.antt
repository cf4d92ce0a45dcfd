-- In every run a request comes a tick or more before each end that is told after it: at an instant an activation ends by the first effect, or not.
use Rattle.std.specs.Prelude.{◌≡◌, ◌⊎◌, ℕ, zero, suc, ◌≤◌, ◌<◌, ◌==◌, ◌&&◌, nat_lt, Bool, true, false, List, [], ◌∷◌, ◌++◌, slice_get, Option}
use Rattle.std.specs.Prelude.{Some, None, ⊤, if◌then◌else◌, refl}
use Rattle.std.proofs.Common.{sym, ◌∙◌, ap, subst, arith, inl, inr}
use Rattle.std.proofs.lemmas.Bool.{true≢false}
use Rattle.std.proofs.lemmas.List.{map-append}
use Rattle.std.proofs.lemmas.Option.{same_Some}
use Rattle.seq_tree.specs.Lists.{change, Each, first_where}
use Rattle.seq_tree.specs.Variables.{Variables}
use Rattle.ada_tree.specs.Programs.{Program}
use Rattle.arrivals_tree.specs.declared.arrivals.Arrival.{Arrival}
use Rattle.trace_tree.specs.declared.event.Event as machine
use Rattle.trace_tree.specs.declared.event.Event.TheVariants as event
use Rattle.machine.specs.Systems.{System, system}
use Rattle.machine.specs.Pieces.{Piece, Finishing}
use Rattle.machine.specs.Deeds.{PieceOutcome, Act, Silent, Print, Enter, Leave, Ask, Keep, Open, Ended, Finish, done}
use Rattle.machine.specs.States.{State, Task, Phase, Effects, Delays, Arriving, Use, Resource, Object, Control}
use Rattle.machine.specs.Releases.{Next, release, release_task, is_waiting, serve, serve_task}
use Rattle.machine.specs.Effects.{acted, entry, entered_at, stopped_at, ceiling_of, takes_effect, exit, ended}
use Rattle.machine.specs.Steps.{goes_to, effect_of, effect_at, effect_step, is_due, delay_step, horizon_step, arrive_at, arrival_step, use_step}
use Rattle.machine.specs.Steps.{step_in, step}
use Rattle.machine.specs.Dispatch.{dispatched}
use Rattle.machine.specs.Meanings.{run, start}
use Rattle.guarantee.specs.Events.{Event, named, named_event}
use Rattle.law_tasks.proofs.Shared.Acts.{Source, From_quiet, From_put, From_entry, From_leave, From_ended, From_finish, source}
use Rattle.law_tasks.proofs.Shared.Aheads.{is_quiet}
use Rattle.law_tasks.proofs.Shared.Fresh.{AreSome, HasLeft, IsFresh, FreshAt, acted-fresh}
use Rattle.law_tasks.proofs.Shared.ProgramFacts.{costs_some}
use Rattle.law_chain_bounds.specs.Requests.{EndAfter, RequestsComeBeforeEnds, RunsRequestBeforeEnds}

-- an event that is neither a request nor an end
abbrev IsPlain : machine.Event → Type 0
IsPlain (event.Request time task target value) = ⊥
IsPlain (event.End time task used) = ⊥
IsPlain _ = ⊤

plain-ends : (p : Program) (time : ℕ) (es : List machine.Event) (more : List Event) → Each IsPlain es → EndAfter time more
    → EndAfter time (named p es ++ more)
plain-ends p time [] more plain h = h
plain-ends p time (event.Release at task value ∷ es) more plain h = plain-ends p time es more plain.1 h
plain-ends p time (event.Arrive at task value ∷ es) more plain h = plain-ends p time es more plain.1 h
plain-ends p time (event.Enter at task unit op values ∷ es) more plain h = plain-ends p time es more plain.1 h
plain-ends p time (event.Leave at task unit op values ∷ es) more plain h = plain-ends p time es more plain.1 h
plain-ends p time (event.Request at task target value ∷ es) more plain h = absurd plain.0
plain-ends p time (event.Print at task value ∷ es) more plain h = plain-ends p time es more plain.1 h
plain-ends p time (event.End at task used ∷ es) more plain h = absurd plain.0
plain-ends p time (event.Stop at task unit priority ceiling ∷ es) more plain h = plain-ends p time es more plain.1 h
plain-ends p time (event.Horizon at ∷ es) more plain h = plain-ends p time es more plain.1 h

plain-asks : (p : Program) (es : List machine.Event) (more : List Event) → Each IsPlain es → RequestsComeBeforeEnds more
    → RequestsComeBeforeEnds (named p es ++ more)
plain-asks p [] more plain h = h
plain-asks p (event.Release at task value ∷ es) more plain h = plain-asks p es more plain.1 h
plain-asks p (event.Arrive at task value ∷ es) more plain h = plain-asks p es more plain.1 h
plain-asks p (event.Enter at task unit op values ∷ es) more plain h = plain-asks p es more plain.1 h
plain-asks p (event.Leave at task unit op values ∷ es) more plain h = plain-asks p es more plain.1 h
plain-asks p (event.Request at task target value ∷ es) more plain h = absurd plain.0
plain-asks p (event.Print at task value ∷ es) more plain h = plain-asks p es more plain.1 h
plain-asks p (event.End at task used ∷ es) more plain h = absurd plain.0
plain-asks p (event.Stop at task unit priority ceiling ∷ es) more plain h = plain-asks p es more plain.1 h
plain-asks p (event.Horizon at ∷ es) more plain h = plain-asks p es more plain.1 h

-- a state in whose instant no activation ends any more
abbrev IsSettled : State → Type 0
IsSettled s = s.stopped ≡ false → s.phase ≡ Effects → (i : ℕ) → s.ran ≡ Some i → FreshAt s.tasks i

-- a state after a time, or at it and settled
abbrev IsPast : ℕ → State → Type 0
IsPast time s = (time < s.time) ⊎ ((time ≡ s.time) × IsSettled s)

-- a state of the same time, part of the instant and runner
record IsStill (s next : State) : Type 0 where
  time : next.time ≡ s.time
  phase : next.phase ≡ s.phase
  ran : next.ran ≡ s.ran

still : (s : State) → IsStill s s
still s = record { time = refl; phase = refl; ran = refl }

module _ (p : Program) (y : System) (some : AreSome y.costs) where
  -- what a step does to what is told after it
  record StepIs (s : State) (next : Next) : Type 0 where
    past : IsPast s.time next.0
    ends : (time : ℕ) → time < s.time → (more : List Event) → EndAfter time more → EndAfter time (named p next.1 ++ more)
    settled : IsSettled s → (more : List Event) → EndAfter s.time more → EndAfter s.time (named p next.1 ++ more)
    asks : (more : List Event) → EndAfter s.time more → RequestsComeBeforeEnds more → RequestsComeBeforeEnds (named p next.1 ++ more)

  plain-step : (s : State) (next : Next) → IsPast s.time next.0 → Each IsPlain next.1 → StepIs s next
  plain-step s next past plain = record {
    past = past;
    ends = λ time less more h. plain-ends p time next.1 more plain h;
    settled = λ calm more h. plain-ends p s.time next.1 more plain h;
    asks = λ more after h. plain-asks p next.1 more plain h;
  }

  -- releases
  release-plain : (k : ℕ) (o : Option Task) (s : State) → Each IsPlain (release_task y k o s).1
  release-plain k None s = tt
  release-plain k (Some t) s = (tt, tt)

  release-still : (k : ℕ) (o : Option Task) (s : State) → IsStill s (release_task y k o s).0
  release-still k None s = still s
  release-still k (Some t) s = record { time = refl; phase = refl; ran = refl }

  serve-plain : (k : ℕ) (s : State) → Each IsPlain (serve y k s).1
  serve-plain k s = by (slice_get s.tasks k)
    where
      test : (b : Bool) → Each IsPlain (if b then release y k s else (s, [])).1
      test true = release-plain k (slice_get s.tasks k) s
      test false = tt

      by : (o : Option Task) → Each IsPlain (serve_task y k o s).1
      by None = tt
      by (Some t) = test (is_waiting t.readiness && t.gate.open')

  serve-still : (k : ℕ) (s : State) → IsStill s (serve y k s).0
  serve-still k s = by (slice_get s.tasks k)
    where
      test : (b : Bool) → IsStill s (if b then release y k s else (s, [])).0
      test true = release-still k (slice_get s.tasks k) s
      test false = still s

      by : (o : Option Task) → IsStill s (serve_task y k o s).0
      by None = still s
      by (Some t) = test (is_waiting t.readiness && t.gate.open')

  -- entries
  entry-plain : (i : ℕ) (t : Task) (c : Resource) (told : List machine.Event) (vars : Variables) (ps : List Piece) (s : State) → Each IsPlain told
      → Each IsPlain (entry y i t c told vars ps s).1
  entry-plain i t c told vars ps s plain = by (nat_lt (ceiling_of y c) t.active)
    where
      by : (b : Bool) → Each IsPlain (if b then stopped_at y t c s else entered_at y i c told vars ps s).1
      by true = (tt, tt)
      by false = plain

  entry-still : (i : ℕ) (t : Task) (c : Resource) (told : List machine.Event) (vars : Variables) (ps : List Piece) (s : State)
      → IsStill s (entry y i t c told vars ps s).0
  entry-still i t c told vars ps s = by c (nat_lt (ceiling_of y c) t.active)
    where
      by : (z : Resource) (b : Bool) → IsStill s (if b then stopped_at y t z s else entered_at y i z told vars ps s).0
      by z true = record { time = refl; phase = refl; ran = refl }
      by (Object k) false = record { time = refl; phase = refl; ran = refl }
      by (Control k) false = record { time = refl; phase = refl; ran = refl }

  acted-still : (i : ℕ) (t : Task) (a : Act) (vars : Variables) (ps : List Piece) (s : State) → IsStill s (acted y i t a vars ps s).0
  acted-still i t Silent vars ps s = record { time = refl; phase = refl; ran = refl }
  acted-still i t (Print v) vars ps s = record { time = refl; phase = refl; ran = refl }
  acted-still i t (Enter object op values) vars ps s = entry-still i t (Object object) _ vars ps s
  acted-still i t (Leave object op values data') vars ps s = record { time = refl; phase = refl; ran = refl }
  acted-still i t (Ask task) vars ps s = entry-still i t (Control task) [] vars ps s
  acted-still i t (Keep task v) vars ps s = record { time = refl; phase = refl; ran = refl }
  acted-still i t (Open task) vars ps s = record { time = refl; phase = refl; ran = refl }
  acted-still i t (Ended task v) vars ps s =
      let h = serve-still task (exit y i vars ps s) in record { time = h.time; phase = h.phase; ran = h.ran }
  acted-still i t Finish vars ps s = let h = serve-still i _ in record { time = h.time; phase = h.phase; ran = h.ran }

  -- after an effect the instant is settled
  acted-past : (i : ℕ) (t : Task) (a : Act) (vars : Variables) (ps : List Piece) (s : State) → s.ran ≡ Some i
      → IsPast s.time (acted y i t a vars ps s).0
  acted-past i t a vars ps s ran = inr (sym h.time, λ on effects j is. by (acted-fresh y some i t a vars ps s) on j is)
    where
      h : IsStill s (acted y i t a vars ps s).0
      h = acted-still i t a vars ps s

      by : ((acted y i t a vars ps s).0.stopped ≡ true) ⊎ FreshAt (acted y i t a vars ps s).0.tasks i → (acted y i t a vars ps s).0.stopped ≡ false
          → (j : ℕ) → (acted y i t a vars ps s).0.ran ≡ Some j → FreshAt (acted y i t a vars ps s).0.tasks j
      by (inl stops) on j is = absurd (true≢false (sym stops ∙ on))
      by (inr fresh) on j is =
          let same : i ≡ j = same_Some i j (sym ran ∙ sym h.ran ∙ is) in
          subst (FreshAt (acted y i t a vars ps s).0.tasks) same fresh

  -- a deed, which is no end where the instant is settled
  acted-step : (i : ℕ) (t : Task) (a : Act) (vars : Variables) (ps : List Piece) (s : State) → s.ran ≡ Some i → (a ≡ Finish → IsSettled s → ⊥)
      → StepIs s (acted y i t a vars ps s)
  acted-step i t Silent vars ps s ran last = plain-step s _ (acted-past i t Silent vars ps s ran) tt
  acted-step i t (Print v) vars ps s ran last = plain-step s _ (acted-past i t (Print v) vars ps s ran) (tt, tt)
  acted-step i t (Enter object op values) vars ps s ran last =
      plain-step s _ (acted-past i t (Enter object op values) vars ps s ran) (entry-plain i t (Object object) _ vars ps s (tt, tt))
  acted-step i t (Leave object op values data') vars ps s ran last =
      plain-step s _ (acted-past i t (Leave object op values data') vars ps s ran) (tt, tt)
  acted-step i t (Ask task) vars ps s ran last =
      plain-step s _ (acted-past i t (Ask task) vars ps s ran) (entry-plain i t (Control task) [] vars ps s tt)
  acted-step i t (Keep task v) vars ps s ran last = plain-step s _ (acted-past i t (Keep task v) vars ps s ran) tt
  acted-step i t (Open task) vars ps s ran last = plain-step s _ (acted-past i t (Open task) vars ps s ran) tt
  acted-step i t (Ended task v) vars ps s ran last =
      let plain = serve-plain task (exit y i vars ps s) in
      let es : List machine.Event = (serve y task (exit y i vars ps s)).1 in
      record {
        past = acted-past i t (Ended task v) vars ps s ran;
        ends = λ time less more h. plain-ends p time es more plain h;
        settled = λ calm more h. plain-ends p s.time es more plain h;
        asks = λ more after h. (plain-ends p s.time es more plain after, plain-asks p es more plain h);
      }
  acted-step i t Finish vars ps s ran last =
      let s' : State = record s { tasks = change i (ended vars) s.tasks } in
      let plain = serve-plain i s' in
      record {
        past = acted-past i t Finish vars ps s ran;
        ends = λ time less more h. (less, plain-ends p time (serve y i s').1 more plain h);
        settled = λ calm more h. absurd (last refl calm);
        asks = λ more after h. plain-asks p (serve y i s').1 more plain h;
      }

  -- only the last piece is an end
  finish-is : (x : Piece) (a : Act) (vars : Variables) → Source y vars x a → a ≡ Finish → x ≡ Finishing
  finish-is x a vars (From_quiet quiet) e = absurd (true≢false (sym quiet ∙ ap is_quiet e))
  finish-is x a vars (From_put d) e = absurd cc
  finish-is x a vars (From_entry unit name actuals o m g q leads) e = absurd cc
  finish-is x a vars (From_leave o m ds outs stores caller) e = absurd cc
  finish-is x a vars (From_ended task w) e = absurd cc
  finish-is x a vars From_finish e = refl

  module _ (s : State) (on : s.stopped ≡ false) where
    -- on to another part of the instant
    passes : (phase : Phase) → (phase ≡ Effects → ⊥) → StepIs s (goes_to phase s)
    passes phase other = plain-step s (goes_to phase s) (inr (refl, λ going effects. absurd (other effects))) tt

    not-effects : (s' : State) (phase : Phase) → s.phase ≡ phase → (phase ≡ Effects → ⊥) → IsStill s s' → IsPast s.time s'
    not-effects s' phase here other h = inr (sym h.time, λ going effects. absurd (other (sym here ∙ sym h.phase ∙ effects)))

    delays-differ : Delays ≡ Effects → ⊥
    delays-differ e = cc

    arriving-differ : Arriving ≡ Effects → ⊥
    arriving-differ e = cc

    use-differ : Use ≡ Effects → ⊥
    use-differ e = cc

    effects : s.phase ≡ Effects → (o : Option ℕ) → s.ran ≡ o → StepIs s (effect_step y o s)
    effects here None ran = passes Delays delays-differ
    effects here (Some i) ran = by_task (slice_get s.tasks i) refl
      where
        by_left : (t : Task) (x : Piece) (rest : List Piece) (b : Bool) → slice_get s.tasks i ≡ Some t → t.pieces ≡ x ∷ rest → (t.left == 0) ≡ b
            → StepIs s (if b then takes_effect y i t (done y x t.vars rest) s else goes_to Delays s)
        by_left t x rest false at has left = passes Delays delays-differ
        by_left t x rest true at has left =
            let d : PieceOutcome = done y x t.vars rest in
            acted-step i t d.act d.vars d.pieces s ran (λ e calm. ends (finish-is x d.act t.vars (source y x t.vars rest) e) calm)
          where
            none : 1 ≤ t.left → ⊥
            none more = let zero_left : t.left ≡ 0 = grind arith in omega (arith, more, zero_left)

            ends : x ≡ Finishing → IsSettled s → ⊥
            ends e calm =
                let pieces_are : t.pieces ≡ Finishing ∷ rest = has ∙ ap (λ z. z ∷ rest) e in
                none (left_of pieces_are (calm on here i ran t at))
              where
                left_of : t.pieces ≡ Finishing ∷ rest → IsFresh t → 1 ≤ t.left
                left_of is fresh = subst (λ ps. HasLeft ps t.left) is fresh refl

        by_pieces : (t : Task) (ps : List Piece) → slice_get s.tasks i ≡ Some t → t.pieces ≡ ps → StepIs s (effect_of y i t ps s)
        by_pieces t [] at has = passes Delays delays-differ
        by_pieces t (x ∷ rest) at has = by_left t x rest (t.left == 0) at has refl

        by_task : (o : Option Task) → slice_get s.tasks i ≡ o → StepIs s (effect_at y i o s)
        by_task None at = passes Delays delays-differ
        by_task (Some t) at = by_pieces t t.pieces at refl

    delays : s.phase ≡ Delays → (o : Option (ℕ × Task)) → StepIs s (delay_step y o s)
    delays here None = passes Arriving arriving-differ
    delays here (Some x) =
        plain-step s _ (not-effects _ Delays here delays-differ (release-still x.0 (slice_get s.tasks x.0) s))
        (release-plain x.0 (slice_get s.tasks x.0) s)

    horizon : s.phase ≡ Arriving → StepIs s (horizon_step y s)
    horizon here = by (s.time == y.until)
      where
        by : (b : Bool) → StepIs s (if b then (record s { stopped = true }, event.Horizon s.time ∷ []) else goes_to Use s)
        by true = plain-step s _ (inr (refl, λ going. absurd (true≢false going))) (tt, tt)
        by false = passes Use use-differ

    arrivals : s.phase ≡ Arriving → (as' : List Arrival) → StepIs s (arrival_step y as' s)
    arrivals here [] = horizon here
    arrivals here (a ∷ others) = by (a.time == s.time)
      where
        found : (o : Option (ℕ × Task)) → StepIs s (arrive_at y a o (record s { arrivals = others }))
        found None =
            plain-step s (record s { arrivals = others }, [])
            (not-effects (record s { arrivals = others }) Arriving here arriving-differ (record { time = refl; phase = refl; ran = refl })) tt
        found (Some x) =
            let s' : State = record (record s { arrivals = others }) {
              tasks = change x.0 (λ u. record u { gate = record { value = a.value; open' = true } }) s.tasks;
            } in
            let h = serve-still x.0 s' in
            plain-step s (arrive_at y a (Some x) (record s { arrivals = others }))
            (not-effects (serve y x.0 s').0 Arriving here arriving-differ (record { time = h.time; phase = h.phase; ran = h.ran }))
            (tt, serve-plain x.0 s')

        by : (b : Bool) → StepIs s (if b then arrive_at y a (first_where (λ t. t.thread.unit == a.task) s.tasks)
            (record s { arrivals = others }) else horizon_step y s)
        by true = found (first_where (λ t. t.thread.unit == a.task) s.tasks)
        by false = horizon here

    ticks : (o : Option ℕ) → StepIs s (use_step y o s)
    ticks None = plain-step s _ (inl (omega arith)) tt
    ticks (Some i) = plain-step s _ (inl (omega arith)) tt

    one-step : StepIs s (step y s)
    one-step = subst (StepIs s) (sym goes) (by s.phase refl)
      where
        goes : step y s ≡ step_in s.phase y s
        goes = ap (λ b. if b then (s, []) else step_in s.phase y s) on

        by : (phase : Phase) → s.phase ≡ phase → StepIs s (step_in phase y s)
        by Effects here = effects here s.ran refl
        by Delays here = delays here (first_where (λ t. is_due s.time t.readiness) s.tasks)
        by Arriving here = arrivals here s.arrivals
        by Use here = ticks (dispatched s.tasks s.orders)

  -- what a step tells, and what is told from the next state on
  parts : (n : ℕ) (next : Next) → named p (next.1 ++ (run y n next.0).1) ≡ named p next.1 ++ named p (run y n next.0).1
  parts n next = map-append (named_event p) next.1 (run y n next.0).1

  -- past a time, ends are later
  ends-from : (n : ℕ) (s : State) (time : ℕ) → IsPast time s → EndAfter time (named p (run y n s).1)
  ends-from zero s time past = tt
  ends-from (suc n) s time past = by s.stopped refl past (λ z at h. ends-from n z at h)
    where
      Goal : Next → Type 0
      Goal next = EndAfter time (named p (next.1 ++ (run y n next.0).1))

      Later : Type 0
      Later = (z : State) (at : ℕ) → IsPast at z → EndAfter at (named p (run y n z).1)

      less-later : time < s.time → IsPast s.time (step y s).0 → time < (step y s).0.time
      less-later less (inl more) = omega (arith, less, more)
      less-later less (inr same) = omega (arith, less, same.0)

      onward : StepIs s (step y s) → IsPast time s → Later → Goal (step y s)
      onward h (inl less) later =
          subst (EndAfter time) (sym (parts n (step y s)))
          (h.ends time less (named p (run y n (step y s).0).1) (later (step y s).0 time (inl (less-later less h.past))))
      onward h (inr now) later =
          subst (EndAfter time) (sym (parts n (step y s)))
          (subst (λ z. EndAfter z (named p (step y s).1 ++ named p (run y n (step y s).0).1)) (sym now.0)
          (h.settled now.1 (named p (run y n (step y s).0).1) (later (step y s).0 s.time h.past)))

      by : (b : Bool) → s.stopped ≡ b → IsPast time s → Later → Goal (step y s)
      by true stops h later =
          let goes : step y s ≡ (s, []) = ap (λ b. if b then (s, []) else step_in s.phase y s) stops in
          subst Goal (sym goes) (later s time h)
      by false on h later = onward (one-step s on) h later

  asks-from : (n : ℕ) (s : State) → RequestsComeBeforeEnds (named p (run y n s).1)
  asks-from zero s = tt
  asks-from (suc n) s = by s.stopped refl (asks-from n s) (asks-from n (step y s).0)
    where
      Goal : Next → Type 0
      Goal next = RequestsComeBeforeEnds (named p (next.1 ++ (run y n next.0).1))

      by : (b : Bool) → s.stopped ≡ b → RequestsComeBeforeEnds (named p (run y n s).1) → RequestsComeBeforeEnds (named p (run y n (step y s).0).1)
          → Goal (step y s)
      by true stops here later =
          let goes : step y s ≡ (s, []) = ap (λ b. if b then (s, []) else step_in s.phase y s) stops in
          subst Goal (sym goes) here
      by false on here later =
          let h = one-step s on in
          subst RequestsComeBeforeEnds (sym (parts n (step y s)))
          (h.asks (named p (run y n (step y s).0).1) (ends-from n (step y s).0 s.time h.past) later)

pub runs-request-before-ends : RunsRequestBeforeEnds
runs-request-before-ends p r trace meets meaning =
    subst (λ es. RequestsComeBeforeEnds (named p es)) meaning.tells (asks-from p (system p r) (costs_some p meets) meaning.steps (start p r))
