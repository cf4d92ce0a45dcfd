-- Every run comes to its stop: each part of an instant ends, and time goes on to the horizon.
-- Effects end since pieces that take no tick only become fewer; releases and arrivals become fewer too.
use Rattle.std.specs.Prelude.{◌≡◌, ◌⊎◌, ℕ, zero, suc, ◌+◌, ◌≤◌, Bool, true, false, ◌&&◌, ◌==◌, List, [], ◌∷◌, drop, nat_le, slice_get, Option}
use Rattle.std.specs.Prelude.{Some, None, if◌then◌else◌, refl}
use Rattle.std.proofs.Common.{sym, ◌∙◌, ap, subst, arith, inl, inr}
use Rattle.seq_tree.specs.Lists.{change, first_from, first_where}
use Rattle.seq_tree.specs.Variables.{Variables, reads, stored}
use Rattle.ada_tree.specs.Programs.{Program}
use Rattle.ada_tree.specs.Rules.{MeetsRules}
use Rattle.arrivals_tree.specs.declared.arrivals.Arrival.{Arrival}
use Rattle.arrivals_tree.specs.Arriving.{Arrivals}
use Rattle.trace_tree.specs.declared.event.Event.{Event}
use Rattle.trace_tree.specs.declared.event.Event.TheVariants as event
use Rattle.machine.specs.Systems.{System, system}
use Rattle.machine.specs.Pieces.{Piece, Idle, Store, Leaving, Calling, Working, Printing, Testing, Turning, Turned, Returning, Closing, Keeping}
use Rattle.machine.specs.Pieces.{Opening, Requested, Finishing, turns}
use Rattle.machine.specs.Deeds.{PieceOutcome, done}
use Rattle.machine.specs.States.{State, Task, Phase, Effects, Delays, Arriving, Use, opening}
use Rattle.machine.specs.Dispatch.{dispatched}
use Rattle.machine.specs.Releases.{going, released, release, release_task, serve, serve_task, is_waiting}
use Rattle.machine.specs.Effects.{acted, takes_effect, exit, outside_now}
use Rattle.machine.specs.Steps.{step, step_in, goes_to, effect_of, effect_at, effect_step, delay_step, horizon_step, arrive_at, arrival_step}
use Rattle.machine.specs.Steps.{use_step, is_due}
use Rattle.machine.specs.Meanings.{run, Meaning, Rest}
use Rattle.law_tasks.proofs.Shared.ProgramFacts.{costs_some}
use Rattle.law_tasks.proofs.Shared.Fresh.{AreSome, is_slow, quick, HasLeft, IsFresh, FreshAt, released-ready, acted-fresh}
use Rattle.std.proofs.lemmas.Option.{none-some, same_Some}
use Rattle.std.proofs.lemmas.Bool.{true≢false}
use Rattle.law_lists.proofs.Shared.Places.{change-at, changed-at, change-any}
use Rattle.law_calls.proofs.Shared.Tasks.{going-pieces, going-readiness, released-readiness, outside-readiness}
use Rattle.law_calls.proofs.Shared.Instants.{IsSame, release_task-same, serve-same, acted-same}

-- a state from which a run comes to its stop
abbrev pub Halts : System → State → Type 0
Halts y s = (n : ℕ) × ((run y n s).0.stopped ≡ true)

-- one step before
before : (y : System) (s : State) → Halts y (step y s).0 → Halts y s
before y s h = (suc h.0, h.1)

pub next : (y : System) (phase : Phase) (s : State) → s.phase ≡ phase → Halts y (step_in phase y s).0 → Halts y s
next y phase s e h = by s.stopped refl
  where
    by : (b : Bool) → s.stopped ≡ b → Halts y s
    by true stopped = (0, stopped)
    by false runs =
        let here : step y s ≡ step_in phase y s = ap (λ b. if b then (s, []) else step_in s.phase y s) runs ∙ ap (λ p. step_in p y s) e in
        before y s (subst (λ z. Halts y z.0) (sym here) h)

-- what comes at the end of the effects, of the releases and of the arrivals
abbrev Later : System → Phase → State → Type 0
Later y phase s = (s' : State) → s'.phase ≡ phase → s'.time ≡ s.time → Halts y s'

later_same : (y : System) (phase : Phase) (s s' : State) → s'.time ≡ s.time → Later y phase s → Later y phase s'
later_same y phase s s' e later = λ z p t. later z p (t ∙ e)

zero_if : (n : ℕ) → (n == 0) ≡ true → 1 ≤ n → ⊥
zero_if n e h = grind arith

module _ (y : System) (some : AreSome y.costs) where
  -- the task whose effects go on, after the effect of a piece that takes no tick: fewer such pieces, unless it was released again
  abbrev Fewer : Task → List Piece → Task → Type 0
  Fewer t rest t' = ((quick t'.pieces ≤ quick rest) × (is_waiting t'.readiness ≡ is_waiting t.readiness))
      ⊎ ((is_waiting t'.readiness ≡ false) × (is_waiting t.readiness ≡ true))

  own_next : (i : ℕ) (vars : Variables) (ps rest : List Piece) (f : Task → Task) (ts : List Task) (t t' : Task)
      → ((u : Task) → (f u).readiness ≡ u.readiness) → quick ps ≤ quick rest
      → slice_get ts i ≡ Some t → slice_get (change i (λ u. going y.costs vars ps (f u)) ts) i ≡ Some t'
      → (quick t'.pieces ≤ quick rest) × (is_waiting t'.readiness ≡ is_waiting t.readiness)
  own_next i vars ps rest f ts t t' keeps few here there =
      let h = changed-at i (λ u. going y.costs vars ps (f u)) ts t' there in
      let one : h.0 ≡ t = same_Some h.0 t (sym h.1 ∙ here) in
      let pieces_are : t'.pieces ≡ ps = ap (λ u. u.pieces) h.2 ∙ going-pieces y.costs vars ps (f h.0) in
      let readiness_is : t'.readiness ≡ t.readiness
      = ap (λ u. u.readiness) h.2 ∙ going-readiness y.costs vars ps (f h.0) ∙ keeps h.0 ∙ ap (λ u. u.readiness) one in
      (subst (λ qs. quick qs ≤ quick rest) (sym pieces_are) few, ap is_waiting readiness_is)

  -- a task that another one, or itself, serves
  serve_next : (k i : ℕ) (s : State) (t t' : Task) → slice_get s.tasks i ≡ Some t → slice_get (serve y k s).0.tasks i ≡ Some t'
      → (t' ≡ t) ⊎ ((is_waiting t'.readiness ≡ false) × (is_waiting t.readiness ≡ true))
  serve_next k i s t t' here there = by_task (slice_get s.tasks k) refl there
    where
      stays : slice_get s.tasks i ≡ Some t' → (t' ≡ t) ⊎ ((is_waiting t'.readiness ≡ false) × (is_waiting t.readiness ≡ true))
      stays e = inl (same_Some t' t (sym e ∙ here))

      changed : (u : Task) → slice_get s.tasks k ≡ Some u → is_waiting u.readiness ≡ true
          → slice_get (change k (released y.costs) s.tasks) i ≡ Some t'
          → (t' ≡ t) ⊎ ((is_waiting t'.readiness ≡ false) × (is_waiting t.readiness ≡ true))
      changed u at waits e = from (change-any k i (released y.costs) s.tasks t' e)
        where
          from : (x : Task) × (slice_get s.tasks i ≡ Some x) × ((t' ≡ x) ⊎ ((t' ≡ released y.costs x) × (k ≡ i)))
              → (t' ≡ t) ⊎ ((is_waiting t'.readiness ≡ false) × (is_waiting t.readiness ≡ true))
          from (x, there', inl same) = inl (same ∙ same_Some x t (sym there' ∙ here))
          from (x, there', inr (same, place)) =
              let one : u ≡ t = same_Some u t (sym at ∙ ap (slice_get s.tasks) place ∙ here) in
              inr (ap (λ v. is_waiting v.readiness) same ∙ released-ready y.costs x, ap (λ v. is_waiting v.readiness) (sym one) ∙ waits)

      by_release : (u : Task) (o : Option Task) → slice_get s.tasks k ≡ Some u → o ≡ Some u → is_waiting u.readiness ≡ true
          → slice_get (release_task y k o s).0.tasks i ≡ Some t'
          → (t' ≡ t) ⊎ ((is_waiting t'.readiness ≡ false) × (is_waiting t.readiness ≡ true))
      by_release u None at e waits h = absurd (none-some u e)
      by_release u (Some v) at e waits h = changed u at waits h

      first_true : (a b : Bool) → (a && b) ≡ true → a ≡ true
      first_true true b e = refl
      first_true false b e = absurd (true≢false (sym e))

      by_test : (u : Task) (b : Bool) → slice_get s.tasks k ≡ Some u → (is_waiting u.readiness && u.gate.open') ≡ b
          → slice_get (if b then release y k s else (s, [])).0.tasks i ≡ Some t'
          → (t' ≡ t) ⊎ ((is_waiting t'.readiness ≡ false) × (is_waiting t.readiness ≡ true))
      by_test u true at e h = by_release u (slice_get s.tasks k) at at (first_true (is_waiting u.readiness) u.gate.open' e) h
      by_test u false at e h = stays h

      by_task : (o : Option Task) → slice_get s.tasks k ≡ o → slice_get (serve_task y k o s).0.tasks i ≡ Some t'
          → (t' ≡ t) ⊎ ((is_waiting t'.readiness ≡ false) × (is_waiting t.readiness ≡ true))
      by_task None at h = stays h
      by_task (Some u) at h = by_test u (is_waiting u.readiness && u.gate.open') at refl h

  -- the effect of a piece that takes no tick
  fast_next : (i : ℕ) (t t' : Task) (x : Piece) (rest : List Piece) (s : State) → is_slow x ≡ false → slice_get s.tasks i ≡ Some t
      → slice_get (acted y i t (done y x t.vars rest).act (done y x t.vars rest).vars (done y x t.vars rest).pieces s).0.tasks i ≡ Some t'
      → Fewer t rest t'
  fast_next i t t' (Working ticks) rest s fast here there
      = inl (own_next i t.vars rest rest (λ u. u) s.tasks t t' (λ u. refl) (omega arith) here there)
  fast_next i t t' (Turned name at last body) rest s fast here there =
      inl (own_next i (drop 1 t.vars) (turns name (suc at) last body rest) rest (λ u. u) s.tasks t t' (λ u. refl)
      (by (nat_le (suc at) last)) here there)
    where
      by : (b : Bool) → quick (if b then Turning name (suc at) last body ∷ rest else rest) ≤ quick rest
      by true = omega arith
      by false = omega arith
  fast_next i t t' (Returning outs stores caller) rest s fast here there =
      inl (own_next i (stored stores (reads outs t.vars) caller) rest rest (λ u. u) s.tasks t t' (λ u. refl) (omega arith) here there)
  fast_next i t t' (Closing object op data' outs stores caller) rest s fast here there =
      inl (own_next i (stored stores (reads outs t.vars) caller) rest rest outside_now s.tasks t t' (λ u. outside-readiness u.inside u)
      (omega arith) here there)
  fast_next i t t' (Requested task v) rest s fast here there =
      let s1 : State = exit y i t.vars rest s in
      by_exit (slice_get s1.tasks i) refl
    where
      onwards : (t1 : Task) → (quick t1.pieces ≤ quick rest) × (is_waiting t1.readiness ≡ is_waiting t.readiness)
          → (t' ≡ t1) ⊎ ((is_waiting t'.readiness ≡ false) × (is_waiting t1.readiness ≡ true)) → Fewer t rest t'
      onwards t1 h (inl e) = inl (subst (λ u. quick u.pieces ≤ quick rest) (sym e) h.0, ap (λ u. is_waiting u.readiness) e ∙ h.1)
      onwards t1 h (inr e) = inr (e.0, sym h.1 ∙ e.1)

      by_exit : (o : Option Task) → slice_get (exit y i t.vars rest s).tasks i ≡ o → Fewer t rest t'
      by_exit None at = absurd (none-some _ (sym at ∙ change-at i (λ u. going y.costs t.vars rest (outside_now u)) s.tasks t here))
      by_exit (Some t1) at =
          onwards t1 (own_next i t.vars rest rest outside_now s.tasks t t1 (λ u. outside-readiness u.inside u) (omega arith) here at)
          (serve_next task i (exit y i t.vars rest s) t1 t' at there)
  fast_next i t t' Idle rest s fast here there = absurd (true≢false fast)
  fast_next i t t' (Store target v) rest s fast here there = absurd (true≢false fast)
  fast_next i t t' (Leaving condition) rest s fast here there = absurd (true≢false fast)
  fast_next i t t' (Calling unit op actuals) rest s fast here there = absurd (true≢false fast)
  fast_next i t t' (Printing v) rest s fast here there = absurd (true≢false fast)
  fast_next i t t' (Testing condition block others) rest s fast here there = absurd (true≢false fast)
  fast_next i t t' (Turning name at last body) rest s fast here there = absurd (true≢false fast)
  fast_next i t t' (Keeping task v) rest s fast here there = absurd (true≢false fast)
  fast_next i t t' (Opening task) rest s fast here there = absurd (true≢false fast)
  fast_next i t t' Finishing rest s fast here there = absurd (true≢false fast)

  -- effects of no task
  no_task : (i : ℕ) (s : State) → s.phase ≡ Effects → s.ran ≡ Some i → slice_get s.tasks i ≡ None → Later y Delays s → Halts y s
  no_task i s phase ran none later =
      next y Effects s phase (subst (λ o. Halts y (effect_step y o s).0) (sym ran)
      (subst (λ o. Halts y (effect_at y i o s).0) (sym none) (later (record s { phase = Delays }) refl refl)))

  -- what comes after the effect of a piece that takes no tick
  abbrev Onwards : State → ℕ → Task → ℕ → Type 0
  Onwards s i t n =
      (s' : State) → IsSame s s' → (t' : Task) → slice_get s'.tasks i ≡ Some t' → IsFresh t'
      → ((quick t'.pieces ≤ n) × (is_waiting t'.readiness ≡ is_waiting t.readiness))
      ⊎ ((is_waiting t'.readiness ≡ false) × (is_waiting t.readiness ≡ true)) → Halts y s'

  -- effects of a task of which this many pieces in front may take no tick
  one_effect : (n i : ℕ) (s : State) (t : Task) → s.phase ≡ Effects → s.ran ≡ Some i → slice_get s.tasks i ≡ Some t → IsFresh t → quick t.pieces ≤ n
      → Later y Delays s
      → ((m : ℕ) → n ≡ suc m → Onwards s i t m) → Halts y s
  one_effect n i s t phase ran at fresh few later onwards =
      next y Effects s phase (subst (λ o. Halts y (effect_step y o s).0) (sym ran)
      (subst (λ o. Halts y (effect_at y i o s).0) (sym at) (by_pieces t.pieces refl)))
    where
      away : Halts y (goes_to Delays s).0
      away = later (record s { phase = Delays }) refl refl

      by_count : (x : Piece) (rest : List Piece) (m : ℕ) → n ≡ m → suc (quick rest) ≤ m → is_slow x ≡ false
          → ((acted y i t (done y x t.vars rest).act (done y x t.vars rest).vars (done y x t.vars rest).pieces s).0.stopped ≡ true)
          ⊎ FreshAt (acted y i t (done y x t.vars rest).act (done y x t.vars rest).vars (done y x t.vars rest).pieces s).0.tasks i
          → Halts y (takes_effect y i t (done y x t.vars rest) s).0
      by_count x rest zero e few' fast after = absurd (omega (arith, few'))
      by_count x rest (suc m) e few' fast (inl stopped) = (0, stopped)
      by_count x rest (suc m) e few' fast (inr fresh') = by_task (slice_get s'.tasks i) refl
        where
          s' : State
          s' = (acted y i t (done y x t.vars rest).act (done y x t.vars rest).vars (done y x t.vars rest).pieces s).0

          is : IsSame s s'
          is = acted-same y i t (done y x t.vars rest).act (done y x t.vars rest).vars (done y x t.vars rest).pieces s

          few_after : (u : Task) → Fewer t rest u → ((quick u.pieces ≤ m) × (is_waiting u.readiness ≡ is_waiting t.readiness))
              ⊎ ((is_waiting u.readiness ≡ false) × (is_waiting t.readiness ≡ true))
          few_after u (inl h) = inl (omega (arith, h.0, few'), h.1)
          few_after u (inr h) = inr h

          by_task : (o : Option Task) → slice_get s'.tasks i ≡ o → Halts y s'
          by_task None none = no_task i s' (is.phase ∙ phase) (is.ran ∙ ran) none (later_same y Delays s s' is.time later)
          by_task (Some u) there = onwards m e s' is u there (fresh' u there) (few_after u (fast_next i t u x rest s fast at there))

      by_slow : (x : Piece) (rest : List Piece) (b : Bool) → t.pieces ≡ x ∷ rest → is_slow x ≡ b → (t.left == 0) ≡ true
          → Halts y (takes_effect y i t (done y x t.vars rest) s).0
      by_slow x rest true has slow none = absurd (zero_if t.left none (subst (λ ps. HasLeft ps t.left) has fresh slow))
      by_slow x rest false has slow none =
          let count : quick (x ∷ rest) ≤ n = subst (λ ps. quick ps ≤ n) has few in
          by_count x rest n refl (subst (λ b. (if b then 0 else suc (quick rest)) ≤ n) slow count) slow (acted-fresh y some i t _ _ _ s)

      by_left : (x : Piece) (rest : List Piece) (b : Bool) → t.pieces ≡ x ∷ rest → (t.left == 0) ≡ b
          → Halts y (if b then takes_effect y i t (done y x t.vars rest) s else goes_to Delays s).0
      by_left x rest true has e = by_slow x rest (is_slow x) has refl e
      by_left x rest false has e = away

      by_pieces : (ps : List Piece) → t.pieces ≡ ps → Halts y (effect_of y i t ps s).0
      by_pieces [] has = away
      by_pieces (x ∷ rest) has = by_left x rest (t.left == 0) has refl

  -- effects of a task that does not wait
  ready_effects : (n i : ℕ) (s : State) (t : Task) → s.phase ≡ Effects → s.ran ≡ Some i → slice_get s.tasks i ≡ Some t → IsFresh t
      → quick t.pieces ≤ n → is_waiting t.readiness ≡ false
      → Later y Delays s → Halts y s
  ready_effects zero i s t phase ran at fresh few rests later = one_effect zero i s t phase ran at fresh few later (λ m e. absurd (omega (arith, e)))
  ready_effects (suc n) i s t phase ran at fresh few rests later =
      one_effect (suc n) i s t phase ran at fresh few later (λ m e s' is t' there fresh' cases.
      let h = by_cases m e t' cases in
      ready_effects n i s' t' (is.phase ∙ phase) (is.ran ∙ ran) there fresh' h.0 h.1 (later_same y Delays s s' is.time later))
    where
      by_cases : (m : ℕ) → suc n ≡ suc m → (t' : Task)
          → ((quick t'.pieces ≤ m) × (is_waiting t'.readiness ≡ is_waiting t.readiness))
          ⊎ ((is_waiting t'.readiness ≡ false) × (is_waiting t.readiness ≡ true)) → (quick t'.pieces ≤ n) × (is_waiting t'.readiness ≡ false)
      by_cases m e t' (inl h) = (omega (arith, h.0, e), h.1 ∙ rests)
      by_cases m e t' (inr h) = absurd (true≢false (sym h.1 ∙ rests))

  -- effects of any task: it is released again once at most
  any_effects : (n i : ℕ) (s : State) (t : Task) → s.phase ≡ Effects → s.ran ≡ Some i → slice_get s.tasks i ≡ Some t → IsFresh t → quick t.pieces ≤ n
      → Later y Delays s → Halts y s
  any_effects zero i s t phase ran at fresh few later = one_effect zero i s t phase ran at fresh few later (λ m e. absurd (omega (arith, e)))
  any_effects (suc n) i s t phase ran at fresh few later =
      one_effect (suc n) i s t phase ran at fresh few later (λ m e s' is t' there fresh' cases.
      by_cases m e s' is t' there fresh' cases (any_effects n i s' t'))
    where
      by_cases : (m : ℕ) → suc n ≡ suc m → (s' : State) → IsSame s s' → (t' : Task) → slice_get s'.tasks i ≡ Some t' → IsFresh t'
          → ((quick t'.pieces ≤ m) × (is_waiting t'.readiness ≡ is_waiting t.readiness))
          ⊎ ((is_waiting t'.readiness ≡ false) × (is_waiting t.readiness ≡ true))
          → (s'.phase ≡ Effects → s'.ran ≡ Some i → slice_get s'.tasks i ≡ Some t' → IsFresh t' → quick t'.pieces ≤ n → Later y Delays s'
          → Halts y s') → Halts y s'
      by_cases m e s' is t' there fresh' (inl h) more
          = more (is.phase ∙ phase) (is.ran ∙ ran) there fresh' (omega (arith, h.0, e)) (later_same y Delays s s' is.time later)
      by_cases m e s' is t' there fresh' (inr h) more =
          ready_effects (quick t'.pieces) i s' t' (is.phase ∙ phase) (is.ran ∙ ran) there fresh' (omega arith) h.0
          (later_same y Delays s s' is.time later)

  -- the effects of an instant
  effects_end : (s : State) → s.phase ≡ Effects → Later y Delays s → Halts y s
  effects_end s phase later = next y Effects s phase (by_ran s.ran refl)
    where
      away : Halts y (goes_to Delays s).0
      away = later (record s { phase = Delays }) refl refl

      by_act : (i : ℕ) (t : Task) (d : PieceOutcome) → s.ran ≡ Some i → ((acted y i t d.act d.vars d.pieces s).0.stopped ≡ true)
          ⊎ FreshAt (acted y i t d.act d.vars d.pieces s).0.tasks i → Halts y (takes_effect y i t d s).0
      by_act i t d ran (inl stopped) = (0, stopped)
      by_act i t d ran (inr fresh) = by_task (slice_get s'.tasks i) refl
        where
          s' : State
          s' = (acted y i t d.act d.vars d.pieces s).0

          is : IsSame s s'
          is = acted-same y i t d.act d.vars d.pieces s

          by_task : (o : Option Task) → slice_get s'.tasks i ≡ o → Halts y s'
          by_task None none = no_task i s' (is.phase ∙ phase) (is.ran ∙ ran) none (later_same y Delays s s' is.time later)
          by_task (Some u) there = any_effects (quick u.pieces) i s' u (is.phase ∙ phase) (is.ran ∙ ran) there (fresh u there) (omega arith)
              (later_same y Delays s s' is.time later)

      by_left : (i : ℕ) (t : Task) (x : Piece) (rest : List Piece) (b : Bool) → s.ran ≡ Some i
          → Halts y (if b then takes_effect y i t (done y x t.vars rest) s else goes_to Delays s).0
      by_left i t x rest true ran = by_act i t (done y x t.vars rest) ran (acted-fresh y some i t _ _ _ s)
      by_left i t x rest false ran = away

      by_pieces : (i : ℕ) (t : Task) (ps : List Piece) → s.ran ≡ Some i → Halts y (effect_of y i t ps s).0
      by_pieces i t [] ran = away
      by_pieces i t (x ∷ rest) ran = by_left i t x rest (t.left == 0) ran

      by_task : (i : ℕ) (o : Option Task) → s.ran ≡ Some i → Halts y (effect_at y i o s).0
      by_task i None ran = away
      by_task i (Some t) ran = by_pieces i t t.pieces ran

      by_ran : (o : Option ℕ) → s.ran ≡ o → Halts y (effect_step y o s).0
      by_ran None ran = away
      by_ran (Some i) ran = by_task i (slice_get s.tasks i) ran

  -- the releases of an instant: sleepers whose time has come become fewer
  abbrev due_one : ℕ → Task → ℕ
  due_one time t = if is_due time t.readiness then 1 else 0

  abbrev due : ℕ → List Task → ℕ
  due time [] = 0
  due time (t ∷ ts) = due_one time t + due time ts

  ready_due : (time : ℕ) (t : Task) → due_one time (released y.costs t) ≡ 0
  ready_due time t = ap (λ r. let n : ℕ = if is_due time r then 1 else 0 in n) (released-readiness y.costs t)

  due_less : (time k : ℕ) (ts : List Task) (t : Task) → slice_get ts k ≡ Some t → is_due time t.readiness ≡ true
      → due time (change k (released y.costs) ts) + 1 ≤ due time ts
  due_less time k [] t at e = absurd (none-some t at)
  due_less time zero (u ∷ ts) t at e =
      let here : due_one time u ≡ 1 = ap (due_one time) (same_Some u t at) ∙ ap (λ b. let n : ℕ = if b then 1 else 0 in n) e in
      let gone : due_one time (released y.costs u) ≡ 0 = ready_due time u in
      omega (arith, here, gone)
  due_less time (suc k) (u ∷ ts) t at e = let more : due time (change k (released y.costs) ts) + 1 ≤ due time ts = due_less time k ts t at e
      in omega (arith, more)

  found_due : (time n : ℕ) (ts : List Task) (k : ℕ) (t : Task) → first_from n (λ u. is_due time u.readiness) ts ≡ Some (k, t)
      → (j : ℕ) × (k ≡ n + j) × (slice_get ts j ≡ Some t) × (is_due time t.readiness ≡ true)
  found_due time n [] k t e = absurd (none-some (k, t) e)
  found_due time n (u ∷ ts) k t e = by (is_due time u.readiness) refl e (found_due time (suc n) ts k t)
    where
      by : (b : Bool) → is_due time u.readiness ≡ b → (if b then Some (n, u) else first_from (suc n) (λ u. is_due time u.readiness) ts) ≡ Some (k, t)
          → (first_from (suc n) (λ u. is_due time u.readiness) ts ≡ Some (k, t) → (j : ℕ) × (k ≡ suc n + j) × (slice_get ts j ≡ Some t)
          × (is_due time t.readiness ≡ true))
          → (j : ℕ) × (k ≡ n + j) × (slice_get (u ∷ ts) j ≡ Some t) × (is_due time t.readiness ≡ true)
      by true g h more =
          let number : n ≡ k = ap (λ (q : ℕ × Task). q.0) (same_Some {A = ℕ × Task} (n, u) (k, t) h) in
          let item : u ≡ t = ap (λ (q : ℕ × Task). q.1) (same_Some {A = ℕ × Task} (n, u) (k, t) h) in
          (0, omega (arith, number), ap Some item, ap (λ v. is_due time v.readiness) (sym item) ∙ g)
      by false g h more = let m = more h in (suc m.0, omega (arith, m.1), m.2, m.3)

  delays_step : (n : ℕ) (s : State) → s.phase ≡ Delays → due s.time s.tasks ≤ n → Later y Arriving s
      → ((m : ℕ) → n ≡ suc m → (s' : State) → IsSame s s' → due s'.time s'.tasks ≤ m → Halts y s') → Halts y s
  delays_step n s phase few later onwards = next y Delays s phase (by_first (first_where (λ t. is_due s.time t.readiness) s.tasks) refl)
    where
      by_number : (k : ℕ) (t : Task) (o : Option Task) (m : ℕ) → n ≡ m → slice_get s.tasks k ≡ Some t → is_due s.time t.readiness ≡ true → o ≡ Some t
          → Halts y (release_task y k o s).0
      by_number k t None m e at is o_is = absurd (none-some t o_is)
      by_number k t (Some u) zero e at is o_is =
          let less : due s.time (change k (released y.costs) s.tasks) + 1 ≤ due s.time s.tasks = due_less s.time k s.tasks t at is in
          absurd (omega (arith, less, few, e))
      by_number k t (Some u) (suc m) e at is o_is =
          let less : due s.time (change k (released y.costs) s.tasks) + 1 ≤ due s.time s.tasks = due_less s.time k s.tasks t at is in
          onwards m e (release_task y k (Some u) s).0 (release_task-same y k (Some u) s) (omega (arith, less, few, e))

      by_first : (o : Option (ℕ × Task)) → first_where (λ t. is_due s.time t.readiness) s.tasks ≡ o → Halts y (delay_step y o s).0
      by_first None e = later (record s { phase = Arriving }) refl refl
      by_first (Some (k, t)) e =
          let found : (j : ℕ) × (k ≡ 0 + j) × (slice_get s.tasks j ≡ Some t) × (is_due s.time t.readiness ≡ true)
          = found_due s.time 0 s.tasks k t e in
          let place : found.0 ≡ k = omega (arith, found.1) in
          let at : slice_get s.tasks k ≡ Some t = ap (slice_get s.tasks) (sym place) ∙ found.2 in
          by_number k t (slice_get s.tasks k) n refl at found.3 at

  delays_end : (n : ℕ) (s : State) → s.phase ≡ Delays → due s.time s.tasks ≤ n → Later y Arriving s → Halts y s
  delays_end zero s phase few later = delays_step zero s phase few later (λ m e. absurd (omega (arith, e)))
  delays_end (suc n) s phase few later =
      delays_step (suc n) s phase few later (λ m e s' is few'. delays_end n s' (is.phase ∙ phase) (omega (arith, few', e))
      (later_same y Arriving s s' is.time later))

  -- the arrivals of an instant, and then the horizon or the use of a tick
  abbrev ThenUse : State → Type 0
  ThenUse s = (s' : State) → s'.phase ≡ Use → s'.time ≡ s.time → (s'.time == y.until) ≡ false → Halts y s'

  use_same : (s s' : State) → s'.time ≡ s.time → ThenUse s → ThenUse s'
  use_same s s' e later = λ z p t u. later z p (t ∙ e) u

  horizon : (s : State) → ThenUse s → Halts y (horizon_step y s).0
  horizon s later = by (s.time == y.until) refl
    where
      by : (b : Bool) → (s.time == y.until) ≡ b → Halts y (if b then (record s { stopped = true }, event.Horizon s.time ∷ []) else goes_to Use s).0
      by true e = (0, refl)
      by false e = later (record s { phase = Use }) refl refl e

  arrivals_end : (items : List Arrival) (s : State) → s.phase ≡ Arriving → s.arrivals ≡ items → ThenUse s → Halts y s
  arrivals_end [] s phase has later = next y Arriving s phase (subst (λ as'. Halts y (arrival_step y as' s).0) (sym has) (horizon s later))
  arrivals_end (a ∷ items) s phase has later =
      next y Arriving s phase (subst (λ as'. Halts y (arrival_step y as' s).0) (sym has) (by (a.time == s.time) (arrivals_end items)))
    where
      s' : State
      s' = record s { arrivals = items }

      at_task : (o : Option (ℕ × Task)) → ((z : State) → z.phase ≡ Arriving → z.arrivals ≡ items → ThenUse z → Halts y z)
          → Halts y (arrive_at y a o s').0
      at_task None more = more s' phase refl (use_same s s' refl later)
      at_task (Some (k, t)) more =
          let z : State = record s' { tasks = change k (λ u. record u { gate = record { value = a.value; open' = true } }) s'.tasks } in
          let is : IsSame z (serve y k z).0 = serve-same y k z in
          more (serve y k z).0 (is.phase ∙ phase) is.arrivals (use_same s (serve y k z).0 is.time later)

      by : (b : Bool) → ((z : State) → z.phase ≡ Arriving → z.arrivals ≡ items → ThenUse z → Halts y z)
          → Halts y (if b then arrive_at y a (first_where (λ t. t.thread.unit == a.task) s'.tasks) s' else horizon_step y s).0
      by true more = at_task (first_where (λ t. t.thread.unit == a.task) s'.tasks) more
      by false more = horizon s later

  -- a tick
  use_end : (s : State) → s.phase ≡ Use → ((s' : State) → s'.phase ≡ Effects → s'.time ≡ s.time + 1 → Halts y s') → Halts y s
  use_end s phase later = next y Use s phase (by (dispatched s.tasks s.orders))
    where
      by : (o : Option ℕ) → Halts y (use_step y o s).0
      by None = later _ refl refl
      by (Some i) = later _ refl refl

  early_is : (n m : ℕ) → n ≤ m → (n == m) ≡ false → n + 1 ≤ m
  early_is n m le e = grind arith

  -- an instant
  instant : (s : State) → s.phase ≡ Effects → s.time ≤ y.until → ((s' : State) → s'.phase ≡ Effects → s'.time ≡ s.time + 1 → s'.time ≤ y.until
      → Halts y s') → Halts y s
  instant s phase within later =
      effects_end s phase (λ s1 phase1 time1. delays_end (due s1.time s1.tasks) s1 phase1 (omega arith) (λ s2 phase2 time2.
      arrivals_end s2.arrivals s2 phase2 refl (λ s3 phase3 time3 early.
      let same : s3.time ≡ s.time = time3 ∙ time2 ∙ time1 in
      let more : s3.time + 1 ≤ y.until = early_is s3.time y.until (omega (arith, same, within)) early in
      use_end s3 phase3 (λ s4 phase4 time4. later s4 phase4 (omega (arith, time4, same)) (omega (arith, time4, more))))))

  -- from an instant on, so far before the horizon
  from_instant : (left : ℕ) (s : State) → s.phase ≡ Effects → s.time ≤ y.until → y.until ≤ s.time + left → Halts y s
  from_instant zero s phase within near = instant s phase within (λ s' phase' time' within'. absurd (omega (arith, time', within', near)))
  from_instant (suc left) s phase within near =
      instant s phase within (λ s' phase' time' within'. from_instant left s' phase' within' (omega (arith, time', near)))

  -- from a part of an instant on
  from_use : (s : State) → s.phase ≡ Use → s.time + 1 ≤ y.until → Halts y s
  from_use s phase ahead = use_end s phase (λ s' phase' time'. from_instant y.until s' phase' (omega (arith, time', ahead)) (omega arith))

  from_arrivals : (s : State) → s.phase ≡ Arriving → s.time ≤ y.until → Halts y s
  from_arrivals s phase within =
      arrivals_end s.arrivals s phase refl (λ s' phase' time' early.
      from_use s' phase' (early_is s'.time y.until (omega (arith, time', within)) early))

  from_delays : (s : State) → s.phase ≡ Delays → s.time ≤ y.until → Halts y s
  from_delays s phase within =
      delays_end (due s.time s.tasks) s phase (omega arith) (λ s' phase' time'. from_arrivals s' phase' (omega (arith, time', within)))

  -- from any state on that is not past the horizon, nor at it where a tick is to be used
  pub state_halts : (s : State) → s.time ≤ y.until → (s.phase ≡ Use → s.time + 1 ≤ y.until) → Halts y s
  state_halts s within ahead = by s.phase refl
    where
      by : (phase : Phase) → s.phase ≡ phase → Halts y s
      by Effects e = from_instant y.until s e within (omega arith)
      by Delays e = from_delays s e within
      by Arriving e = from_arrivals s e within
      by Use e = from_use s e (ahead e)

  -- from the opening on
  pub opening_halts : (items : List Arrival) → Halts y (opening y items)
  opening_halts items = from_instant y.until (opening y items) refl (omega arith) (omega arith)

-- what is told from a state from which a run comes to its stop
told_from : (y : System) (s : State) → Halts y s → (told : List Event) × Rest y s told
told_from y s h = ((run y h.0 s).1, record { steps = h.0; stops = h.1; tells = refl })

-- every program whose costs are of a tick at least has a meaning under all arrivals
pub meaning_exists : (p : Program) (a : Arrivals) → AreSome p.costs → (told : List Event) × Meaning p a told
meaning_exists p a some = told_from (system p a) (opening (system p a) a.items) (opening_halts (system p a) some a.items)

-- the costs of a program that meets the rules
readable_costs : (p : Program) → MeetsRules p → AreSome p.costs
readable_costs p meets =
    let some = costs_some p meets in
    record {
      assign = some.assign;
      test = some.test;
      turn = some.turn;
      call = some.call;
      nothing = some.nothing;
      put = some.put;
      finish = some.finish;
    }

-- and so has every program that meets the rules
pub readable_means : (p : Program) (a : Arrivals) → MeetsRules p → (told : List Event) × Meaning p a told
readable_means p a meets = meaning_exists p a (readable_costs p meets)

-- a run of such a program tells something from each state on that is not past the horizon, nor at it where a tick is to be used
pub readable_goes_on : (p : Program) (a : Arrivals) (s : State) → MeetsRules p → s.time ≤ a.until → (s.phase ≡ Use → s.time + 1 ≤ a.until)
    → (told : List Event) × Rest (system p a) s told
readable_goes_on p a s meets within ahead = told_from (system p a) s (state_halts (system p a) (readable_costs p meets) s within ahead)
