-- From behind a step to before it, and so from the stop of a run to its opening.
use Rattle.std.specs.Prelude.{◌≡◌, ◌⊎◌, ℕ, suc, ◌+◌, ◌-◌, ◌≤◌, Bool, true, false, ◌==◌, List, [], ◌∷◌, ◌++◌, Option, Some, None, slice_get, refl}
use Rattle.std.specs.Prelude.{if◌then◌else◌}
use Rattle.std.proofs.Common.{sym, ◌∙◌, ap, subst, arith, inl, inr}
use Rattle.seq_tree.specs.Lists.{change, first_where}
use Rattle.seq_tree.specs.Variables.{Variables}
use Rattle.ada_tree.specs.Programs.{Program}
use Rattle.arrivals_tree.specs.declared.arrivals.Arrival.{Arrival}
use Rattle.trace_tree.specs.Lines.{unit_name}
use Rattle.trace_tree.specs.declared.event.Event.TheVariants as event
use Rattle.machine.specs.Systems.{System, system}
use Rattle.machine.specs.Pieces.{Piece}
use Rattle.machine.specs.Deeds.{done}
use Rattle.machine.specs.States.{State, Task, Phase, Effects, Delays, Arriving, Use, Gate, Ready, Readiness, Waiting, Asleep}
use Rattle.machine.specs.Dispatch.{dispatched}
use Rattle.machine.specs.Releases.{Next, serve}
use Rattle.machine.specs.Effects.{takes_effect}
use Rattle.machine.specs.Steps.{step, step_in, goes_to, effect_of, effect_at, effect_step, delay_step, horizon_step, arrive_at, arrival_step}
use Rattle.machine.specs.Steps.{use_step, is_due}
use Rattle.guarantee.specs.Software.{Software, program_software}
use Rattle.guarantee.specs.Events.{Event, named}
use Rattle.law_written.proofs.Shared.Moves.{threads_of, change-threads}
use Rattle.law_written.proofs.Shared.Claims.{Conducts}
use Rattle.law_written.proofs.Shared.Back.{threads_back, serves_back, arrive_back}
use Rattle.law_written.proofs.Bound.{known_done}
use Rattle.law_written.proofs.Acts.{stand_tick, stand_later}
use Rattle.law_written.proofs.Passings.{Alone, HasStores}
use Rattle.law_written.proofs.Evolving.{AreFitting, Lasts, HasTicksLeft, Became, Evolve}
use Rattle.law_written.proofs.DeedsBack.{Backs, Idles, IsActing, acts_back, release_backs, serve_backs, gate_back, idle_change}
use Rattle.std.proofs.lemmas.Option.{same_Some}
use Rattle.std.proofs.lemmas.Bool.{true≢false}
use Rattle.arrivals_tree.specs.Arriving.{Arrivals}
use Rattle.ada_tree.specs.Rules.{MeetsRules}
use Rattle.law_ceilings.proofs.Shared.Pieces.{closers}
use Rattle.law_ceilings.specs.Sections.{sections}
use Rattle.law_lists.proofs.Shared.Places.{change-none}
use Rattle.law_lists.proofs.Shared.Facts.{first-from}

-- what exclusion keeps of the tasks of each state of a run
pub record IsKept (ts : List Task) : Type 0 where
  pub idles : Idles ts
  pub closed : (k : ℕ) (t : Task) → slice_get ts k ≡ Some t → closers t.pieces ≡ sections t
  pub alone : Alone ts

-- the task whose effects are due
abbrev pub IsDue : State → ℕ → Type 0
IsDue s k = (s.phase ≡ Effects) × (s.ran ≡ Some k)

zero_if : (n : ℕ) → (n == 0) ≡ true → n ≡ 0
zero_if n e = grind arith

pub some_if : (n : ℕ) → (n == 0) ≡ false → 1 ≤ n
some_if n e = grind arith

pub use_effects : Use ≡ Effects → ⊥
use_effects e = cc

due_not_ready : (time : ℕ) (r : Readiness) → is_due time r ≡ true → r ≡ Ready → ⊥
due_not_ready time Waiting e h = cc
due_not_ready time Ready e h = true≢false (sym e)
due_not_ready time (Asleep until) e h = cc

module _ (p : Program) (arrivals : Arrivals) (meets : MeetsRules p) (fits : AreFitting p arrivals (system p arrivals).threads) where
  abbrev y : System
  y = system p arrivals

  abbrev w : Software
  w = program_software p

  -- what each state of a run keeps besides
  pub record IsSteady (s : State) : Type 0 where
    pub threads : threads_of s.tasks ≡ y.threads
    pub has : HasStores y s.stores
    pub lasts : (k : ℕ) (t : Task) → slice_get s.tasks k ≡ Some t → Lasts p arrivals t.pieces
    pub left : (k : ℕ) (t : Task) → slice_get s.tasks k ≡ Some t → IsDue s k ⊎ HasTicksLeft t.pieces t.left

  -- a time that passes
  later_back : (ts : List Task) (stores : List Variables) (now : ℕ) (told : List Event) → Conducts p arrivals (now + 1) ts stores told
      → Conducts p arrivals now ts stores told
  later_back ts stores now told c = record {
    moments' = c.moments';
    tells = c.tells;
    threads = λ k t at. stand_later p arrivals meets now t t.pieces _ (c.threads k t at);
    objects = c.objects;
  }

  -- the use of a tick
  tick_back : (i : ℕ) (o : Option Task) (ts : List Task) (stores : List Variables) (now : ℕ) (told : List Event) → slice_get ts i ≡ o
      → ((t : Task) → o ≡ Some t → HasTicksLeft t.pieces t.left)
      → Conducts p arrivals (now + 1) (change i (λ t. record t { left = t.left - 1; used = t.used + 1 }) ts) stores told
      → Conducts p arrivals now ts stores told
  tick_back i None ts stores now told here some c =
      let P : List Task → Type 0 = λ z. Conducts p arrivals (now + 1) z stores told in
      later_back ts stores now told (subst P (change-none i (λ t. record t { left = t.left - 1; used = t.used + 1 }) ts here) c)
  tick_back i (Some t) ts stores now told here some c =
      let f : Task → Task = λ u. record u { left = u.left - 1; used = u.used + 1 } in
      record {
        moments' = c.moments';
        tells = c.tells;
        threads = threads_back p arrivals meets i f t ts now (now + 1) c.moments' c.moments' here
            (λ z. stand_tick p arrivals meets now t t.pieces _ (λ x rest e. let H : List Piece → Type 0 = λ ps. HasTicksLeft ps t.left
            in subst H e (some t refl)) z)
            (λ k u apart at z. stand_later p arrivals meets now u u.pieces _ z) c.threads;
        objects = λ j g at. serves_back p arrivals meets j g i f t ts stores stores c.moments' c.moments' here refl refl refl
            (λ d h. (d, h, λ z. z)) (λ k u d apart there z. z) (λ d h. (d, h)) (c.objects j g at);
      }

  -- effects
  effects_back : (s : State) → IsSteady s → IsKept s.tasks → Alone (effect_step y s.ran s).0.tasks → Backs p arrivals meets s (effect_step y s.ran s)
  effects_back s steady kept alone = by_ran s.ran alone
    where
      away : Backs p arrivals meets s (goes_to Delays s)
      away on quiet more c = c

      by_left : (i : ℕ) (t : Task) (x : Piece) (rest : List Piece) (b : Bool) → slice_get s.tasks i ≡ Some t → t.pieces ≡ x ∷ rest → (t.left == 0) ≡ b
          → Alone (if b then takes_effect y i t (done y x t.vars rest) s else goes_to Delays s).0.tasks
          → Backs p arrivals meets s (if b then takes_effect y i t (done y x t.vars rest) s else goes_to Delays s)
      by_left i t x rest true at is e alone' =
          let L : List Piece → Type 0 = λ z. Lasts p arrivals z in
          let last : Lasts p arrivals (x ∷ rest) = subst L is (steady.lasts i t at) in
          let a : IsActing p arrivals meets s i t x rest = record {
            here = at;
            pieces' = is;
            left = zero_if t.left e;
            fit = last.0;
            bound = last.1;
            closed = sym (ap closers is) ∙ kept.closed i t at;
            fits = fits;
            threads = steady.threads;
            idles = kept.idles;
            has = steady.has;
            alone = kept.alone;
          } in
          acts_back p arrivals meets s i t x rest (done y x t.vars rest).act a refl (known_done p arrivals meets x t.vars rest last.0 last.1) alone'
      by_left i t x rest false at is e alone' = away

      by_pieces : (i : ℕ) (t : Task) (ps : List Piece) → slice_get s.tasks i ≡ Some t → t.pieces ≡ ps → Alone (effect_of y i t ps s).0.tasks
          → Backs p arrivals meets s (effect_of y i t ps s)
      by_pieces i t [] at is alone' = away
      by_pieces i t (x ∷ rest) at is alone' = by_left i t x rest (t.left == 0) at is refl alone'

      by_task : (i : ℕ) (o : Option Task) → slice_get s.tasks i ≡ o → Alone (effect_at y i o s).0.tasks → Backs p arrivals meets s (effect_at y i o s)
      by_task i None at alone' = away
      by_task i (Some t) at alone' = by_pieces i t t.pieces at refl alone'

      by_ran : (o : Option ℕ) → Alone (effect_step y o s).0.tasks → Backs p arrivals meets s (effect_step y o s)
      by_ran None alone' = away
      by_ran (Some i) alone' = by_task i (slice_get s.tasks i) refl alone'

  -- delays
  delays_back : (s : State) (o : Option (ℕ × Task)) → first_where (λ u. is_due s.time u.readiness) s.tasks ≡ o → IsSteady s → IsKept s.tasks
      → Backs p arrivals meets s (delay_step y o s)
  delays_back s None e steady kept = λ on quiet more c. c
  delays_back s (Some f) e steady kept =
      let at : (k : ℕ) × (f.0 ≡ 0 + k) × (slice_get s.tasks k ≡ Some f.1) × (is_due s.time f.1.readiness ≡ true)
      = first-from 0 (λ u. is_due s.time u.readiness) s.tasks f.0 f.1 e in
      release_backs p arrivals meets f.0 (slice_get s.tasks f.0) s refl fits steady.threads
      (λ t there. let is : t ≡ f.1 = same_Some t f.1 (sym there ∙ ap (slice_get s.tasks) (at.1 ∙ omega arith) ∙ at.2) in
      kept.idles f.0 t there (due_not_ready s.time t.readiness (ap (λ z. is_due s.time z.readiness) is ∙ at.3)))

  -- the horizon, where the run goes on
  horizon_back : (s : State) → Backs p arrivals meets s (horizon_step y s)
  horizon_back s = by (s.time == y.until)
    where
      by : (b : Bool) → Backs p arrivals meets s (if b then (record s { stopped = true }, event.Horizon s.time ∷ []) else goes_to Use s)
      by true = λ on quiet more c. absurd (true≢false on)
      by false = λ on quiet more c. c

  -- arrivals
  arrives_back : (s : State) (a : Arrival) (others : List Arrival) (o : Option (ℕ × Task)) → first_where (λ t. t.thread.unit == a.task) s.tasks ≡ o
      → IsSteady s → IsKept s.tasks
      → Backs p arrivals meets s (arrive_at y a o (record s { arrivals = others }))
  arrives_back s a others None e steady kept = λ on quiet more c. c
  arrives_back s a others (Some f) e steady kept = λ on quiet more c.
      let g : Gate → Gate = λ h. record { value = a.value; open' = true } in
      let set_gate : Task → Task = λ u. record u { gate = record { value = a.value; open' = true } } in
      let s' : State = record s { arrivals = others; tasks = change f.0 set_gate s.tasks } in
      let at : (k : ℕ) × (f.0 ≡ 0 + k) × (slice_get s.tasks k ≡ Some f.1) × ((f.1.thread.unit == a.task) ≡ true)
      = first-from 0 (λ t. t.thread.unit == a.task) s.tasks f.0 f.1 e in
      let here : slice_get s.tasks f.0 ≡ Some f.1 = ap (slice_get s.tasks) (at.1 ∙ omega arith) ∙ at.2 in
      let idles : Idles s'.tasks = idle_change p arrivals meets f.0 set_gate f.1 s.tasks here kept.idles (λ h. kept.idles f.0 f.1 here h) in
      let c' : Conducts p arrivals s'.time s'.tasks s'.stores (named p (serve y f.0 s').1 ++ more) =
      serve_backs p arrivals meets f.0 (slice_get s'.tasks f.0) s' refl fits (change-threads f.0 set_gate s.tasks (λ u. refl) ∙ steady.threads) idles
      on quiet more c in
      arrive_back p arrivals meets s.tasks s.stores s.time s.time (unit_name p a.task) a.value (named p (serve y f.0 s').1 ++ more)
      (gate_back p arrivals meets f.0 g (slice_get s.tasks f.0) s.tasks s.stores s.time (named p (serve y f.0 s').1 ++ more) refl c')

  arrivals_back : (s : State) (as' : List Arrival) → IsSteady s → IsKept s.tasks → Backs p arrivals meets s (arrival_step y as' s)
  arrivals_back s [] steady kept = horizon_back s
  arrivals_back s (a ∷ others) steady kept = by (a.time == s.time)
    where
      by : (b : Bool) → Backs p arrivals meets s (if b then arrive_at y a (first_where (λ t. t.thread.unit == a.task) s.tasks)
          (record s { arrivals = others }) else horizon_step y s)
      by true = arrives_back s a others (first_where (λ t. t.thread.unit == a.task) s.tasks) refl steady kept
      by false = horizon_back s

  -- the use of a tick
  use_back : (s : State) (o : Option ℕ) → s.phase ≡ Use → IsSteady s → Backs p arrivals meets s (use_step y o s)
  use_back s None is steady = λ on quiet more c. later_back s.tasks s.stores s.time more c
  use_back s (Some i) is steady = λ on quiet more c.
      tick_back i (slice_get s.tasks i) s.tasks s.stores s.time more refl (λ t at. ready t (steady.left i t at)) c
    where
      ready : (t : Task) → IsDue s i ⊎ HasTicksLeft t.pieces t.left → HasTicksLeft t.pieces t.left
      ready t (inl due) = absurd (use_effects (sym is ∙ due.0))
      ready t (inr h) = h

  -- a step
  pub step_backs : (s : State) → s.stopped ≡ false → IsSteady s → IsKept s.tasks → Alone (step y s).0.tasks → Backs p arrivals meets s (step y s)
  step_backs s on steady kept alone =
      let goes : step y s ≡ step_in s.phase y s = ap (λ b. if b then (s, []) else step_in s.phase y s) on in
      let P : Next → Type 0 = λ next. Backs p arrivals meets s next in
      let A : Next → Type 0 = λ next. Alone next.0.tasks in
      subst P (sym goes) (by s.phase refl (subst A goes alone))
    where
      by : (phase : Phase) → s.phase ≡ phase → Alone (step_in phase y s).0.tasks → Backs p arrivals meets s (step_in phase y s)
      by Effects is alone' = effects_back s steady kept alone'
      by Delays is alone' = delays_back s (first_where (λ u. is_due s.time u.readiness) s.tasks) refl steady kept
      by Arriving is alone' = arrivals_back s s.arrivals steady kept
      by Use is alone' = use_back s (dispatched s.tasks s.orders) is steady

  -- steady states, from one to the next
  -- each task has what it had, or is new, or stands at a place of its own that acts
  steady_from : (s s' : State) (place : ℕ → ℕ) (ps : List Piece) → IsSteady s → threads_of s'.tasks ≡ y.threads → HasStores y s'.stores
      → ((k : ℕ) → Evolve p arrivals (place k) ps s.tasks s'.tasks) → ((k : ℕ) → k ≡ place k → Lasts p arrivals ps × IsDue s' k)
      → ((k : ℕ) → IsDue s k → IsDue s' k) → IsSteady s'
  steady_from s s' place ps steady threads has evolve acts due = record {
    threads = threads;
    has = has;
    lasts = λ k t at. lasts k t (evolve k k t at);
    left = λ k t at. left k t (evolve k k t at);
  }
    where
      lasts : (k : ℕ) (t : Task) → Became p arrivals (place k) ps s.tasks k t → Lasts p arrivals t.pieces
      lasts k t (inl b) = let L : List Piece → Type 0 = λ z. Lasts p arrivals z in subst L (sym b.pieces') (steady.lasts k b.task b.at)
      lasts k t (inr (inl b)) = let L : List Piece → Type 0 = λ z. Lasts p arrivals z in subst L (sym b.1) (acts k b.0).0
      lasts k t (inr (inr b)) = b.0

      left : (k : ℕ) (t : Task) → Became p arrivals (place k) ps s.tasks k t → IsDue s' k ⊎ HasTicksLeft t.pieces t.left
      left k t (inl b) = same (steady.left k b.task b.at)
        where
          same : IsDue s k ⊎ HasTicksLeft b.task.pieces b.task.left → IsDue s' k ⊎ HasTicksLeft t.pieces t.left
          same (inl h) = inl (due k h)
          same (inr h) =
              let P : List Piece → Type 0 = λ z. HasTicksLeft z t.left in
              let R : ℕ → Type 0 = λ n. HasTicksLeft b.task.pieces n in
              inr (subst P (sym b.pieces') (subst R (sym b.left) h))
      left k t (inr (inl b)) = inl (acts k b.0).1
      left k t (inr (inr b)) = inr b.1

  -- within an instant
  pub steady_on : (s s' : State) (i : ℕ) (ps : List Piece) → IsSteady s → threads_of s'.tasks ≡ y.threads → HasStores y s'.stores
      → Evolve p arrivals i ps s.tasks s'.tasks → Lasts p arrivals ps
      → ((k : ℕ) → IsDue s k → IsDue s' k) → IsDue s' i → IsSteady s'
  steady_on s s' i ps steady threads has evolve last due own =
      steady_from s s' (λ k. i) ps steady threads has (λ k. evolve) (λ k e. (last, (let P : ℕ → Type 0 = λ n. IsDue s' n in subst P (sym e) own))) due

  -- the same where none acts: the place is past all tasks
  pub steady_still : (s s' : State) → IsSteady s → threads_of s'.tasks ≡ y.threads → s'.stores ≡ s.stores
      → ((i : ℕ) → Evolve p arrivals i [] s.tasks s'.tasks)
      → ((k : ℕ) → IsDue s k → IsDue s' k) → IsSteady s'
  steady_still s s' steady threads stores evolve due =
      steady_from s s' suc [] steady threads (let H : List Variables → Type 0 = λ z. HasStores y z
      in subst H (sym stores) steady.has) (λ k. evolve (suc k)) (λ k e. absurd (omega (arith, e))) due

  -- on from the effects
  pub steady_away : (s : State) → IsSteady s → ((k : ℕ) (t : Task) → slice_get s.tasks k ≡ Some t → IsDue s k → HasTicksLeft t.pieces t.left)
      → IsSteady (record s { phase = Delays })
  steady_away s steady none = record {
    threads = steady.threads;
    has = steady.has;
    lasts = steady.lasts;
    left = λ k t at. elim (steady.left k t at) [ inl h ↦ inr (none k t at h) | inr h ↦ inr h ];
  }
