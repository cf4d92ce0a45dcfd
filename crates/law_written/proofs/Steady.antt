-- What each state of a run keeps of its tasks' pieces and ticks and of the objects' data, from one step to the next.
use Rattle.std.specs.Prelude.{◌≡◌, ◌⊎◌, ℕ, ◌+◌, ◌-◌, Bool, true, false, ◌&&◌, ◌==◌, List, [], ◌∷◌, nat_lt, Option, Some, None, slice_get, refl}
use Rattle.std.specs.Prelude.{if◌then◌else◌}
use Rattle.std.proofs.Common.{sym, ◌∙◌, ap, subst, inl, inr}
use Rattle.seq_tree.specs.Lists.{change, first_where}
use Rattle.seq_tree.specs.Variables.{Variables}
use Rattle.ada_tree.specs.Programs.{Program}
use Rattle.arrivals_tree.specs.declared.arrivals.Arrival.{Arrival}
use Rattle.trace_tree.specs.declared.event.Event.{Event}
use Rattle.trace_tree.specs.declared.event.Event.TheVariants as event
use Rattle.machine.specs.Systems.{System, system}
use Rattle.machine.specs.Pieces.{Piece}
use Rattle.machine.specs.Deeds.{Act, Silent, Print, Enter, Leave, Ask, Keep, Open, Ended, Finish, PieceOutcome, done}
use Rattle.machine.specs.States.{State, Task, Phase, Effects, Delays, Arriving, Use, Resource, Object, Control}
use Rattle.machine.specs.Dispatch.{dispatched}
use Rattle.machine.specs.Releases.{release_task, release, is_waiting, serve_task, serve}
use Rattle.machine.specs.Effects.{acted, takes_effect, entry, entered_at, stopped_at, exit, ended, ceiling_of}
use Rattle.machine.specs.Steps.{step, step_in, goes_to, effect_of, effect_at, effect_step, delay_step, horizon_step, arrive_at, arrival_step}
use Rattle.machine.specs.Steps.{use_step, is_due}
use Rattle.law_written.proofs.Shared.Moves.{threads_of, Goes, change-threads, release-goes, serve-goes, acted-goes}
use Rattle.law_written.proofs.Shared.Back.{places}
use Rattle.law_written.proofs.Bound.{Known, known_done}
use Rattle.law_written.proofs.Passings.{HasStores, set-stores}
use Rattle.law_written.proofs.Evolving.{AreFitting, Lasts, HasTicksLeft, acted-evolves, release_task-evolves, serve-evolves, evolve_gate}
use Rattle.law_written.proofs.Evolving.{evolve_on, last_bound}
use Rattle.law_written.proofs.Shared.StepsBack.{IsDue, IsSteady, steady_on, steady_still, steady_away, some_if, use_effects}
use Rattle.std.proofs.lemmas.Option.{same_Some}
use Rattle.arrivals_tree.specs.Arriving.{Arrivals}
use Rattle.law_tasks.proofs.Shared.Courses.{Course, IsApt, FitPieces}
use Rattle.law_tasks.proofs.Shared.Programs.{course}
use Rattle.law_tasks.proofs.Shared.AptPrograms.{apt}
use Rattle.ada_tree.specs.Rules.{MeetsRules}
use Rattle.law_tasks.proofs.Shared.Fits.{fit_done}
use Rattle.law_calls.proofs.Shared.Instants.{IsSame, acted-same, release-same, serve-same}
use Rattle.law_lists.proofs.Shared.Places.{changed-at, change-else}

-- releases leave the data of the objects as it is
release_task-stores : (y : System) (i : ℕ) (o : Option Task) (s : State) → (release_task y i o s).0.stores ≡ s.stores
release_task-stores y i None s = refl
release_task-stores y i (Some t) s = refl

serve-stores : (y : System) (i : ℕ) (s : State) → (serve y i s).0.stores ≡ s.stores
serve-stores y i s = at (slice_get s.tasks i)
  where
    at : (o : Option Task) → (serve_task y i o s).0.stores ≡ s.stores
    at None = refl
    at (Some t) = by (is_waiting t.readiness && t.gate.open')
      where
        by : (b : Bool) → (if b then release y i s else (s, [])).0.stores ≡ s.stores
        by true = release_task-stores y i (slice_get s.tasks i) s
        by false = refl

-- and deeds leave each object some
entry-stores : (y : System) (i : ℕ) (t : Task) (c : Resource) (told : List Event) (vars : Variables) (ps : List Piece) (s : State)
    → HasStores y s.stores
    → HasStores y (entry y i t c told vars ps s).0.stores
entry-stores y i t c told vars ps s has = by c (nat_lt (ceiling_of y c) t.active)
  where
    by : (z : Resource) (b : Bool) → HasStores y (if b then stopped_at y t z s else entered_at y i z told vars ps s).0.stores
    by z true = has
    by (Object k) false = set-stores y s.stores k [] has
    by (Control k) false = has

acted-stores : (y : System) (i : ℕ) (t : Task) (act : Act) (vars : Variables) (ps : List Piece) (s : State) → HasStores y s.stores
    → HasStores y (acted y i t act vars ps s).0.stores
acted-stores y i t Silent vars ps s has = has
acted-stores y i t (Print v) vars ps s has = has
acted-stores y i t (Enter object op values) vars ps s has = entry-stores y i t (Object object) _ vars ps s has
acted-stores y i t (Leave object op values data') vars ps s has = set-stores y s.stores object data' has
acted-stores y i t (Ask task) vars ps s has = entry-stores y i t (Control task) [] vars ps s has
acted-stores y i t (Keep task v) vars ps s has = has
acted-stores y i t (Open task) vars ps s has = has
acted-stores y i t (Ended task v) vars ps s has =
    let H : List Variables → Type 0 = λ z. HasStores y z in subst H (sym (serve-stores y task (exit y i vars ps s))) has
acted-stores y i t Finish vars ps s has =
    let H : List Variables → Type 0 = λ z. HasStores y z in subst H (sym (serve-stores y i (record s { tasks = change i (ended vars) s.tasks }))) has

module _ (p : Program) (arrivals : Arrivals) (meets : MeetsRules p) (fits : AreFitting p arrivals (system p arrivals).threads) where
  abbrev y : System
  y = system p arrivals

  abbrev setup : Course
  setup = course p arrivals

  is_apt : IsApt (course p arrivals)
  is_apt = apt p arrivals meets

  abbrev Steady : State → Type 0
  Steady s = IsSteady p arrivals meets fits s

  -- the pieces after a deed
  last_done : (x : Piece) (vars : Variables) (rest : List Piece) (act : Act) → Known y x vars rest act (done y x vars rest)
      → FitPieces setup.Good (x ∷ rest) → Lasts p arrivals (done y x vars rest).pieces
  last_done x vars rest Silent known fit = last_bound p arrivals meets _ (fit_done setup is_apt x vars rest fit) known
  last_done x vars rest (Print v) known fit = last_bound p arrivals meets _ (fit_done setup is_apt x vars rest fit) known
  last_done x vars rest (Enter object op values) known fit = last_bound p arrivals meets _ (fit_done setup is_apt x vars rest fit) known
  last_done x vars rest (Leave object op values data') known fit = last_bound p arrivals meets _ (fit_done setup is_apt x vars rest fit) known.4
  last_done x vars rest (Ask task) known fit = last_bound p arrivals meets _ (fit_done setup is_apt x vars rest fit) known
  last_done x vars rest (Keep task v) known fit = last_bound p arrivals meets _ (fit_done setup is_apt x vars rest fit) known
  last_done x vars rest (Open task) known fit = last_bound p arrivals meets _ (fit_done setup is_apt x vars rest fit) known
  last_done x vars rest (Ended task v) known fit = last_bound p arrivals meets _ (fit_done setup is_apt x vars rest fit) known.1
  last_done x vars rest Finish known fit = let P : Piece → Type 0 = λ q. Lasts p arrivals (done y q vars rest).pieces in subst P (sym known.0) tt

  -- the task whose effects are due, where the phase and the task that ran stay
  due_on : (s s' : State) (k : ℕ) → IsSame s s' → IsDue s k → IsDue s' k
  due_on s s' k same due = (same.phase ∙ due.0, same.ran ∙ due.1)

  -- effects
  effects_steady : (s : State) → s.phase ≡ Effects → Steady s → Steady (effect_step y s.ran s).0
  effects_steady s is steady = by_ran s.ran refl
    where
      away : ((k : ℕ) (t : Task) → slice_get s.tasks k ≡ Some t → IsDue s k → HasTicksLeft t.pieces t.left) → Steady (goes_to Delays s).0
      away none = steady_away p arrivals meets fits s steady none

      same_place : (i k : ℕ) → Some i ≡ Some k → i ≡ k
      same_place i k e = cc

      by_left : (i : ℕ) (t : Task) (x : Piece) (rest : List Piece) (b : Bool) → s.ran ≡ Some i → slice_get s.tasks i ≡ Some t → t.pieces ≡ x ∷ rest
          → (t.left == 0) ≡ b
          → Steady (if b then takes_effect y i t (done y x t.vars rest) s else goes_to Delays s).0
      by_left i t x rest true ran at has e =
          let d : PieceOutcome = done y x t.vars rest in
          let L : List Piece → Type 0 = λ z. Lasts p arrivals z in
          let last : Lasts p arrivals (x ∷ rest) = subst L has (steady.lasts i t at) in
          let g : Goes y.threads s (acted y i t d.act d.vars d.pieces s) = acted-goes y y.threads i t d.act d.vars d.pieces s at steady.threads in
          let stays : IsSame s (acted y i t d.act d.vars d.pieces s).0 = acted-same y i t d.act d.vars d.pieces s in
          steady_on p arrivals meets fits s (acted y i t d.act d.vars d.pieces s).0 i d.pieces steady g.threads
          (acted-stores y i t d.act d.vars d.pieces s steady.has)
          (acted-evolves p arrivals meets i t d.act d.vars d.pieces s fits steady.threads)
          (last_done x t.vars rest d.act (known_done p arrivals meets x t.vars rest last.0 last.1) last.0)
          (λ k due. due_on s (acted y i t d.act d.vars d.pieces s).0 k stays due) (stays.phase ∙ is, stays.ran ∙ ran)
      by_left i t x rest false ran at has e = away (λ k u there due.
          let one : i ≡ k = same_place i k (sym ran ∙ due.1) in
          let same : t ≡ u = same_Some t u (sym at ∙ ap (slice_get s.tasks) one ∙ there) in
          let P : Task → Type 0 = λ z. HasTicksLeft z.pieces z.left in
          let Q : List Piece → Type 0 = λ z. HasTicksLeft z t.left in
          subst P same (subst Q (sym has) (some_if t.left e)))

      by_pieces : (i : ℕ) (t : Task) (ps : List Piece) → s.ran ≡ Some i → slice_get s.tasks i ≡ Some t → t.pieces ≡ ps
          → Steady (effect_of y i t ps s).0
      by_pieces i t [] ran at has = away (λ k u there due.
          let one : i ≡ k = same_place i k (sym ran ∙ due.1) in
          let same : t ≡ u = same_Some t u (sym at ∙ ap (slice_get s.tasks) one ∙ there) in
          let P : Task → Type 0 = λ z. HasTicksLeft z.pieces z.left in
          let Q : List Piece → Type 0 = λ z. HasTicksLeft z t.left in
          subst P same (subst Q (sym has) tt))
      by_pieces i t (x ∷ rest) ran at has = by_left i t x rest (t.left == 0) ran at has refl

      by_task : (i : ℕ) (o : Option Task) → s.ran ≡ Some i → slice_get s.tasks i ≡ o → Steady (effect_at y i o s).0
      by_task i None ran at = away (λ k u there due.
          let one : i ≡ k = same_place i k (sym ran ∙ due.1) in
          absurd (none_some u (sym at ∙ ap (slice_get s.tasks) one ∙ there)))
        where
          none_some : (a : Task) → None ≡ Some a → ⊥
          none_some a h = cc
      by_task i (Some t) ran at = by_pieces i t t.pieces ran at refl

      by_ran : (o : Option ℕ) → s.ran ≡ o → Steady (effect_step y o s).0
      by_ran None ran = away (λ k u there due. absurd (none_some k (sym ran ∙ due.1)))
        where
          none_some : (a : ℕ) → None ≡ Some a → ⊥
          none_some a h = cc
      by_ran (Some i) ran = by_task i (slice_get s.tasks i) ran refl

  -- another part of the instant that is not the effects
  passed : (s s' : State) → Steady s → (s.phase ≡ Effects → ⊥) → s'.tasks ≡ s.tasks → s'.stores ≡ s.stores → Steady s'
  passed s s' steady apart tasks stores =
      let T : List Task → Type 0 = λ ts. threads_of ts ≡ y.threads in
      let H : List Variables → Type 0 = λ z. HasStores y z in
      record {
        threads = subst T (sym tasks) steady.threads;
        has = subst H (sym stores) steady.has;
        lasts = λ k t at. steady.lasts k t (ap (λ ts. slice_get ts k) (sym tasks) ∙ at);
        left = λ k t at. inr (left k t (steady.left k t (ap (λ ts. slice_get ts k) (sym tasks) ∙ at)));
      }
    where
      left : (k : ℕ) (t : Task) → IsDue s k ⊎ HasTicksLeft t.pieces t.left → HasTicksLeft t.pieces t.left
      left k t (inl due) = absurd (apart due.0)
      left k t (inr h) = h

  delays_effects : Delays ≡ Effects → ⊥
  delays_effects h = cc

  arriving_effects : Arriving ≡ Effects → ⊥
  arriving_effects h = cc

  -- delays
  delays_steady : (s : State) (o : Option (ℕ × Task)) → s.phase ≡ Delays → Steady s → Steady (delay_step y o s).0
  delays_steady s None is steady = passed s (goes_to Arriving s).0 steady (λ e. delays_effects (sym is ∙ e)) refl refl
  delays_steady s (Some f) is steady =
      let g : Goes y.threads s (release y f.0 s) = release-goes y y.threads f.0 s steady.threads in
      steady_still p arrivals meets fits s (release y f.0 s).0 steady g.threads (release_task-stores y f.0 (slice_get s.tasks f.0) s)
      (λ i. release_task-evolves p arrivals meets i [] f.0 (slice_get s.tasks f.0) s fits steady.threads)
      (λ k due. due_on s (release y f.0 s).0 k (release-same y f.0 s) due)

  horizon_steady : (s : State) → s.phase ≡ Arriving → Steady s → Steady (horizon_step y s).0
  horizon_steady s is steady = by (s.time == y.until)
    where
      by : (b : Bool) → Steady (if b then (record s { stopped = true }, event.Horizon s.time ∷ []) else goes_to Use s).0
      by true = passed s (record s { stopped = true }) steady (λ e. arriving_effects (sym is ∙ e)) refl refl
      by false = passed s (goes_to Use s).0 steady (λ e. arriving_effects (sym is ∙ e)) refl refl

  arrive_steady : (s : State) (a : Arrival) (others : List Arrival) (o : Option (ℕ × Task)) → s.phase ≡ Arriving → Steady s
      → Steady (arrive_at y a o (record s { arrivals = others })).0
  arrive_steady s a others None is steady = passed s (record s { arrivals = others }) steady (λ e. arriving_effects (sym is ∙ e)) refl refl
  arrive_steady s a others (Some f) is steady =
      let set_gate : Task → Task = λ u. record u { gate = record { value = a.value; open' = true } } in
      let s' : State = record s { arrivals = others; tasks = change f.0 set_gate s.tasks } in
      let same : threads_of s'.tasks ≡ y.threads = change-threads f.0 set_gate s.tasks (λ u. refl) ∙ steady.threads in
      let g : Goes y.threads s' (serve y f.0 s') = serve-goes y y.threads f.0 s' same in
      let stays : IsSame s' (serve y f.0 s').0 = serve-same y f.0 s' in
      steady_still p arrivals meets fits s (serve y f.0 s').0 steady g.threads (serve-stores y f.0 s')
      (λ i. evolve_on p arrivals meets i [] s.tasks s'.tasks (serve y f.0 s').0.tasks
      (evolve_gate p arrivals meets i [] f.0 (λ h. record { value = a.value; open' = true }) s.tasks)
      (serve-evolves p arrivals meets i [] f.0 s' fits same))
      (λ k due. (stays.phase ∙ due.0, stays.ran ∙ due.1))

  arrivals_steady : (s : State) (as' : List Arrival) → s.phase ≡ Arriving → Steady s → Steady (arrival_step y as' s).0
  arrivals_steady s [] is steady = horizon_steady s is steady
  arrivals_steady s (a ∷ others) is steady = by (a.time == s.time)
    where
      by : (b : Bool) → Steady (if b then arrive_at y a (first_where (λ t. t.thread.unit == a.task) s.tasks)
          (record s { arrivals = others }) else horizon_step y s).0
      by true = arrive_steady s a others (first_where (λ t. t.thread.unit == a.task) s.tasks) is steady
      by false = horizon_steady s is steady

  -- the use of a tick
  use_steady : (s : State) (o : Option ℕ) → s.phase ≡ Use → Steady s → Steady (use_step y o s).0
  use_steady s None is steady = passed s (use_step y None s).0 steady (λ e. use_effects (sym is ∙ e)) refl refl
  use_steady s (Some i) is steady = record {
    threads = change-threads i tick s.tasks (λ t. refl) ∙ steady.threads;
    has = steady.has;
    lasts = λ k t at. places k i (λ e. lasts t (changed-at i tick s.tasks t (ap (slice_get (change i tick s.tasks)) (sym e) ∙ at))) (λ apart.
        steady.lasts k t (sym (change-else i k tick s.tasks apart) ∙ at));
    left = λ k t at. places k i (λ e. inl (refl, ap Some (sym e))) (λ apart.
        inr (left k t (steady.left k t (sym (change-else i k tick s.tasks apart) ∙ at))));
  }
    where
      tick : Task → Task
      tick t = record t { left = t.left - 1; used = t.used + 1 }

      lasts : (t : Task) → (u : Task) × (slice_get s.tasks i ≡ Some u) × (t ≡ tick u) → Lasts p arrivals t.pieces
      lasts t b = let L : Task → Type 0 = λ z. Lasts p arrivals z.pieces in subst L (sym b.2) (steady.lasts i b.0 b.1)

      left : (k : ℕ) (t : Task) → IsDue s k ⊎ HasTicksLeft t.pieces t.left → HasTicksLeft t.pieces t.left
      left k t (inl due) = absurd (use_effects (sym is ∙ due.0))
      left k t (inr h) = h

  -- a step
  pub step_steady : (s : State) → Steady s → Steady (step y s).0
  step_steady s steady = stopped s.stopped refl
    where
      by : (phase : Phase) → s.phase ≡ phase → Steady (step_in phase y s).0
      by Effects is = effects_steady s is steady
      by Delays is = delays_steady s (first_where (λ u. is_due s.time u.readiness) s.tasks) is steady
      by Arriving is = arrivals_steady s s.arrivals is steady
      by Use is = use_steady s (dispatched s.tasks s.orders) is steady

      stopped : (b : Bool) → s.stopped ≡ b → Steady (if b then (s, []) else step_in s.phase y s).0
      stopped true e = steady
      stopped false e = by s.phase refl
