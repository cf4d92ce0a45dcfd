-- Who requests: a request is told by a task inside the control structure of the task that it requests, and it came there by a call.
use Rattle.std.specs.Prelude.{◌≡◌, ℕ, zero, suc, Bool, true, false, ◌&&◌, ◌==◌, List, [], ◌∷◌, map, nat_lt, Option, Some, None, slice_get, ⊤}
use Rattle.std.specs.Prelude.{refl, if◌then◌else◌}
use Rattle.std.proofs.Common.{sym, ◌∙◌, ap, subst}
use Rattle.std.proofs.lemmas.Option.{none-some}
use Rattle.seq_tree.specs.Lists.{change, Each, first_where}
use Rattle.seq_tree.specs.Names.{Name}
use Rattle.seq_tree.specs.Variables.{Variables}
use Rattle.arrivals_tree.specs.declared.arrivals.Arrival.{Arrival}
use Rattle.trace_tree.specs.declared.event.Event.{Event}
use Rattle.trace_tree.specs.declared.event.Event.TheVariants as event
use Rattle.machine.specs.Systems.{System, CallTarget, Plain, Protected, Request, Unknown, callee}
use Rattle.machine.specs.Pieces.{Piece}
use Rattle.machine.specs.Deeds.{Act, Silent, Print, Enter, Leave, Ask, Keep, Open, Ended, Finish, done}
use Rattle.machine.specs.States.{State, Task, Phase, Effects, Delays, Arriving, Use, Resource, Object, Control, first_task, opening}
use Rattle.machine.specs.Dispatch.{dispatched}
use Rattle.machine.specs.Releases.{release_task, release, is_waiting, serve_task}
use Rattle.machine.specs.Effects.{acted, takes_effect, entry, entered_at, stopped_at, exit, ended, ceiling_of, task_unit}
use Rattle.machine.specs.Steps.{step, step_in, goes_to, effect_of, effect_at, effect_step, delay_step, horizon_step, arrive_at, arrival_step}
use Rattle.machine.specs.Steps.{use_step, is_due}
use Rattle.machine.specs.Meanings.{run}
use Rattle.law_ceilings.proofs.Shared.Pieces.{Permission, closers, entered_by, AreFit}
use Rattle.law_ceilings.specs.Sections.{sections}
use Rattle.law_ceilings.proofs.Shared.Kept.{Keeps}
use Rattle.law_ceilings.proofs.Shared.Fitting.{IsEntered, ActFits, done-fits}
use Rattle.law_ceilings.proofs.Shared.Keeping.{AreWritten, opening-keeps, step-keeps}
use Rattle.law_ceilings.proofs.Shared.Passing.{Face, face, faces, into, out_of, Passing, Stays, Enters, Leaves, step-passing}
use Rattle.law_lists.proofs.Shared.Lists.{each-append, each-drop}
use Rattle.law_lists.proofs.Shared.Places.{all-at, map-at}

-- what holds of each item still does where one changes to another of which it holds
each_change : {A : Type 0} (Q : A → Type 0) (i : ℕ) (f : A → A) (xs : List A) → ((x : A) → Q x → Q (f x)) → Each Q xs → Each Q (change i f xs)
each_change Q i f [] g all = tt
each_change Q zero f (x ∷ xs) g all = (g x all.0, all.1)
each_change Q (suc i) f (x ∷ xs) g all = (all.0, each_change Q i f xs g all.1)

module _ (y : System) (P : ℕ → Type 0) where
  -- a section of a task that may be requested
  abbrev pub IsOk : Resource → Type 0
  IsOk (Object object) = ⊤
  IsOk (Control task) = P task

  abbrev pub AreOk : List Face → Type 0
  AreOk fs = Each (λ f. Each IsOk f.1) fs

  entered_ok : (May : Permission) → ((unit op : Name) (ss : List Resource) (j : ℕ) → May unit op ss → callee y unit op ≡ Request j → P j)
      → (c : Resource) (ss : List Resource) → IsEntered y May c ss → IsOk c
  entered_ok May requests (Object k) ss e = tt
  entered_ok May requests (Control k) ss e = by (callee y e.unit e.op) refl e.enters
    where
      by : (q : CallTarget) → callee y e.unit e.op ≡ q → entered_by q ≡ Some (Control k) → P k
      by (Plain o) is h = absurd (none-some (Control k) h)
      by (Protected object at g o) is h = absurd cc
      by (Request task) is h =
          let same : task ≡ k = control_same task k h in
          let Q : ℕ → Type 0 = λ n. P n in
          subst Q same (requests e.unit e.op ss task e.may is)
        where
          control_same : (m n : ℕ) → Some (Control m) ≡ Some (Control n) → m ≡ n
          control_same m n q = cc
      by Unknown is h = absurd (none-some (Control k) h)

  -- each state of a run
  step_ok : (May : ℕ → Permission) → AreWritten y May → ((i : ℕ) (unit op : Name) (ss : List Resource) (j : ℕ) → May i unit op ss
      → callee y unit op ≡ Request j → P j)
      → (s : State) → Keeps y May s → AreOk (faces s.tasks) → AreOk (faces (step y s).0.tasks)
  step_ok May text requests s keeps all = by (step-passing y May text s keeps)
    where
      by : Passing y May s (step y s) → AreOk (faces (step y s).0.tasks)
      by (Stays same unheard) = subst AreOk (sym same) all
      by (Enters i t c entering changes tells) =
          subst AreOk (sym changes) (each_change (λ f. Each IsOk f.1) i (into c) (faces s.tasks)
          (λ f h. (entered_ok (May i) (λ unit op ss j. requests i unit op ss j) c (sections t) entering.entered, h)) all)
      by (Leaves i t c leaving changes tells) =
          subst AreOk (sym changes) (each_change (λ f. Each IsOk f.1) i out_of (faces s.tasks) (λ f h. each-drop IsOk 1 f.1 h) all)

  opening_ok : (items : List Arrival) → AreOk (faces (opening y items).tasks)
  opening_ok items = none y.threads
    where
      none : (ths : List _) → AreOk (faces (map first_task ths))
      none [] = tt
      none (th ∷ ths) = (tt, none ths)

  -- a request that is told is of a task that may be requested
  abbrev pub IsSaid : Event → Type 0
  IsSaid (event.Request time task target value) = (j : ℕ) × P j × (target ≡ task_unit y j)
  IsSaid _ = ⊤

  release_task-said : (i : ℕ) (o : Option Task) (s : State) → Each IsSaid (release_task y i o s).1
  release_task-said i None s = tt
  release_task-said i (Some t) s = (tt, tt)

  serve_task-said : (i : ℕ) (o : Option Task) (s : State) → Each IsSaid (serve_task y i o s).1
  serve_task-said i None s = tt
  serve_task-said i (Some t) s = by (is_waiting t.readiness && t.gate.open')
    where
      by : (b : Bool) → Each IsSaid (if b then release y i s else (s, [])).1
      by true = release_task-said i (slice_get s.tasks i) s
      by false = tt

  entry-said : (i : ℕ) (t : Task) (c : Resource) (told : List Event) (vars : Variables) (ps : List Piece) (s : State) → Each IsSaid told
      → Each IsSaid (entry y i t c told vars ps s).1
  entry-said i t c told vars ps s all = by (nat_lt (ceiling_of y c) t.active)
    where
      by : (b : Bool) → Each IsSaid (if b then stopped_at y t c s else entered_at y i c told vars ps s).1
      by true = (tt, tt)
      by false = all

  acted-said : (i : ℕ) (t : Task) (act : Act) (vars : Variables) (ps : List Piece) (s : State) → ((j : ℕ) (v : Option ℕ) → act ≡ Ended j v → P j)
      → Each IsSaid (acted y i t act vars ps s).1
  acted-said i t Silent vars ps s ends = tt
  acted-said i t (Print v) vars ps s ends = (tt, tt)
  acted-said i t (Enter object op values) vars ps s ends = entry-said i t (Object object) _ vars ps s (tt, tt)
  acted-said i t (Leave object op values data') vars ps s ends = (tt, tt)
  acted-said i t (Ask task) vars ps s ends = entry-said i t (Control task) [] vars ps s tt
  acted-said i t (Keep task v) vars ps s ends = tt
  acted-said i t (Open task) vars ps s ends = tt
  acted-said i t (Ended task v) vars ps s ends
      = ((task, ends task v refl, refl), serve_task-said task (slice_get (exit y i vars ps s).tasks task) (exit y i vars ps s))
  acted-said i t Finish vars ps s ends =
      let s' : State = record s { tasks = change i (ended vars) s.tasks } in
      (tt, serve_task-said i (slice_get s'.tasks i) s')

  -- a step
  step_said : (May : ℕ → Permission) → AreWritten y May → (s : State) → Keeps y May s → AreOk (faces s.tasks) → Each IsSaid (step y s).1
  step_said May text s keeps all = stopped s.stopped
    where
      ends_fit : (i j : ℕ) (ss : List Resource) (act act' : Act) (ps : List Piece) → ActFits y (May i) ss act ps → act ≡ act'
          → ActFits y (May i) ss act' ps
      ends_fit i j ss act act' ps h e = let Q : Act → Type 0 = λ z. ActFits y (May i) ss z ps in subst Q e h

      ends : (i : ℕ) (t : Task) (x : Piece) (rest : List Piece) (j : ℕ) (v : Option ℕ) → slice_get s.tasks i ≡ Some t → t.pieces ≡ x ∷ rest
          → (done y x t.vars rest).act ≡ Ended j v → P j
      ends i t x rest j v at has act =
          let F : List Piece → Type 0 = λ ps. AreFit (May i) ps in
          let fit : AreFit (May i) (x ∷ rest) = subst F has (keeps.sound i t at).fits in
          let top : closers (x ∷ rest) ≡ Control j ∷ closers (done y x t.vars rest).pieces =
          ends_fit i j (closers (x ∷ rest)) (done y x t.vars rest).act (Ended j v) (done y x t.vars rest).pieces
          (done-fits y (May i) (text.closed i) x t.vars rest fit).1 act in
          let ss : sections t ≡ Control j ∷ closers (done y x t.vars rest).pieces = sym (keeps.sound i t at).closes ∙ ap closers has ∙ top in
          let O : List Resource → Type 0 = λ cs. Each IsOk cs in
          (subst O ss (all-at (λ f. Each IsOk f.1) (faces s.tasks) i (face t) all (map-at face s.tasks i t at))).0

      by_left : (i : ℕ) (t : Task) (x : Piece) (rest : List Piece) (b : Bool) → slice_get s.tasks i ≡ Some t → t.pieces ≡ x ∷ rest
          → Each IsSaid (if b then takes_effect y i t (done y x t.vars rest) s else goes_to Delays s).1
      by_left i t x rest true at has =
          acted-said i t (done y x t.vars rest).act (done y x t.vars rest).vars (done y x t.vars rest).pieces s
          (λ j v e. ends i t x rest j v at has e)
      by_left i t x rest false at has = tt

      by_pieces : (i : ℕ) (t : Task) (ps : List Piece) → slice_get s.tasks i ≡ Some t → t.pieces ≡ ps → Each IsSaid (effect_of y i t ps s).1
      by_pieces i t [] at has = tt
      by_pieces i t (x ∷ rest) at has = by_left i t x rest (t.left == 0) at has

      by_task : (i : ℕ) (o : Option Task) → slice_get s.tasks i ≡ o → Each IsSaid (effect_at y i o s).1
      by_task i None at = tt
      by_task i (Some t) at = by_pieces i t t.pieces at refl

      effects : (o : Option ℕ) → Each IsSaid (effect_step y o s).1
      effects None = tt
      effects (Some i) = by_task i (slice_get s.tasks i) refl

      delays : (o : Option (ℕ × Task)) → Each IsSaid (delay_step y o s).1
      delays None = tt
      delays (Some f) = release_task-said f.0 (slice_get s.tasks f.0) s

      horizon : (b : Bool) → Each IsSaid (if b then (record s { stopped = true }, event.Horizon s.time ∷ []) else goes_to Use s).1
      horizon true = (tt, tt)
      horizon false = tt

      arrive : (a : Arrival) (others : List Arrival) (o : Option (ℕ × Task)) → Each IsSaid (arrive_at y a o (record s { arrivals = others })).1
      arrive a others None = tt
      arrive a others (Some f) =
          let s' : State = record s {
            arrivals = others;
            tasks = change f.0 (λ u. record u { gate = record { value = a.value; open' = true } }) s.tasks;
          } in
          (tt, serve_task-said f.0 (slice_get s'.tasks f.0) s')

      arriving : (as' : List Arrival) → Each IsSaid (arrival_step y as' s).1
      arriving [] = horizon (s.time == y.until)
      arriving (a ∷ others) = now (a.time == s.time)
        where
          now : (b : Bool) → Each IsSaid (if b then arrive_at y a (first_where (λ t. t.thread.unit == a.task) s.tasks)
              (record s { arrivals = others }) else horizon_step y s).1
          now true = arrive a others (first_where (λ t. t.thread.unit == a.task) s.tasks)
          now false = horizon (s.time == y.until)

      ticks : (o : Option ℕ) → Each IsSaid (use_step y o s).1
      ticks None = tt
      ticks (Some i) = tt

      phases : (ph : Phase) → Each IsSaid (step_in ph y s).1
      phases Effects = effects s.ran
      phases Delays = delays (first_where (λ u. is_due s.time u.readiness) s.tasks)
      phases Arriving = arriving s.arrivals
      phases Use = ticks (dispatched s.tasks s.orders)

      stopped : (b : Bool) → Each IsSaid (if b then (s, []) else step_in s.phase y s).1
      stopped true = tt
      stopped false = phases s.phase

  -- a run
  run_said : (May : ℕ → Permission) → AreWritten y May → ((i : ℕ) (unit op : Name) (ss : List Resource) (j : ℕ) → May i unit op ss
      → callee y unit op ≡ Request j → P j)
      → (n : ℕ) (s : State) → Keeps y May s → AreOk (faces s.tasks) → Each IsSaid (run y n s).1
  run_said May text requests zero s keeps all = tt
  run_said May text requests (suc n) s keeps all =
      each-append IsSaid (step y s).1 (run y n (step y s).0).1 (step_said May text s keeps all)
      (run_said May text requests n (step y s).0 (step-keeps y May text s keeps) (step_ok May text requests s keeps all))

  pub all_said : (May : ℕ → Permission) → AreWritten y May → ((i : ℕ) (unit op : Name) (ss : List Resource) (j : ℕ) → May i unit op ss
      → callee y unit op ≡ Request j → P j)
      → (items : List Arrival) (n : ℕ) → Each IsSaid (run y n (opening y items)).1
  all_said May text requests items n = run_said May text requests n (opening y items) (opening-keeps y May items) (opening_ok items)
