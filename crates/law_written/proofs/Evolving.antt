-- What becomes of tasks in a step: each has the pieces that it had, or is the one that acts, or begins or ends an activation.
use Rattle.std.specs.Prelude.{◌≡◌, ◌⊎◌, ℕ, ◌≤◌, Bool, true, false, ◌&&◌, List, [], ◌∷◌, ◌++◌, nat_lt, nat_le, Option, Some, None, slice_get, ⊤}
use Rattle.std.specs.Prelude.{refl, if◌then◌else◌, ◌≢◌}
use Rattle.std.proofs.Common.{sym, ◌∙◌, ap, subst, inl, inr}
use Rattle.seq_tree.specs.Lists.{change, Each}
use Rattle.seq_tree.specs.Names.{Name}
use Rattle.seq_tree.specs.Statements.{Statement, Statements, Branches, Null, Assign, If, For, ExitWhen, Call, Work, Put, End, Then, Nothing}
use Rattle.seq_tree.specs.Statements.{Else, When}
use Rattle.seq_tree.specs.Variables.{Variables}
use Rattle.ada_tree.specs.Programs.{Program}
use Rattle.trace_tree.specs.declared.event.Event.{Event}
use Rattle.machine.specs.Systems.{System, TaskUnit, system}
use Rattle.machine.specs.Pieces.{Piece, Finishing, Turning, turns, pieces_of, pieces, branch_pieces, ticks_of, Working}
use Rattle.machine.specs.Deeds.{Act, Silent, Print, Enter, Leave, Ask, Keep, Open, Ended, Finish}
use Rattle.machine.specs.States.{State, Task, Resource, Object, Control, Gate, Ready, shut}
use Rattle.machine.specs.Releases.{going, released, release_task, release, is_waiting, serve_task, serve, parameter, next_time}
use Rattle.machine.specs.Effects.{acted, entry, entered_at, stopped_at, exit, go, ended, inside_now, outside_now, lent, ceiling_of}
use Rattle.law_written.proofs.Shared.Moves.{threads_of, change-threads}
use Rattle.law_written.proofs.Shared.Back.{thread_at}
use Rattle.law_written.proofs.Bound.{IsBound, bound_block}
use Rattle.arrivals_tree.specs.Arriving.{Arrivals}
use Rattle.law_tasks.proofs.Shared.Courses.{Course, IsApt, FitBlock, FitPieces}
use Rattle.law_tasks.proofs.Shared.Programs.{course, Leads}
use Rattle.law_tasks.proofs.Shared.AptPrograms.{apt}
use Rattle.ada_tree.specs.Rules.{MeetsRules}
use Rattle.law_tasks.proofs.Shared.Fresh.{is_slow, some_ticks}
use Rattle.law_tasks.proofs.Shared.ProgramFacts.{costs_some}
use Rattle.law_tasks.proofs.Shared.Fits.{ticks_are, fit_activation}
use Rattle.law_lists.proofs.Shared.Places.{get-changed}
use Rattle.law_calls.proofs.Shared.Tasks.{going-pieces, going-thread, outside-thread}

-- whether a piece takes ticks where no work takes none
abbrev takes_ticks : Piece → Bool
takes_ticks (Working ticks) = true
takes_ticks x = is_slow x

-- pieces that begin with one that takes ticks
abbrev pub BeginSlow : List Piece → Type 0
BeginSlow [] = ⊥
BeginSlow (x ∷ rest) = takes_ticks x ≡ true

slow_turns : (name : Name) (at last : ℕ) (body : Statements) (rest : List Piece) → BeginSlow rest → BeginSlow (turns name at last body rest)
slow_turns name at last body rest h = by (nat_le at last)
  where
    by : (b : Bool) → BeginSlow (if b then Turning name at last body ∷ rest else rest)
    by true = refl
    by false = h

mutual
  slow_statement : (s : Statement) (rest : List Piece) → BeginSlow rest → BeginSlow (pieces_of s rest)
  slow_statement Null rest h = refl
  slow_statement (Assign target e) rest h = refl
  slow_statement (If branches) rest h = slow_branches branches rest h
  slow_statement (For name low high body) rest h = slow_turns name low high body rest h
  slow_statement (ExitWhen condition) rest h = refl
  slow_statement (Call object op actuals) rest h = refl
  slow_statement (Work ticks) rest h = refl
  slow_statement (Put e) rest h = refl

  slow_block : (b : Statements) (rest : List Piece) → BeginSlow rest → BeginSlow (pieces b rest)
  slow_block End rest h = h
  slow_block (Then first others) rest h = slow_statement first (pieces others rest) (slow_block others rest h)

  slow_branches : (b : Branches) (rest : List Piece) → BeginSlow rest → BeginSlow (branch_pieces b rest)
  slow_branches Nothing rest h = h
  slow_branches (Else block) rest h = slow_block block rest h
  slow_branches (When condition block others) rest h = refl

-- ticks left of a first piece
abbrev pub HasTicksLeft : List Piece → ℕ → Type 0
HasTicksLeft [] left = ⊤
HasTicksLeft (x ∷ rest) left = 1 ≤ left

module _ (p : Program) (arrivals : Arrivals) where
  -- pieces that fit, in an activation
  abbrev pub Lasts : List Piece → Type 0
  Lasts [] = ⊤
  Lasts (x ∷ rest) = FitPieces (Leads (system p arrivals)) (x ∷ rest) × IsBound (system p arrivals) (x ∷ rest)

  -- what became of a task
  pub record IsSame (ts : List Task) (k : ℕ) (u' : Task) : Type 0 where
    pub task : Task
    pub at : slice_get ts k ≡ Some task
    pub pieces' : u'.pieces ≡ task.pieces
    pub left : u'.left ≡ task.left

  abbrev pub Became : ℕ → List Piece → List Task → ℕ → Task → Type 0
  Became i ps ts k u' = IsSame ts k u' ⊎ ((k ≡ i) × (u'.pieces ≡ ps) ⊎ Lasts u'.pieces × HasTicksLeft u'.pieces u'.left)

  abbrev pub Evolve : ℕ → List Piece → List Task → List Task → Type 0
  Evolve i ps ts ts' = (k : ℕ) (u' : Task) → slice_get ts' k ≡ Some u' → Became i ps ts k u'

  -- the threads of tasks fit
  abbrev pub AreFitting : List TaskUnit → Type 0
  AreFitting ths = (k : ℕ) (th : TaskUnit) → slice_get ths k ≡ Some th → FitBlock (Leads (system p arrivals)) false th.block
      × Each (λ d. 1 ≤ d) th.durations

module _ (p : Program) (arrivals : Arrivals) (meets : MeetsRules p) where
  abbrev y : System
  y = system p arrivals

  abbrev setup : Course
  setup = course p arrivals

  is_apt : IsApt (course p arrivals)
  is_apt = apt p arrivals meets

  evolve_change : (i : ℕ) (ps : List Piece) (n : ℕ) (f : Task → Task) (ts : List Task)
      → ((t : Task) → slice_get ts n ≡ Some t → Became p arrivals i ps ts n (f t)) → Evolve p arrivals i ps ts (change n f ts)
  evolve_change i ps n f ts became k u' at = by (get-changed n f ts k u' at)
    where
      by : ((k ≢ n) × (slice_get ts k ≡ Some u')) ⊎ ((k ≡ n) × (t : Task) × (slice_get ts k ≡ Some t) × (f t ≡ u')) → Became p arrivals i ps ts k u'
      by (inl h) = inl (record { task = u'; at = h.1; pieces' = refl; left = refl })
      by (inr (same, t, there, is)) =
          let P : Task → Type 0 = λ z. Became p arrivals i ps ts k z in
          let Q : ℕ → Type 0 = λ m. Became p arrivals i ps ts m (f t) in
          subst P is (subst Q (sym same) (became t (ap (slice_get ts) (sym same) ∙ there)))

  evolve_none : (i : ℕ) (ps : List Piece) (ts : List Task) → Evolve p arrivals i ps ts ts
  evolve_none i ps ts k u' at = inl (record { task = u'; at = at; pieces' = refl; left = refl })

  pub evolve_on : (i : ℕ) (ps : List Piece) (ts ts' ts'' : List Task) → Evolve p arrivals i ps ts ts' → Evolve p arrivals i ps ts' ts''
      → Evolve p arrivals i ps ts ts''
  evolve_on i ps ts ts' ts'' first second k u' at = by (second k u' at)
    where
      onward : (u : Task) → u'.pieces ≡ u.pieces → u'.left ≡ u.left → Became p arrivals i ps ts k u → Became p arrivals i ps ts k u'
      onward u e l (inl s) = inl (record { task = s.task; at = s.at; pieces' = e ∙ s.pieces'; left = l ∙ s.left })
      onward u e l (inr (inl s)) = inr (inl (s.0, e ∙ s.1))
      onward u e l (inr (inr s)) =
          let P : List Piece → Type 0 = λ z. Lasts p arrivals z in
          let Q : List Piece → Type 0 = λ z. HasTicksLeft z u'.left in
          let R : ℕ → Type 0 = λ n. HasTicksLeft u.pieces n in
          inr (inr (subst P (sym e) s.0, subst Q (sym e) (subst R (sym l) s.1)))

      by : Became p arrivals i ps ts' k u' → Became p arrivals i ps ts k u'
      by (inl s) = onward s.task s.pieces' s.left (first k s.task s.at)
      by (inr b) = inr b

  some_left : (x : Piece) (rest : List Piece) (durations : List ℕ) (works : ℕ) → takes_ticks x ≡ true → FitPieces setup.Good (x ∷ rest)
      → Each (λ d. 1 ≤ d) durations
      → 1 ≤ ticks_of y.costs (slice_get durations works) x
  some_left (Working ticks) rest durations works takes fit each = (ticks_are setup.Good y.costs durations works (Working ticks) rest fit each).0
  some_left x rest durations works takes fit each = some_ticks y.costs (costs_some p meets) (slice_get durations works) x takes

  going-left : (vars : Variables) (ps : List Piece) (t : Task) → FitPieces setup.Good ps → BeginSlow ps → Each (λ d. 1 ≤ d) t.thread.durations
      → HasTicksLeft (going y.costs vars ps t).pieces (going y.costs vars ps t).left
  going-left vars [] t fit slow durations = tt
  going-left vars (x ∷ rest) t fit slow durations =
      some_left x rest t.thread.durations t.works slow fit durations

  pub last_bound : (ps : List Piece) → FitPieces setup.Good ps → IsBound y ps → Lasts p arrivals ps
  last_bound [] fit bound = tt
  last_bound (x ∷ rest) fit bound = (fit, bound)

  -- a release
  fresh : (t : Task) → FitBlock setup.Good false t.thread.block → Each (λ d. 1 ≤ d) t.thread.durations
      → Lasts p arrivals (released y.costs t).pieces × HasTicksLeft (released y.costs t).pieces (released y.costs t).left
  fresh t fit durations =
      let t' : Task = record t { readiness = Ready; next = next_time t.thread.timing t.next; used = 0; gate = shut } in
      let vars : Variables = parameter t.thread.timing t.gate.value ++ t.vars in
      let ps : List Piece = pieces t.thread.block (Finishing ∷ []) in
      let P : List Piece → Type 0 = λ z. Lasts p arrivals z in (
        subst P (sym (going-pieces y.costs vars ps t')) (last_bound ps (fit_activation setup.Good t.thread.block fit)
            (bound_block y t.thread.block (Finishing ∷ []) refl)),
        going-left vars ps t' (fit_activation setup.Good t.thread.block fit) (slow_block t.thread.block (Finishing ∷ []) refl) durations,
      )

  pub release_task-evolves : (i : ℕ) (ps : List Piece) (n : ℕ) (o : Option Task) (s : State) → AreFitting p arrivals y.threads
      → threads_of s.tasks ≡ y.threads → Evolve p arrivals i ps s.tasks (release_task y n o s).0.tasks
  release_task-evolves i ps n None s fits same = evolve_none i ps s.tasks
  release_task-evolves i ps n (Some t) s fits same = evolve_change i ps n (released y.costs) s.tasks
      (λ u at. let th : slice_get y.threads n ≡ Some u.thread = thread_at y.threads s.tasks n u same at
      in inr (inr (fresh u (fits n u.thread th).0 (fits n u.thread th).1)))

  serve_task-evolves : (i : ℕ) (ps : List Piece) (n : ℕ) (o : Option Task) (s : State) → AreFitting p arrivals y.threads
      → threads_of s.tasks ≡ y.threads → Evolve p arrivals i ps s.tasks (serve_task y n o s).0.tasks
  serve_task-evolves i ps n None s fits same = evolve_none i ps s.tasks
  serve_task-evolves i ps n (Some t) s fits same = by (is_waiting t.readiness && t.gate.open')
    where
      by : (b : Bool) → Evolve p arrivals i ps s.tasks (if b then release y n s else (s, [])).0.tasks
      by true = release_task-evolves i ps n (slice_get s.tasks n) s fits same
      by false = evolve_none i ps s.tasks

  pub serve-evolves : (i : ℕ) (ps : List Piece) (n : ℕ) (s : State) → AreFitting p arrivals y.threads → threads_of s.tasks ≡ y.threads
      → Evolve p arrivals i ps s.tasks (serve y n s).0.tasks
  serve-evolves i ps n s fits same = serve_task-evolves i ps n (slice_get s.tasks n) s fits same

  -- the one that acts
  evolve_own : (i : ℕ) (vars : Variables) (ps : List Piece) (before : Task → Task) (ts : List Task)
      → Evolve p arrivals i ps ts (change i (λ u. going y.costs vars ps (before u)) ts)
  evolve_own i vars ps before ts = evolve_change i ps i (λ u. going y.costs vars ps (before u)) ts
      (λ t at. inr (inl (refl, going-pieces y.costs vars ps (before t))))

  pub evolve_gate : (i : ℕ) (ps : List Piece) (n : ℕ) (g : Gate → Gate) (ts : List Task)
      → Evolve p arrivals i ps ts (change n (λ u. record u { gate = g u.gate }) ts)
  evolve_gate i ps n g ts = evolve_change i ps n (λ u. record u { gate = g u.gate }) ts
      (λ t at. inl (record { task = t; at = at; pieces' = refl; left = refl }))

  entry-evolves : (i : ℕ) (t : Task) (c : Resource) (told : List Event) (vars : Variables) (ps : List Piece) (s : State)
      → Evolve p arrivals i ps s.tasks (entry y i t c told vars ps s).0.tasks
  entry-evolves i t c told vars ps s = by c (nat_lt (ceiling_of y c) t.active)
    where
      by : (z : Resource) (b : Bool) → Evolve p arrivals i ps s.tasks (if b then stopped_at y t z s else entered_at y i z told vars ps s).0.tasks
      by z true = evolve_none i ps s.tasks
      by (Object k) false = evolve_own i (lent (Object k) s vars) ps (inside_now (Object k) (ceiling_of y (Object k))) s.tasks
      by (Control k) false = evolve_own i vars ps (inside_now (Control k) (ceiling_of y (Control k))) s.tasks

  -- a deed
  pub acted-evolves : (i : ℕ) (t : Task) (act : Act) (vars : Variables) (ps : List Piece) (s : State) → AreFitting p arrivals y.threads
      → threads_of s.tasks ≡ y.threads → Evolve p arrivals i ps s.tasks (acted y i t act vars ps s).0.tasks
  acted-evolves i t Silent vars ps s fits same = evolve_own i vars ps (λ u. u) s.tasks
  acted-evolves i t (Print v) vars ps s fits same = evolve_own i vars ps (λ u. u) s.tasks
  acted-evolves i t (Enter object op values) vars ps s fits same = entry-evolves i t (Object object) _ vars ps s
  acted-evolves i t (Leave object op values data') vars ps s fits same = evolve_own i vars ps outside_now s.tasks
  acted-evolves i t (Ask task) vars ps s fits same = entry-evolves i t (Control task) [] vars ps s
  acted-evolves i t (Keep task v) vars ps s fits same =
      evolve_on i ps s.tasks (go y i vars ps s).tasks _ (evolve_own i vars ps (λ u. u) s.tasks)
      (evolve_gate i ps task (λ g. record g { value = v }) (go y i vars ps s).tasks)
  acted-evolves i t (Open task) vars ps s fits same =
      evolve_on i ps s.tasks (go y i vars ps s).tasks _ (evolve_own i vars ps (λ u. u) s.tasks)
      (evolve_gate i ps task (λ g. record g { open' = true }) (go y i vars ps s).tasks)
  acted-evolves i t (Ended task v) vars ps s fits same =
      let s' : State = exit y i vars ps s in
      evolve_on i ps s.tasks s'.tasks _ (evolve_own i vars ps outside_now s.tasks) (serve-evolves i ps task s' fits
      (change-threads i (λ u. going y.costs vars ps (outside_now u)) s.tasks
      (λ u. going-thread y.costs vars ps (outside_now u) ∙ outside-thread u.inside u) ∙ same))
  acted-evolves i t Finish vars ps s fits same =
      let s' : State = record s { tasks = change i (ended vars) s.tasks } in
      evolve_on i ps s.tasks s'.tasks _ (evolve_change i ps i (ended vars) s.tasks (λ u at. inr (inr (tt, tt))))
      (serve-evolves i ps i s' fits (change-threads i (ended vars) s.tasks (λ u. refl) ∙ same))
