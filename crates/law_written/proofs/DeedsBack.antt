-- From behind a release or a deed of the processor to before it.
use Rattle.std.specs.Prelude.{◌≡◌, ℕ, zero, suc, ◌+◌, ◌≤◌, Bool, true, false, ◌&&◌, List, [], ◌∷◌, ◌++◌, map, nat_lt, Option, Some, None}
use Rattle.std.specs.Prelude.{slice_get, unwrap_or, refl, if◌then◌else◌}
use Rattle.std.specs.List.{list_any}
use Rattle.std.proofs.Common.{sym, ◌∙◌, ap, subst}
use Rattle.seq_tree.specs.Lists.{change, Each}
use Rattle.seq_tree.specs.Names.{Name}
use Rattle.seq_tree.specs.Variables.{Variables, kept}
use Rattle.seq_tree.specs.Runs.{silent}
use Rattle.ada_tree.specs.Programs.{Program}
use Rattle.trace_tree.specs.Lines.{unit_name}
use Rattle.trace_tree.specs.declared.event.Event as machine
use Rattle.machine.specs.Systems.{System, system}
use Rattle.machine.specs.Pieces.{Piece}
use Rattle.machine.specs.Deeds.{Act, Silent, Print, Enter, Leave, Ask, Keep, Open, Ended, Finish, PieceOutcome, done}
use Rattle.machine.specs.States.{State, Task, Resource, Object, Control, Gate, Held, Ready, Readiness, Waiting, Asleep, shut}
use Rattle.machine.specs.Releases.{Next, going, released, release_task, release, is_waiting, serve_task, serve, next_time}
use Rattle.machine.specs.Effects.{acted, entered_at, stopped_at, exit, go, ended, inside_now, outside_now, outside_by, ceiling_of, object_unit}
use Rattle.guarantee.specs.Software.{Software, program_software}
use Rattle.guarantee.specs.Events.{Event, By, named}
use Rattle.guarantee.specs.Events as names
use Rattle.guarantee.specs.Steps.{Step, closes}
use Rattle.law_written.proofs.Shared.Moves.{threads_of, is_stopping, change-threads}
use Rattle.law_written.proofs.Groups.{Life}
use Rattle.law_written.proofs.Shared.Claims.{Naming, step_at, task_at, Stands, Holds, Conducts}
use Rattle.law_written.proofs.Shared.Back.{places, thread_at, quiet_back, own_back, IsPlain}
use Rattle.law_written.proofs.Bound.{IsBound, Known}
use Rattle.law_written.proofs.Acts.{stand_back, stand_enter, stand_end, stand_release, stand_gate}
use Rattle.law_written.proofs.Passings.{Alone, HasStores, leave_back, enter_back}
use Rattle.law_written.proofs.Evolving.{AreFitting}
use Rattle.std.proofs.lemmas.Option.{same_Some}
use Rattle.law_lists.proofs.Shared.Places.{change-at, change-none, change-else}
use Rattle.arrivals_tree.specs.Arriving.{Arrivals}
use Rattle.law_tasks.proofs.Shared.Courses.{Course, IsApt, FitPieces, IsTicks}
use Rattle.law_tasks.proofs.Shared.Programs.{course, entry_name, request_name}
use Rattle.law_tasks.proofs.Shared.AptPrograms.{apt}
use Rattle.law_tasks.proofs.Shared.Ways.{Claim, Ahead}
use Rattle.ada_tree.specs.Rules.{MeetsRules}
use Rattle.law_written.proofs.Shared.Namings.{naming}
use Rattle.law_tasks.proofs.Shared.Acts.{act_print, act_leave, act_ended}
use Rattle.law_tasks.proofs.Shared.Aheads.{is_quiet, ahead_quiet}
use Rattle.law_tasks.proofs.Shared.Fits.{fit_done}
use Rattle.law_ceilings.proofs.Shared.Pieces.{closers}
use Rattle.law_ceilings.specs.Sections.{sections}
use Rattle.law_calls.proofs.Shared.Tasks.{outside-used, outside-readiness, going-readiness, going-inside, going-thread, outside-thread}
use Rattle.law_calls.proofs.Shared.Tasks.{released-thread}
use Rattle.std.proofs.lemmas.Bool.{true≢false}

cons_nil : {A : Type 0} (a : A) (as' : List A) → a ∷ as' ≡ [] → ⊥
cons_nil a as' h = cc

-- deeds that are no passage
plain_closes : (d : ℕ) (deed : names.Deed) → closes 0 deed ≡ false → closes d deed ≡ false
plain_closes zero deed e = e
plain_closes (suc d) deed e = refl

going-sections : (y : System) (vars : Variables) (ps : List Piece) (t : Task) → sections (going y.costs vars ps t) ≡ sections t
going-sections y vars ps t = ap (map (λ h. h.section)) (going-inside y.costs vars ps t)

outside-sections : (hs : List Held) (t : Task) (c : Resource) (cs : List Resource) → t.inside ≡ hs → map (λ h. h.section) hs ≡ c ∷ cs
    → sections (outside_by hs t) ≡ cs
outside-sections [] t c cs is e = absurd (cons_nil c cs (sym e))
outside-sections (h ∷ hs) t c cs is e = tails _ _ _ _ e
  where
    tails : (a b : Resource) (as' bs : List Resource) → a ∷ as' ≡ b ∷ bs → as' ≡ bs
    tails a b as' bs q = cc

-- tasks that are not ready have nothing left
abbrev pub Idles : List Task → Type 0
Idles ts = (k : ℕ) (t : Task) → slice_get ts k ≡ Some t → (t.readiness ≡ Ready → ⊥) → t.pieces ≡ []

waiting_not_ready : (r : Readiness) → is_waiting r ≡ true → r ≡ Ready → ⊥
waiting_not_ready Waiting e h = cc
waiting_not_ready Ready e h = cc
waiting_not_ready (Asleep until) e h = cc

module _ (p : Program) (arrivals : Arrivals) (meets : MeetsRules p) where
  abbrev y : System
  y = system p arrivals

  abbrev w : Software
  w = program_software p

  abbrev setup : Course
  setup = course p arrivals

  names' : Naming p y w
  names' = naming p arrivals meets

  is_apt : IsApt (course p arrivals)
  is_apt = apt p arrivals meets

  -- what is claimed after a step, is claimed before it
  abbrev pub Backs : State → Next → Type 0
  Backs s next =
      next.0.stopped ≡ false → list_any is_stopping next.1 ≡ false → (more : List Event)
      → Conducts p arrivals next.0.time next.0.tasks next.0.stores more → Conducts p arrivals s.time s.tasks s.stores (named p next.1 ++ more)

  -- the name of a task in a trace
  named_by : (ts : List Task) (i : ℕ) (t : Task) → threads_of ts ≡ y.threads → slice_get ts i ≡ Some t → t.thread.name ≡ unit_name p t.thread.unit
  named_by ts i t same here = sym (names'.thread_name i t.thread (thread_at y.threads ts i t same here))

  renamed : (now : ℕ) (ts : List Task) (stores : List Variables) (time : ℕ) (name name' : Name) (deed : names.Deed) (more : List Event) → name ≡ name'
      → Conducts p arrivals now ts stores (By time name deed ∷ more) → Conducts p arrivals now ts stores (By time name' deed ∷ more)
  renamed now ts stores time name name' deed more e c = let P : Name → Type 0 = λ n. Conducts p arrivals now ts stores (By time n deed ∷ more)
      in subst P e c

  is_release : (value : Option ℕ) → IsPlain (names.Release value)
  is_release value = record {
    own = refl;
    stays = λ d. plain_closes d (names.Release value) refl;
    level = λ d. refl;
    passes = λ g time name body ms. refl;
  }

  is_print : (value : ℕ) → IsPlain (names.Print value)
  is_print value = record {
    own = refl;
    stays = λ d. plain_closes d (names.Print value) refl;
    level = λ d. refl;
    passes = λ g time name body ms. refl;
  }

  is_request : (target : Name) (value : Option ℕ) → IsPlain (names.Request target value)
  is_request target value = record {
    own = refl;
    stays = λ d. plain_closes d (names.Request target value) refl;
    level = λ d. refl;
    passes = λ g time name body ms. refl;
  }

  is_end : (used : ℕ) → IsPlain (names.End used)
  is_end used = record { own = refl; stays = λ d. plain_closes d (names.End used) refl; level = λ d. refl; passes = λ g time name body ms. refl }

  -- same_sections that are equal
  forth : (t t' : Task) → sections t' ≡ sections t → (j d : ℕ) → Holds j d (sections t) → Holds j d (sections t')
  forth t t' e j d h = let H : List Resource → Type 0 = λ z. Holds j d z in subst H (sym e) h

  back : (t t' : Task) → sections t' ≡ sections t → (j d : ℕ) → Holds j d (sections t') → Holds j d (sections t)
  back t t' e j d h = let H : List Resource → Type 0 = λ z. Holds j d z in subst H e h

  -- a release
  pub release_backs : (i : ℕ) (o : Option Task) (s : State) → slice_get s.tasks i ≡ o → AreFitting p arrivals y.threads
      → threads_of s.tasks ≡ y.threads → ((t : Task) → o ≡ Some t → t.pieces ≡ [])
      → Backs s (release_task y i o s)
  release_backs i None s here fits same idle on quiet more c = c
  release_backs i (Some t) s here fits same idle on quiet more c =
      let th : slice_get y.threads i ≡ Some t.thread = thread_at y.threads s.tasks i t same here in
      let t' : Task = record t { readiness = Ready; next = next_time t.thread.timing t.next; used = 0; gate = shut } in
      let same_sections : sections (released y.costs t) ≡ sections t = going-sections y _ _ t' in
      renamed _ _ _ _ _ _ _ _ (named_by s.tasks i t same here)
      (own_back p arrivals meets i (released y.costs) t s.tasks s.stores s.time s.time (names.Release t.gate.value) more here same
      (released-thread y.costs t) (is_release t.gate.value)
      (λ ss z. stand_release p arrivals meets s.time t ss (silent 0 []) (idle t refl) (fits i t.thread th).0 (fits i t.thread th).1 z)
      (forth t (released y.costs t) same_sections) (back t (released y.costs t) same_sections) c)

  pub serve_backs : (i : ℕ) (o : Option Task) (s : State) → slice_get s.tasks i ≡ o → AreFitting p arrivals y.threads → threads_of s.tasks ≡ y.threads
      → Idles s.tasks → Backs s (serve_task y i o s)
  serve_backs i None s here fits same idle = λ on quiet more c. c
  serve_backs i (Some t) s here fits same idle = by (is_waiting t.readiness) t.gate.open' refl
    where
      by : (b b' : Bool) → is_waiting t.readiness ≡ b → Backs s (if b && b' then release y i s else (s, []))
      by true true e = release_backs i (slice_get s.tasks i) s refl fits same
          (λ u at. idle i u at (let is : t ≡ u = same_Some t u (sym here ∙ at)
          in waiting_not_ready u.readiness (sym (ap (λ z. is_waiting z.readiness) is) ∙ e)))
      by true false e = λ on quiet more c. c
      by false b' e = λ on quiet more c. c

  -- tasks that are idle through a change
  pub idle_change : (i : ℕ) (f : Task → Task) (t : Task) (ts : List Task) → slice_get ts i ≡ Some t → Idles ts
      → (((f t).readiness ≡ Ready → ⊥) → (f t).pieces ≡ []) → Idles (change i f ts)
  idle_change i f t ts here idle mine k u at not_ready = places k i
      (λ e. let is : f t ≡ u = same_Some (f t) u (sym (change-at i f ts t here) ∙ ap (slice_get (change i f ts)) (sym e) ∙ at) in
      let P : Task → Type 0 = λ z. (z.readiness ≡ Ready → ⊥) → z.pieces ≡ [] in
      subst P is mine not_ready)
      (λ apart. idle k u (sym (change-else i k f ts apart) ∙ at) not_ready)

  -- the change of a control structure
  pub gate_back : (k : ℕ) (g : Gate → Gate) (o : Option Task) (ts : List Task) (stores : List Variables) (now : ℕ) (told : List Event)
      → slice_get ts k ≡ o
      → Conducts p arrivals now (change k (λ u. record u { gate = g u.gate }) ts) stores told → Conducts p arrivals now ts stores told
  gate_back k g None ts stores now told here c =
      let P : List Task → Type 0 = λ z. Conducts p arrivals now z stores told in subst P (change-none k (λ u. record u { gate = g u.gate }) ts here) c
  gate_back k g (Some t) ts stores now told here c =
      quiet_back p arrivals meets k (λ u. record u { gate = g u.gate }) t ts stores now told here refl
      (λ ss z. stand_gate p arrivals meets now t (g t.gate) t.pieces ss z) (λ j d h. h) (λ j d h. h) c

  -- an act of the task at this place, whose first piece is used up
  pub record IsActing (s : State) (i : ℕ) (t : Task) (x : Piece) (rest : List Piece) : Type 0 where
    pub here : slice_get s.tasks i ≡ Some t
    pub pieces' : t.pieces ≡ x ∷ rest
    pub left : t.left ≡ 0
    pub fit : FitPieces setup.Good (x ∷ rest)
    pub bound : IsBound y (x ∷ rest)
    pub closed : closers (x ∷ rest) ≡ sections t
    pub fits : AreFitting p arrivals y.threads
    pub threads : threads_of s.tasks ≡ y.threads
    pub idles : Idles s.tasks
    pub has : HasStores y s.stores
    pub alone : Alone s.tasks

  bound_some : (ps : List Piece) → IsBound y ps → ps ≡ [] → ⊥
  bound_some ps b e = let B : List Piece → Type 0 = λ z. IsBound y z in subst B e b

  durations_of : (s : State) (i : ℕ) (t : Task) (x : Piece) (rest : List Piece) → IsActing s i t x rest → Each (λ d. 1 ≤ d) t.thread.durations
  durations_of s i t x rest a = (a.fits i t.thread (thread_at y.threads s.tasks i t a.threads a.here)).1

  -- the task's own part of a deed that is told in this way
  own_stands : (s : State) (i : ℕ) (t t' : Task) (x : Piece) (rest : List Piece) (ss ss' : List Step) → IsActing s i t x rest → t'.thread ≡ t.thread
      → t'.used ≡ t.used → IsBound y (done y x t.vars rest).pieces
      → ((P : Claim) (u n : ℕ) → Ahead setup P (done y x t.vars rest).vars (done y x t.vars rest).pieces ss u → IsTicks y.costs x n
      → Ahead setup P t.vars (x ∷ rest) ss' (n + u))
      → Stands p arrivals s.time (going y.costs (done y x t.vars rest).vars (done y x t.vars rest).pieces t')
      (going y.costs (done y x t.vars rest).vars (done y x t.vars rest).pieces t').pieces ss
      → Stands p arrivals s.time t t.pieces ss'
  own_stands s i t t' x rest ss ss' a thread used bound back' z =
      stand_back p arrivals meets s.time t t' x rest (done y x t.vars rest).vars (done y x t.vars rest).pieces ss ss' a.pieces' a.left thread used
      (bound_some _ bound) (fit_done setup is_apt x t.vars rest a.fit)
      (durations_of s i t x rest a) back' z

  -- a deed that the trace does not tell
  quiet_stands : (s : State) (i : ℕ) (t t' : Task) (x : Piece) (rest : List Piece) (ss : List Step) → IsActing s i t x rest → t'.thread ≡ t.thread
      → t'.used ≡ t.used → IsBound y (done y x t.vars rest).pieces
      → is_quiet (done y x t.vars rest).act ≡ true
      → Stands p arrivals s.time (going y.costs (done y x t.vars rest).vars (done y x t.vars rest).pieces t')
      (going y.costs (done y x t.vars rest).vars (done y x t.vars rest).pieces t').pieces ss
      → Stands p arrivals s.time t t.pieces ss
  quiet_stands s i t t' x rest ss a thread used bound quiet z =
      own_stands s i t t' x rest ss ss a thread used bound (λ P u n ahead legit. ahead_quiet setup is_apt P x rest t.vars ss n u a.fit legit
      quiet ahead) z

  -- a task that goes on, and nothing is told
  go_back : (s : State) (i : ℕ) (t : Task) (x : Piece) (rest : List Piece) (told : List Event) → IsActing s i t x rest
      → IsBound y (done y x t.vars rest).pieces → is_quiet (done y x t.vars rest).act ≡ true
      → Conducts p arrivals s.time (change i (going y.costs (done y x t.vars rest).vars (done y x t.vars rest).pieces) s.tasks) s.stores told
      → Conducts p arrivals s.time s.tasks s.stores told
  go_back s i t x rest told a bound quiet c =
      let d : PieceOutcome = done y x t.vars rest in
      let f : Task → Task = going y.costs d.vars d.pieces in
      let same_sections : sections (f t) ≡ sections t = going-sections y d.vars d.pieces t in
      quiet_back p arrivals meets i f t s.tasks s.stores s.time told a.here (going-thread y.costs d.vars d.pieces t)
      (λ ss z. quiet_stands s i t t x rest ss a refl refl bound quiet z)
      (forth t (f t) same_sections) (back t (f t) same_sections) c

  silent_back : (s : State) (i : ℕ) (t : Task) (x : Piece) (rest : List Piece) → IsActing s i t x rest → (done y x t.vars rest).act ≡ Silent
      → IsBound y (done y x t.vars rest).pieces
      → Backs s (acted y i t Silent (done y x t.vars rest).vars (done y x t.vars rest).pieces s)
  silent_back s i t x rest a act bound on quiet more c = go_back s i t x rest more a bound (ap is_quiet act) c

  print_back : (s : State) (i : ℕ) (t : Task) (x : Piece) (rest : List Piece) (v : ℕ) → IsActing s i t x rest → (done y x t.vars rest).act ≡ Print v
      → IsBound y (done y x t.vars rest).pieces
      → Backs s (acted y i t (Print v) (done y x t.vars rest).vars (done y x t.vars rest).pieces s)
  print_back s i t x rest v a act bound on quiet more c =
      let d : PieceOutcome = done y x t.vars rest in
      let f : Task → Task = going y.costs d.vars d.pieces in
      let same_sections : sections (f t) ≡ sections t = going-sections y d.vars d.pieces t in
      renamed _ _ _ _ _ _ _ _ (named_by s.tasks i t a.threads a.here)
      (own_back p arrivals meets i f t s.tasks s.stores s.time s.time (names.Print v) more a.here a.threads (going-thread y.costs d.vars d.pieces t)
      (is_print v)
      (λ ss z. own_stands s i t t x rest ss (step_at s.time (names.Print v) (silent 0 []) ∷ ss) a refl refl bound
      (λ P u n ahead legit. act_print setup is_apt P x t.vars rest (step_at s.time (names.Print v) (silent 0 [])) ss n u v legit act refl ahead) z)
      (forth t (f t) same_sections) (back t (f t) same_sections) c)

  ask_back : (s : State) (i : ℕ) (t : Task) (x : Piece) (rest : List Piece) (k : ℕ) → IsActing s i t x rest → (done y x t.vars rest).act ≡ Ask k
      → IsBound y (done y x t.vars rest).pieces
      → Backs s (acted y i t (Ask k) (done y x t.vars rest).vars (done y x t.vars rest).pieces s)
  ask_back s i t x rest k a act bound = by (nat_lt (ceiling_of y (Control k)) t.active)
    where
      by : (b : Bool) → Backs s (if b then stopped_at y t (Control k) s else entered_at y i (Control k) [] (done y x t.vars rest).vars
          (done y x t.vars rest).pieces s)
      by true = λ on quiet more c. absurd (true≢false quiet)
      by false = λ on quiet more c.
          let d : PieceOutcome = done y x t.vars rest in
          let t' : Task = inside_now (Control k) (ceiling_of y (Control k)) t in
          let f : Task → Task = λ u. going y.costs d.vars d.pieces (inside_now (Control k) (ceiling_of y (Control k)) u) in
          let same_sections : sections (f t) ≡ Control k ∷ sections t = going-sections y d.vars d.pieces t' in
          quiet_back p arrivals meets i f t s.tasks s.stores s.time more a.here (going-thread y.costs d.vars d.pieces t')
          (λ ss z. quiet_stands s i t t' x rest ss a refl refl bound (ap is_quiet act) z)
          (λ j e h. let H : List Resource → Type 0 = λ z. Holds j e z in subst H (sym same_sections) h)
          (λ j e h. let H : List Resource → Type 0 = λ z. Holds j e z in subst H same_sections h) c

  keep_back : (s : State) (i : ℕ) (t : Task) (x : Piece) (rest : List Piece) (k : ℕ) (v : Option ℕ) → IsActing s i t x rest
      → (done y x t.vars rest).act ≡ Keep k v → IsBound y (done y x t.vars rest).pieces
      → Backs s (acted y i t (Keep k v) (done y x t.vars rest).vars (done y x t.vars rest).pieces s)
  keep_back s i t x rest k v a act bound on quiet more c =
      go_back s i t x rest more a bound (ap is_quiet act) (gate_back k (λ g. record g { value = v })
      (slice_get (go y i (done y x t.vars rest).vars (done y x t.vars rest).pieces s).tasks k) _ _ _ _ refl c)

  open_back : (s : State) (i : ℕ) (t : Task) (x : Piece) (rest : List Piece) (k : ℕ) → IsActing s i t x rest → (done y x t.vars rest).act ≡ Open k
      → IsBound y (done y x t.vars rest).pieces
      → Backs s (acted y i t (Open k) (done y x t.vars rest).vars (done y x t.vars rest).pieces s)
  open_back s i t x rest k a act bound on quiet more c =
      go_back s i t x rest more a bound (ap is_quiet act) (gate_back k (λ g. record g { open' = true })
      (slice_get (go y i (done y x t.vars rest).vars (done y x t.vars rest).pieces s).tasks k) _ _ _ _ refl c)

  leaves_back : (s : State) (i : ℕ) (t : Task) (x : Piece) (rest : List Piece) (k op : ℕ) (values : List ℕ) (data' : Variables)
      → IsActing s i t x rest
      → (done y x t.vars rest).act ≡ Leave k op values data' → Known y x t.vars rest (Leave k op values data') (done y x t.vars rest)
      → Backs s (acted y i t (Leave k op values data') (done y x t.vars rest).vars (done y x t.vars rest).pieces s)
  leaves_back s i t x rest k op values data' a act known on quiet more c =
      let d : PieceOutcome = done y x t.vars rest in
      let t' : Task = outside_now t in
      let f : Task → Task = λ u. going y.costs d.vars d.pieces (outside_now u) in
      let thread : (f t).thread ≡ t.thread = going-thread y.costs d.vars d.pieces t' ∙ outside-thread t.inside t in
      let before : sections t ≡ Object k ∷ closers d.pieces = sym a.closed ∙ known.3 in
      renamed _ _ _ _ _ _ _ _ (named_by s.tasks i t a.threads a.here)
      (leave_back p arrivals meets i f t s.tasks s.stores s.time k op known.0 values data' (closers d.pieces) more a.here a.threads thread known.1
      known.2 a.has a.alone before
      (going-sections y d.vars d.pieces t' ∙ outside-sections t.inside t (Object k) (closers d.pieces) refl before)
      (λ ss z. own_stands s i t t' x rest ss (step_at s.time (names.Leave (entry_name p y k op) values) (silent 0 t.vars) ∷ ss) a
      (outside-thread t.inside t) (outside-used t.inside t) known.4
      (λ P u n ahead legit. act_leave setup is_apt P x t.vars rest (step_at s.time (names.Leave (entry_name p y k op) values) (silent 0 t.vars)) ss n
      u k op values data' legit act refl refl ahead) z) c)

  enters_back : (s : State) (i : ℕ) (t : Task) (x : Piece) (rest : List Piece) (k op : ℕ) (values : List ℕ) → IsActing s i t x rest
      → (done y x t.vars rest).act ≡ Enter k op values → IsBound y (done y x t.vars rest).pieces
      → Alone (acted y i t (Enter k op values) (done y x t.vars rest).vars (done y x t.vars rest).pieces s).0.tasks
      → Backs s (acted y i t (Enter k op values) (done y x t.vars rest).vars (done y x t.vars rest).pieces s)
  enters_back s i t x rest k op values a act bound = by (nat_lt (ceiling_of y (Object k)) t.active)
    where
      by : (b : Bool)
          → Alone (if b then stopped_at y t (Object k) s else entered_at y i (Object k)
          (machine.TheVariants.Enter s.time t.thread.unit (object_unit y k) op values ∷ []) (done y x t.vars rest).vars
          (done y x t.vars rest).pieces s).0.tasks
          → Backs s (if b then stopped_at y t (Object k) s else entered_at y i (Object k)
          (machine.TheVariants.Enter s.time t.thread.unit (object_unit y k) op values ∷ []) (done y x t.vars rest).vars
          (done y x t.vars rest).pieces s)
      by true alone = λ on quiet more c. absurd (true≢false quiet)
      by false alone = λ on quiet more c.
          let d : PieceOutcome = done y x t.vars rest in
          let t' : Task = inside_now (Object k) (ceiling_of y (Object k)) t in
          let vars : Variables = d.vars ++ unwrap_or (slice_get s.stores k) [] in
          let f : Task → Task = λ u. going y.costs vars d.pieces (inside_now (Object k) (ceiling_of y (Object k)) u) in
          renamed _ _ _ _ _ _ _ _ (named_by s.tasks i t a.threads a.here)
          (enter_back p arrivals meets i f t x rest s.tasks s.stores s.time k op values more a.here a.threads
          (going-thread y.costs vars d.pieces t') alone (going-sections y vars d.pieces t')
          (λ ss z. stand_enter p arrivals meets s.time t t' x rest (unwrap_or (slice_get s.stores k) []) ss k op values a.pieces' a.left refl refl
          (bound_some _ bound) a.fit (durations_of s i t x rest a) act z) c)

  -- the task that acts is ready
  busy_ready : (s : State) (i : ℕ) (t : Task) (x : Piece) (rest : List Piece) → IsActing s i t x rest → (t.readiness ≡ Ready → ⊥) → ⊥
  busy_ready s i t x rest a h = cons_nil x rest (sym a.pieces' ∙ a.idles i t a.here h)

  ended_back : (s : State) (i : ℕ) (t : Task) (x : Piece) (rest : List Piece) (k : ℕ) (v : Option ℕ) → IsActing s i t x rest
      → (done y x t.vars rest).act ≡ Ended k v → Known y x t.vars rest (Ended k v) (done y x t.vars rest)
      → Backs s (acted y i t (Ended k v) (done y x t.vars rest).vars (done y x t.vars rest).pieces s)
  ended_back s i t x rest k v a act known on quiet more c =
      let d : PieceOutcome = done y x t.vars rest in
      let t' : Task = outside_now t in
      let f : Task → Task = λ u. going y.costs d.vars d.pieces (outside_now u) in
      let s' : State = exit y i d.vars d.pieces s in
      let thread : (u : Task) → (f u).thread ≡ u.thread = λ u. going-thread y.costs d.vars d.pieces (outside_now u) ∙ outside-thread u.inside u in
      let before : sections t ≡ Control k ∷ closers d.pieces = sym a.closed ∙ known.0 in
      let behind : sections (f t) ≡ closers d.pieces
      = going-sections y d.vars d.pieces t' ∙ outside-sections t.inside t (Control k) (closers d.pieces) refl before in
      let idles : Idles s'.tasks = idle_change i f t s.tasks a.here a.idles
      (λ h. absurd (busy_ready s i t x rest a (λ e. h (going-readiness y.costs d.vars d.pieces t' ∙ outside-readiness t.inside t ∙ e)))) in
      let c' : Conducts p arrivals s'.time s'.tasks s'.stores (named p (serve y k s').1 ++ more) =
      serve_backs k (slice_get s'.tasks k) s' refl a.fits (change-threads i f s.tasks thread ∙ a.threads) idles on quiet more c in
      renamed _ _ _ _ _ _ _ _ (named_by s.tasks i t a.threads a.here)
      (own_back p arrivals meets i f t s.tasks s.stores s.time s.time (names.Request (request_name p y k).object v)
      (named p (serve y k s').1 ++ more) a.here a.threads (thread t) (is_request (request_name p y k).object v)
      (λ ss z. own_stands s i t t' x rest ss (step_at s.time (names.Request (request_name p y k).object v) (silent 0 []) ∷ ss) a
      (outside-thread t.inside t) (outside-used t.inside t) known.1
      (λ P u n ahead legit. act_ended setup is_apt P x t.vars rest (step_at s.time (names.Request (request_name p y k).object v) (silent 0 [])) ss n u
      k v legit act refl ahead) z)
      (λ j e h. let H : List Resource → Type 0 = λ z. Holds j e z in subst H (sym behind) (subst H before h))
      (λ j e h. let H : List Resource → Type 0 = λ z. Holds j e z in subst H (sym before) (subst H behind h)) c')

  finish_back : (s : State) (i : ℕ) (t : Task) (x : Piece) (rest : List Piece) → IsActing s i t x rest
      → (done y x t.vars rest).act ≡ Finish → Known y x t.vars rest Finish (done y x t.vars rest)
      → Backs s (acted y i t Finish (done y x t.vars rest).vars (done y x t.vars rest).pieces s)
  finish_back s i t x rest a act known on quiet more c =
      let d : PieceOutcome = done y x t.vars rest in
      let f : Task → Task = ended d.vars in
      let s' : State = record s { tasks = change i f s.tasks } in
      let idles : Idles s'.tasks = idle_change i f t s.tasks a.here a.idles (λ h. refl) in
      let c' : Conducts p arrivals s'.time s'.tasks s'.stores (named p (serve y i s').1 ++ more) =
      serve_backs i (slice_get s'.tasks i) s' refl a.fits (change-threads i f s.tasks (λ u. refl) ∙ a.threads) idles on quiet more c in
      renamed _ _ _ _ _ _ _ _ (named_by s.tasks i t a.threads a.here)
      (own_back p arrivals meets i f t s.tasks s.stores s.time s.time (names.End t.used) (named p (serve y i s').1 ++ more) a.here a.threads refl
      (is_end t.used)
      (λ ss z. let L : Variables → Type 0 = λ vs. Life w (task_at t.thread) (kept t.thread.vars vs) ss in
      stand_end p arrivals meets s.time t rest ss (silent 0 []) (a.pieces' ∙ ap (λ q. q ∷ rest) known.0) a.left (subst L known.1 z))
      (λ j e h. h) (λ j e h. h) c')

  -- an act
  pub acts_back : (s : State) (i : ℕ) (t : Task) (x : Piece) (rest : List Piece) (act : Act) → IsActing s i t x rest
      → (done y x t.vars rest).act ≡ act → Known y x t.vars rest act (done y x t.vars rest)
      → Alone (acted y i t act (done y x t.vars rest).vars (done y x t.vars rest).pieces s).0.tasks
      → Backs s (acted y i t act (done y x t.vars rest).vars (done y x t.vars rest).pieces s)
  acts_back s i t x rest Silent a act known alone = silent_back s i t x rest a act known
  acts_back s i t x rest (Print v) a act known alone = print_back s i t x rest v a act known
  acts_back s i t x rest (Enter k op values) a act known alone = enters_back s i t x rest k op values a act known alone
  acts_back s i t x rest (Leave k op values data') a act known alone = leaves_back s i t x rest k op values data' a act known
  acts_back s i t x rest (Ask k) a act known alone = ask_back s i t x rest k a act known
  acts_back s i t x rest (Keep k v) a act known alone = keep_back s i t x rest k v a act known
  acts_back s i t x rest (Open k) a act known alone = open_back s i t x rest k a act known
  acts_back s i t x rest (Ended k v) a act known alone = ended_back s i t x rest k v a act known
  acts_back s i t x rest Finish a act known alone = finish_back s i t x rest a act known
