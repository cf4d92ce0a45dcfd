-- From behind a deed of a task to before it: what is claimed of the task itself.
use Rattle.std.specs.Prelude.{◌≡◌, ◌⊎◌, ℕ, ◌+◌, ◌-◌, ◌≤◌, List, [], ◌∷◌, ◌++◌, Option, slice_get, option_to_list, refl, false}
use Rattle.std.proofs.Common.{sym, ◌∙◌, ap, subst, arith, inl, inr}
use Rattle.seq_tree.specs.Lists.{Each}
use Rattle.seq_tree.specs.Names.{Name}
use Rattle.seq_tree.specs.Operations.{Operation}
use Rattle.seq_tree.specs.Variables.{Variables, kept, entered}
use Rattle.seq_tree.specs.Runs.{Path, Run, BeginsScript}
use Rattle.ada_tree.specs.Programs.{Program}
use Rattle.machine.specs.Systems.{System, TaskUnit, ProtectedUnit, ReleasePattern, Periodic, Requested, Protected, callee, system}
use Rattle.machine.specs.Pieces.{Piece, Finishing, pieces, ticks_of}
use Rattle.machine.specs.Deeds.{Enter, done}
use Rattle.machine.specs.States.{Task, Gate, Ready, shut}
use Rattle.machine.specs.Releases.{going, released, parameter, next_time}
use Rattle.guarantee.specs.Software.{Software, leads_to, params_of, program_software}
use Rattle.guarantee.specs.Events as names
use Rattle.guarantee.specs.Steps.{Step}
use Rattle.law_written.proofs.Groups.{Life, end_step, life_whole, life_begun}
use Rattle.law_written.proofs.Shared.Claims.{Naming, task_at, timing_at, step_at, Finishes, Stands}
use Rattle.law_written.proofs.Bound.{IsBound, bound_block}
use Rattle.arrivals_tree.specs.Arriving.{Arrivals}
use Rattle.law_tasks.proofs.Shared.Courses.{Course, IsApt, FitBlock, FitPieces, IsTicks}
use Rattle.law_tasks.proofs.Shared.Programs.{course, entry_name}
use Rattle.law_tasks.proofs.Shared.AptPrograms.{apt}
use Rattle.law_tasks.proofs.Shared.Ways.{Claim, Ahead, Passes}
use Rattle.ada_tree.specs.Rules.{MeetsRules}
use Rattle.law_written.proofs.Shared.Namings.{naming}
use Rattle.law_tasks.proofs.Shared.Acts.{Enters, act_enter}
use Rattle.law_tasks.proofs.Shared.Aheads.{ahead_finish}
use Rattle.law_tasks.proofs.Shared.Entries.{Whole, Begun, activation}
use Rattle.law_tasks.proofs.Shared.Depths.{least-placed, most-placed}
use Rattle.law_tasks.proofs.Shared.Fits.{ticks_are, fit_done, fit_activation}

module _ (p : Program) (arrivals : Arrivals) (meets : MeetsRules p) where
  abbrev y : System
  y = system p arrivals

  abbrev w : Software
  w = program_software p

  abbrev setup : Course
  setup = course p arrivals

  names' : Naming p y w
  names' = naming p arrivals meets

  is_apt : IsApt (course p arrivals)
  is_apt = apt p arrivals meets

  -- what is known of a task that goes on
  pub record IsGoing (now : ℕ) (th : TaskUnit) (before : ℕ) (vars : Variables) (ps : List Piece) (ss : List Step) : Type 0 where
    pub used : ℕ
    pub ending : ℕ
    pub ticks : ℕ
    pub ahead : Ahead setup (Finishes y w th used ending) vars ps ss ticks
    pub sums : used ≡ before + ticks
    pub since : now + used ≤ ending + before

  going_opens : (now : ℕ) (vars : Variables) (ps : List Piece) (t : Task) (ss : List Step) → (ps ≡ [] → ⊥) → FitPieces setup.Good ps
      → Each (λ d. 1 ≤ d) t.thread.durations
      → Stands p arrivals now (going y.costs vars ps t) (going y.costs vars ps t).pieces ss → IsGoing now t.thread t.used vars ps ss
  going_opens now vars [] t ss some fit durations s = absurd (some refl)
  going_opens now vars (x ∷ rest) t ss some fit durations s =
      let left : ℕ = ticks_of y.costs (slice_get t.thread.durations t.works) x in
      record {
        used = s.used;
        ending = s.ending;
        ticks = left + s.more;
        ahead = s.ahead left (ticks_are setup.Good y.costs t.thread.durations t.works x rest fit durations);
        sums = s.sums;
        since = s.since;
      }

  -- a deed that does not enter an operation
  pub stand_back : (now : ℕ) (t t' : Task) (x : Piece) (rest : List Piece) (vars : Variables) (ps : List Piece) (ss ss' : List Step)
      → t.pieces ≡ x ∷ rest → t.left ≡ 0 → t'.thread ≡ t.thread → t'.used ≡ t.used → (ps ≡ [] → ⊥) → FitPieces setup.Good ps
      → Each (λ d. 1 ≤ d) t.thread.durations
      → ((P : Claim) (u n : ℕ) → Ahead setup P vars ps ss u → IsTicks y.costs x n → Ahead setup P t.vars (x ∷ rest) ss' (n + u))
      → Stands p arrivals now (going y.costs vars ps t') (going y.costs vars ps t').pieces ss → Stands p arrivals now t t.pieces ss'
  stand_back now t t' x rest vars ps ss ss' here left thread used some fit durations back s =
      let E : TaskUnit → Type 0 = λ th. Each (λ d. 1 ≤ d) th.durations in
      let G : TaskUnit → Type 0 = λ th. IsGoing now th t'.used vars ps ss in
      let U : ℕ → Type 0 = λ n. IsGoing now t.thread n vars ps ss in
      let g : IsGoing now t.thread t.used vars ps ss
      = subst U used (subst G thread (going_opens now vars ps t' ss some fit (subst E (sym thread) durations) s)) in
      let S : List Piece → Type 0 = λ ps'. Stands p arrivals now t ps' ss' in
      subst S (sym here) (record {
        used = g.used;
        ending = g.ending;
        more = g.ticks;
        ahead = λ n legit. back (Finishes y w t.thread g.used g.ending) g.ticks n g.ahead legit;
        sums = omega (arith, g.sums, left);
        since = g.since;
      })

  -- a deed that enters an operation
  pub record IsEntry (now : ℕ) (t : Task) (x : Piece) (rest : List Piece) (data' : Variables) (object op : ℕ) (values : List ℕ)
      (ss : List Step) : Type 0 where
    pub operation : Operation
    pub guarded : ProtectedUnit
    pub unit : Name
    pub name : Name
    pub calls : callee y unit name ≡ Protected object op guarded operation
    pub body : Path
    pub stands : Stands p arrivals now t t.pieces (step_at now (names.Enter (entry_name p y object op) values) body ∷ ss)
    pub passes : Passes setup operation data' values (entry_name p y object op) ss body

  pub stand_enter : (now : ℕ) (t t' : Task) (x : Piece) (rest : List Piece) (data' : Variables) (ss : List Step) (object op : ℕ) (values : List ℕ)
      → t.pieces ≡ x ∷ rest → t.left ≡ 0 → t'.thread ≡ t.thread → t'.used ≡ t.used → ((done y x t.vars rest).pieces ≡ [] → ⊥)
      → FitPieces setup.Good (x ∷ rest) → Each (λ d. 1 ≤ d) t.thread.durations
      → (done y x t.vars rest).act ≡ Enter object op values
      → Stands p arrivals now (going y.costs ((done y x t.vars rest).vars ++ data') (done y x t.vars rest).pieces t')
      (going y.costs ((done y x t.vars rest).vars ++ data') (done y x t.vars rest).pieces t').pieces ss
      → IsEntry now t x rest data' object op values ss
  stand_enter now t t' x rest data' ss object op values here left thread used some fit durations act s =
      let vars : Variables = (done y x t.vars rest).vars ++ data' in
      let ps : List Piece = (done y x t.vars rest).pieces in
      let E : TaskUnit → Type 0 = λ th. Each (λ d. 1 ≤ d) th.durations in
      let G : TaskUnit → Type 0 = λ th. IsGoing now th t'.used vars ps ss in
      let U : ℕ → Type 0 = λ n. IsGoing now t.thread n vars ps ss in
      let g : IsGoing now t.thread t.used vars ps ss =
      subst U used (subst G thread (going_opens now vars ps t' ss some (fit_done setup is_apt x t.vars rest fit)
      (subst E (sym thread) durations) s)) in
      let P : Claim = Finishes y w t.thread g.used g.ending in
      let e : Enters setup is_apt P x t.vars rest now g.ticks object op values data' ss
      = act_enter setup is_apt P x t.vars rest now g.ticks object op values data' ss fit act g.ahead in
      let S : List Piece → Type 0 = λ ps'. Stands p arrivals now t ps' (step_at now (names.Enter (entry_name p y object op) values) e.body ∷ ss) in
      record {
        operation = e.operation;
        guarded = e.guarded;
        unit = e.unit;
        name = e.name;
        calls = e.leads;
        body = e.body;
        stands = subst S (sym here) (record {
          used = g.used;
          ending = g.ending;
          more = g.ticks;
          ahead = e.ahead;
          sums = omega (arith, g.sums, left);
          since = g.since;
        });
        passes = e.passes;
      }

  -- the end of an activation
  pub stand_end : (now : ℕ) (t : Task) (rest : List Piece) (ss : List Step) (body : Path) → t.pieces ≡ Finishing ∷ rest → t.left ≡ 0
      → Life w (task_at t.thread) (kept t.thread.vars t.vars) ss → Stands p arrivals now t t.pieces (step_at now (names.End t.used) body ∷ ss)
  stand_end now t rest ss body here left life =
      let S : List Piece → Type 0 = λ ps'. Stands p arrivals now t ps' (step_at now (names.End t.used) body ∷ ss) in
      subst S (sym here) (record {
        used = t.used;
        ending = now;
        more = 0;
        ahead = λ n legit. ahead_finish setup (Finishes y w t.thread t.used now) rest t.vars (step_at now (names.End t.used) body ∷ ss) (n + 0)
            (omega (arith, legit), body, ss, refl, life);
        sums = omega (arith, left);
        since = omega arith;
      })

  -- the parameter of a release
  parameter-same : (timing : ReleasePattern) (value : Option ℕ) (vars : Variables)
      → parameter timing value ++ vars ≡ entered (params_of (timing_at timing)) (option_to_list value) ++ vars
  parameter-same (Periodic offset period) value vars = refl
  parameter-same (Requested op ceiling separation jitter external) value vars = refl

  -- a release
  pub stand_release : (now : ℕ) (t : Task) (ss : List Step) (body : Path) → t.pieces ≡ [] → FitBlock setup.Good false t.thread.block
      → Each (λ d. 1 ≤ d) t.thread.durations
      → Stands p arrivals now (released y.costs t) (released y.costs t).pieces ss
      → Stands p arrivals now t t.pieces (step_at now (names.Release t.gate.value) body ∷ ss)
  stand_release now t ss body here fit durations s =
      let t' : Task = record t { readiness = Ready; next = next_time t.thread.timing t.next; used = 0; gate = shut } in
      let vars : Variables = parameter t.thread.timing t.gate.value ++ t.vars in
      let ps : List Piece = pieces t.thread.block (Finishing ∷ []) in
      let bound : IsBound y ps = bound_block y t.thread.block (Finishing ∷ []) refl in
      let g : IsGoing now t.thread 0 vars ps ss =
      going_opens now vars ps t' ss (λ e. let B : List Piece → Type 0 = λ z. IsBound y z
      in subst B e bound) (fit_activation setup.Good t.thread.block fit) durations s in
      let S : List Piece → Type 0 = λ ps'. Stands p arrivals now t ps' (step_at now (names.Release t.gate.value) body ∷ ss) in
      subst S (sym here) (lives g (activation setup (Finishes y w t.thread g.used g.ending) t.thread.block vars ss g.ticks g.ahead))
    where
      lives : (g : IsGoing now t.thread 0 (parameter t.thread.timing t.gate.value ++ t.vars) (pieces t.thread.block (Finishing ∷ [])) ss)
          → ((q : Path) × Whole setup (Finishes y w t.thread g.used g.ending) t.thread.block (parameter t.thread.timing t.gate.value ++ t.vars) ss
          g.ticks q) ⊎ Begun setup t.thread.block (parameter t.thread.timing t.gate.value ++ t.vars) ss
          → Life w (task_at t.thread) t.vars (step_at now (names.Release t.gate.value) body ∷ ss)
      lives g (inl (q, r)) =
          let ending' : List Step = r.inner ++ end_step g.ending g.used r.over.1 ∷ r.over.2 in
          let all : ss ≡ ending' = r.parts ∙ ap (λ l. r.inner ++ l) r.over.3 in
          let L : List Step → Type 0 = λ l. Life w (task_at t.thread) t.vars (step_at now (names.Release t.gate.value) body ∷ l) in
          let V : Variables → Type 0 = λ v. Run w.costs (leads_to w) t.thread.block v q in
          subst L (sym all) (life_whole w (task_at t.thread) t.vars now t.gate.value body q r.inner r.over.2 g.ending g.used r.over.1
          (subst V (parameter-same t.thread.timing t.gate.value t.vars) r.run) r.within r.shows
          (omega (arith, r.at_least, least-placed 0 r.inner, r.over.0, names'.finish, g.sums))
          (omega (arith, r.at_most, most-placed 0 r.inner, r.over.0, names'.finish, g.sums)) (omega (arith, g.since)) r.over.4)
      lives g (inr o) =
          let V : Variables → Type 0 = λ v. BeginsScript w.costs (leads_to w) t.thread.block v o.script in
          life_begun w (task_at t.thread) t.vars now t.gate.value body ss o.script
          (subst V (parameter-same t.thread.timing t.gate.value t.vars) o.begins) o.shows

  -- a tick
  pub stand_tick : (now : ℕ) (t : Task) (ps : List Piece) (ss : List Step) → ((x : Piece) (rest : List Piece) → ps ≡ x ∷ rest → 1 ≤ t.left)
      → Stands p arrivals (now + 1) (record t { left = t.left - 1; used = t.used + 1 }) ps ss → Stands p arrivals now t ps ss
  stand_tick now t [] ss some s = s
  stand_tick now t (x ∷ rest) ss some s = record {
    used = s.used;
    ending = s.ending;
    more = s.more;
    ahead = s.ahead;
    sums = omega (arith, s.sums, some x rest refl);
    since = omega (arith, s.since);
  }

  -- a tick of others
  pub stand_later : (now : ℕ) (t : Task) (ps : List Piece) (ss : List Step) → Stands p arrivals (now + 1) t ps ss → Stands p arrivals now t ps ss
  stand_later now t [] ss s = s
  stand_later now t (x ∷ rest) ss s =
      record { used = s.used; ending = s.ending; more = s.more; ahead = s.ahead; sums = s.sums; since = omega (arith, s.since) }

  -- a change of the control structure
  pub stand_gate : (now : ℕ) (t : Task) (g : Gate) (ps : List Piece) (ss : List Step) → Stands p arrivals now (record t { gate = g }) ps ss
      → Stands p arrivals now t ps ss
  stand_gate now t g [] ss s = s
  stand_gate now t g (x ∷ rest) ss s = record { used = s.used; ending = s.ending; more = s.more; ahead = s.ahead; sums = s.sums; since = s.since }
