-- What is claimed of a task, from behind a step to before it, and so from the stop of a run to its opening.
use Rattle.std.specs.Prelude.{◌≡◌, ℕ, zero, suc, ◌+◌, ◌-◌, ◌≤◌, Bool, true, false, ◌&&◌, ◌==◌, List, [], ◌∷◌, ◌++◌, nat_lt, Option}
use Rattle.std.specs.Prelude.{Some, None, slice_get, refl, if◌then◌else◌}
use Rattle.std.specs.List.{list_any}
use Rattle.std.proofs.Common.{sym, ◌∙◌, ap, subst, arith, inl, inr}
use Rattle.seq_tree.specs.Lists.{change, Each, first_where}
use Rattle.seq_tree.specs.Names.{Name, same_name}
use Rattle.seq_tree.specs.Variables.{Variables}
use Rattle.ada_tree.specs.Programs.{Program}
use Rattle.arrivals_tree.specs.declared.arrivals.Arrival.{Arrival}
use Rattle.trace_tree.specs.Lines.{unit_name}
use Rattle.trace_tree.specs.declared.event.Event as machine
use Rattle.trace_tree.specs.declared.event.Event.TheVariants as event
use Rattle.machine.specs.Systems.{System, TaskUnit}
use Rattle.machine.specs.Pieces.{Piece, Finishing, pieces}
use Rattle.machine.specs.Deeds.{Act, Silent, Print, Enter, Leave, Ask, Keep, Open, Ended, Finish, done}
use Rattle.machine.specs.States.{State, Task, Phase, Effects, Delays, Arriving, Use, Resource, Object, Control, Held, Readiness, Asleep, Waiting}
use Rattle.machine.specs.States.{Ready, shut}
use Rattle.machine.specs.Dispatch.{dispatched}
use Rattle.machine.specs.Releases.{Next, going, released, release_task, release, is_waiting, serve_task, serve, next_time, parameter}
use Rattle.machine.specs.Effects.{acted, takes_effect, entered_at, stopped_at, exit, go, ended, ceiling_of, inside_now, outside_now, outside_by}
use Rattle.machine.specs.Effects.{lent, object_unit, task_unit}
use Rattle.machine.specs.Steps.{step, step_in, goes_to, effect_of, effect_at, effect_step, delay_step, horizon_step, arrive_at, arrival_step}
use Rattle.machine.specs.Steps.{use_step, is_due}
use Rattle.machine.specs.Meanings.{run}
use Rattle.machine.proofs.Shared.RunLaws.{stopped_stays}
use Rattle.guarantee.specs.Software.{Software}
use Rattle.guarantee.specs.Events.{Event, By, Horizon, named, op_at}
use Rattle.guarantee.specs.Events as names
use Rattle.law_written.proofs.Shared.Moves.{threads_of, is_stopping, change-threads}
use Rattle.law_written.proofs.Shared.Walks.{IsTimely, Walks, step-walks}
use Rattle.law_written.proofs.Shared.InOrder.{quiet_front, quiet_back, named-append}
use Rattle.law_written.proofs.Shared.Claims.{Naming}
use Rattle.law_written.proofs.Shared.Back.{places, thread_at}
use Rattle.law_written.proofs.Shared.StepsBack.{IsKept}
use Rattle.law_releases.proofs.Shared.Carrying.{SameFace, going-face, IsElse, IsCarried}
use Rattle.std.proofs.lemmas.Option.{same_Some}
use Rattle.std.proofs.lemmas.Bool.{true≢false, false_from_ne_true, eqb-true}
use Rattle.law_releases.proofs.Readiness.{waiting_is, busy_ready}
use Rattle.law_lists.proofs.Shared.Facts.{first-none, first-where}
use Rattle.law_lists.proofs.Shared.Places.{change-at, change-else}
use Rattle.law_calls.proofs.Shared.Tasks.{going-thread, outside-thread}

-- faces through the changes of an act
inside-face : (y : System) (vars : Variables) (ps : List Piece) (c : Resource) (n : ℕ) (t : Task)
    → SameFace t (going y.costs vars ps (inside_now c n t))
inside-face y vars ps c n t = let g : SameFace (inside_now c n t) (going y.costs vars ps (inside_now c n t)) = going-face y vars ps (inside_now c n t)
    in record { readiness = g.readiness; next = g.next; value = g.value }

outside_by-face : (hs : List Held) (t : Task) → SameFace t (outside_by hs t)
outside_by-face [] t = record { readiness = refl; next = refl; value = refl }
outside_by-face (h ∷ hs) t = record { readiness = refl; next = refl; value = refl }

outside-face : (y : System) (vars : Variables) (ps : List Piece) (t : Task) → SameFace t (going y.costs vars ps (outside_now t))
outside-face y vars ps t =
    let g : SameFace (outside_now t) (going y.costs vars ps (outside_now t)) = going-face y vars ps (outside_now t) in
    let o : SameFace t (outside_now t) = outside_by-face t.inside t in
    record { readiness = g.readiness ∙ o.readiness; next = g.next ∙ o.next; value = g.value ∙ o.value }

-- a sleeper that is due
record IsDueAt (now : ℕ) (rd : Readiness) : Type 0 where
  at : ℕ
  asleep : rd ≡ Asleep at
  due : at ≤ now

due_is : (now : ℕ) (rd : Readiness) → is_due now rd ≡ true → IsDueAt now rd
due_is now (Asleep m) e = record { at = m; asleep = refl; due = grind arith }
due_is now Waiting e = absurd (true≢false (sym e))
due_is now Ready e = absurd (true≢false (sym e))

module _ (p : Program) (y : System) (w : Software) (names' : Naming p y w) (k : ℕ) (th : TaskUnit) (stands : slice_get y.threads k
    ≡ Some th) (Holds : Phase → ℕ → Task → List Event → Type 0) (may : IsCarried y th Holds) where
  -- what is claimed of the task in its place
  abbrev C : Phase → ℕ → List Task → List Event → Type 0
  C phase now ts told = (t : Task) → slice_get ts k ≡ Some t → Holds phase now t told

  abbrev Backs : State → Next → Type 0
  Backs s next = next.0.stopped ≡ false → list_any is_stopping next.1 ≡ false → (more : List Event) → C next.0.phase next.0.time next.0.tasks more
      → C s.phase s.time s.tasks (named p next.1 ++ more)

  -- the name of another task
  other : (ts : List Task) (i : ℕ) (t : Task) → threads_of ts ≡ y.threads → slice_get ts i ≡ Some t → (k ≡ i → ⊥)
      → same_name (unit_name p t.thread.unit) th.name ≡ false
  other ts i t same at apart =
      let there : slice_get y.threads i ≡ Some t.thread = thread_at y.threads ts i t same at in
      ap (λ n. same_name n th.name) (names'.thread_name i t.thread there) ∙ false_from_ne_true _
      (λ e. apart (sym (names'.threads_apart i k t.thread th there stands e)))

  -- the name of the task itself
  mine : (ts : List Task) (i : ℕ) (t : Task) → threads_of ts ≡ y.threads → slice_get ts i ≡ Some t → k ≡ i
      → (t.thread ≡ th) × (unit_name p t.thread.unit ≡ th.name)
  mine ts i t same at e =
      let there : slice_get y.threads i ≡ Some t.thread = thread_at y.threads ts i t same at in
      let is : t.thread ≡ th = same_Some t.thread th (sym there ∙ ap (slice_get y.threads) (sym e) ∙ stands) in
      (is, names'.thread_name i t.thread there ∙ ap (λ z. z.name) is)

  -- events of deeds
  unheard : (phase : Phase) (now : ℕ) (ts : List Task) (time : ℕ) (task : Name) (deed : names.Deed) (more : List Event)
      → IsElse th.name (By time task deed) → C phase now ts more → C phase now ts (By time task deed ∷ more)
  unheard phase now ts time task deed more u c t at = may.unheard phase now t (By time task deed) more u (c t at)

  -- a change that keeps faces
  face : (i : ℕ) (f : Task → Task) (phase : Phase) (now : ℕ) (ts : List Task) (more : List Event) → ((t : Task) → SameFace t (f t))
      → C phase now (change i f ts) more → C phase now ts more
  face i f phase now ts more same c t at = places k i
      (λ e.
      let here : slice_get (change i f ts) k ≡ Some (f t) = ap (slice_get (change i f ts)) e ∙ change-at i f ts t (ap (slice_get ts) (sym e) ∙ at) in
      may.same_face phase now t (f t) more (same t) (c (f t) here))
      (λ apart. c t (change-else i k f ts apart ∙ at))

  -- a change of another task
  other_back : (i : ℕ) (f : Task → Task) (phase : Phase) (now : ℕ) (ts : List Task) (more : List Event) → (k ≡ i → ⊥)
      → C phase now (change i f ts) more → C phase now ts more
  other_back i f phase now ts more apart c t at = c t (change-else i k f ts apart ∙ at)

  -- the end of the task
  end_back : (vars : Variables) (ts : List Task) (now : ℕ) (t : Task) (more : List Event) → slice_get ts k ≡ Some t → t.thread ≡ th
      → t.readiness ≡ Ready → now ≤ y.until → C Effects now (change k (ended vars) ts) more
      → C Effects now ts (By now th.name (names.End t.used) ∷ more)
  end_back vars ts now t more here thread ready early c u at =
      let is : t ≡ u = same_Some t u (sym here ∙ at) in
      let P : Task → Type 0 = λ z. Holds Effects now z (By now th.name (names.End t.used) ∷ more) in
      subst P is (may.ends vars now t more thread ready early (c (ended vars t) (change-at k (ended vars) ts t here)))

  -- the release of the task
  release_back : (ts : List Task) (now m : ℕ) (t : Task) (more : List Event) → slice_get ts k ≡ Some t → t.thread ≡ th → now ≤ y.until
      → t.readiness ≡ Asleep m → m ≤ now → C Delays now (change k (released y.costs) ts) more
      → C Delays now ts (By now th.name (names.Release t.gate.value) ∷ more)
  release_back ts now m t more here thread early asleep due c u at =
      let is : t ≡ u = same_Some t u (sym here ∙ at) in
      let t' : Task = record t { readiness = Ready; next = next_time t.thread.timing t.next; used = 0; gate = shut } in
      let g : SameFace t' (released y.costs t)
      = going-face y (parameter t.thread.timing t.gate.value ++ t.vars) (pieces t.thread.block (Finishing ∷ [])) t' in
      let P : Task → Type 0 = λ z. Holds Delays now z (By now th.name (names.Release t.gate.value) ∷ more) in
      subst P is (may.releases now m t more early asleep due g.readiness (g.next ∙ ap (λ z. next_time z.timing t.next) thread) g.value
      (c (released y.costs t) (change-at k (released y.costs) ts t here)))

  -- a release of another task, or of one that waits
  release_other : (i : ℕ) (t : Task) (phase : Phase) (now : ℕ) (ts : List Task) (more : List Event) → threads_of ts ≡ y.threads
      → slice_get ts i ≡ Some t → (k ≡ i → ⊥)
      → C phase now (change i (released y.costs) ts) more → C phase now ts (By now (unit_name p t.thread.unit) (names.Release t.gate.value) ∷ more)
  release_other i t phase now ts more same at apart c =
      unheard phase now ts now (unit_name p t.thread.unit) (names.Release t.gate.value) more (other ts i t same at apart)
      (other_back i (released y.costs) phase now ts more apart c)

  waits_vacuous : (i : ℕ) (t : Task) (phase : Phase) (now : ℕ) (ts : List Task) (told : List Event) → slice_get ts i ≡ Some t → t.readiness ≡ Waiting
      → k ≡ i → C phase now ts told
  waits_vacuous i t phase now ts told at waits e u there =
      let is : t ≡ u = same_Some t u (sym at ∙ ap (slice_get ts) (sym e) ∙ there) in
      may.waits phase now u told (ap (λ z. z.readiness) (sym is) ∙ waits)

  serve_backs : (i : ℕ) (o : Option Task) (s : State) → slice_get s.tasks i ≡ o → threads_of s.tasks ≡ y.threads → (more : List Event)
      → C (serve_task y i o s).0.phase (serve_task y i o s).0.time (serve_task y i o s).0.tasks more
      → C s.phase s.time s.tasks (named p (serve_task y i o s).1 ++ more)
  serve_backs i None s at same = λ more c. c
  serve_backs i (Some t) s at same = by (is_waiting t.readiness) t.gate.open' refl
    where
      rel : (o : Option Task) → slice_get s.tasks i ≡ o → t.readiness ≡ Waiting → (more : List Event)
          → C (release_task y i o s).0.phase (release_task y i o s).0.time (release_task y i o s).0.tasks more
          → C s.phase s.time s.tasks (named p (release_task y i o s).1 ++ more)
      rel None at' waits = λ more c. c
      rel (Some u) at' waits = λ more c. places k i (λ e. waits_vacuous i t s.phase s.time s.tasks _ at waits e)
          (λ apart. release_other i u s.phase s.time s.tasks more same at' apart c)

      by : (b b' : Bool) → is_waiting t.readiness ≡ b → (more : List Event)
          → C (if b && b' then release y i s else (s, [])).0.phase (if b && b' then release y i s else (s, [])).0.time
          (if b && b' then release y i s else (s, [])).0.tasks more
          → C s.phase s.time s.tasks (named p (if b && b' then release y i s else (s, [])).1 ++ more)
      by true true e = rel (slice_get s.tasks i) refl (waiting_is t.readiness e)
      by true false e = λ more c. c
      by false b' e = λ more c. c

  -- a deed
  acts_back : (s : State) (i : ℕ) (t : Task) (act : Act) (vars : Variables) (ps : List Piece) → s.phase ≡ Effects → slice_get s.tasks i ≡ Some t
      → threads_of s.tasks ≡ y.threads → s.time ≤ y.until → t.readiness ≡ Ready
      → ((j : ℕ) (v : Option ℕ) → act ≡ Keep j v → k ≡ j → ⊥) → Backs s (acted y i t act vars ps s)
  acts_back s i t Silent vars ps is at same early ready keeps
      = λ on quiet more c. face i (going y.costs vars ps) s.phase s.time s.tasks more (λ u. going-face y vars ps u) c
  acts_back s i t (Print v) vars ps is at same early ready keeps = λ on quiet more c.
      unheard s.phase s.time s.tasks s.time (unit_name p t.thread.unit) (names.Print v) more
      tt
      (face i (going y.costs vars ps) s.phase s.time s.tasks more (λ u. going-face y vars ps u) c)
  acts_back s i t (Enter object op values) vars ps is at same early ready keeps = by (nat_lt (ceiling_of y (Object object)) t.active)
    where
      by : (b : Bool) → Backs s (if b then stopped_at y t (Object object) s else entered_at y i (Object object)
          (event.Enter s.time t.thread.unit (object_unit y object) op values ∷ []) vars ps s)
      by true = λ on quiet more c. absurd (true≢false quiet)
      by false = λ on quiet more c.
          unheard s.phase s.time s.tasks s.time (unit_name p t.thread.unit) (names.Enter (op_at p (object_unit y object) op) values) more
          tt
          (face i _ s.phase s.time s.tasks more (λ u. inside-face y (lent (Object object) s vars) ps (Object object)
          (ceiling_of y (Object object)) u) c)
  acts_back s i t (Leave object op values data') vars ps is at same early ready keeps = λ on quiet more c.
      unheard s.phase s.time s.tasks s.time (unit_name p t.thread.unit) (names.Leave (op_at p (object_unit y object) op) values) more
      tt
      (face i (λ u. going y.costs vars ps (outside_now u)) s.phase s.time s.tasks more (λ u. outside-face y vars ps u) c)
  acts_back s i t (Ask task) vars ps is at same early ready keeps = by (nat_lt (ceiling_of y (Control task)) t.active)
    where
      by : (b : Bool) → Backs s (if b then stopped_at y t (Control task) s else entered_at y i (Control task) [] vars ps s)
      by true = λ on quiet more c. absurd (true≢false quiet)
      by false = λ on quiet more c. face i _ s.phase s.time s.tasks more (λ u. inside-face y vars ps (Control task) (ceiling_of y (Control task)) u) c
  acts_back s i t (Keep task v) vars ps is at same early ready keeps = λ on quiet more c.
      face i (going y.costs vars ps) s.phase s.time s.tasks more (λ u. going-face y vars ps u)
      (other_back task _ s.phase s.time (go y i vars ps s).tasks more (keeps task v refl) c)
  acts_back s i t (Open task) vars ps is at same early ready keeps = λ on quiet more c.
      face i (going y.costs vars ps) s.phase s.time s.tasks more (λ u. going-face y vars ps u)
      (face task (λ u. record u { gate = record u.gate { open' = true } }) s.phase s.time (go y i vars ps s).tasks more
      (λ u. record { readiness = refl; next = refl; value = refl }) c)
  acts_back s i t (Ended task v) vars ps is at same early ready keeps = λ on quiet more c.
      let s' : State = exit y i vars ps s in
      let f : Task → Task = λ u. going y.costs vars ps (outside_now u) in
      unheard s.phase s.time s.tasks s.time (unit_name p t.thread.unit) (names.Request (unit_name p (task_unit y task)) v) _
      tt
      (face i f s.phase s.time s.tasks _ (λ u. outside-face y vars ps u)
      (serve_backs task (slice_get s'.tasks task) s' refl (exit_threads s.tasks ∙ same) more c))
    where
      exit_threads : (ts : List Task) → threads_of (change i (λ u. going y.costs vars ps (outside_now u)) ts) ≡ threads_of ts
      exit_threads ts = change-threads i (λ u. going y.costs vars ps (outside_now u)) ts
          (λ u. going-thread y.costs vars ps (outside_now u) ∙ outside-thread u.inside u)
  acts_back s i t Finish vars ps is at same early ready keeps = λ on quiet more c.
      let s' : State = record s { tasks = change i (ended vars) s.tasks } in
      let c' : C s.phase s.time s'.tasks (named p (serve y i s').1 ++ more)
      = serve_backs i (slice_get s'.tasks i) s' refl (change-threads i (ended vars) s.tasks (λ u. refl) ∙ same) more c in
      places k i
      (λ e.
      let own : (t.thread ≡ th) × (unit_name p t.thread.unit ≡ th.name) = mine s.tasks i t same at e in
      let P : Phase → Type 0 = λ ph. C ph s.time s'.tasks (named p (serve y i s').1 ++ more) in
      let Q : Phase → Type 0 = λ ph. C ph s.time s.tasks (By s.time (unit_name p t.thread.unit) (names.End t.used)
      ∷ (named p (serve y i s').1 ++ more)) in
      let N : Name → Type 0 = λ n. C Effects s.time s.tasks (By s.time n (names.End t.used) ∷ (named p (serve y i s').1 ++ more)) in
      let S : ℕ → Type 0 = λ j. C Effects s.time (change j (ended vars) s.tasks) (named p (serve y i s').1 ++ more) in
      subst Q (sym is) (subst N (sym own.1)
      (end_back vars s.tasks s.time t _ (ap (slice_get s.tasks) e ∙ at) own.0 ready early
      (subst S (sym e) (subst P is c')))))
      (λ apart.
      unheard s.phase s.time s.tasks s.time (unit_name p t.thread.unit) (names.End t.used) _
      (other s.tasks i t same at apart)
      (other_back i (ended vars) s.phase s.time s.tasks _ apart c'))

  -- a task with pieces left is ready
  busy : (s : State) (i : ℕ) (t : Task) (x : Piece) (rest : List Piece) → IsKept s.tasks → slice_get s.tasks i ≡ Some t → t.pieces ≡ x ∷ rest
      → t.readiness ≡ Ready
  busy s i t x rest kept at is = busy_ready t x rest (kept.idles i t at) is

  -- nobody keeps a value in the control structure of this task
  abbrev pub KeepsAway : List Task → Type 0
  KeepsAway ts = (i : ℕ) (t : Task) (x : Piece) (rest : List Piece) (j : ℕ) (v : Option ℕ) → slice_get ts i ≡ Some t → t.pieces ≡ x ∷ rest
      → (done y x t.vars rest).act ≡ Keep j v → k ≡ j → ⊥

  -- no arrival is for this task
  abbrev pub Elsewhere : List Arrival → Type 0
  Elsewhere as' = Each (λ a. th.unit ≡ a.task → ⊥) as'

  -- what is claimed of a part of an instant, from another
  from_phase : (s : State) (phase phase' : Phase) (now' : ℕ) (ts : List Task) (more : List Event) → s.phase ≡ phase
      → ((t : Task) → slice_get ts k ≡ Some t → Holds phase' now' t more → Holds phase s.time t more)
      → C phase' now' ts more → C s.phase s.time ts more
  from_phase s phase phase' now' ts more is f c =
      let P : Phase → Type 0 = λ ph. C ph s.time ts more in
      subst P (sym is) (λ t at. f t at (c t at))

  effects_back : (s : State) → s.phase ≡ Effects → threads_of s.tasks ≡ y.threads → s.time ≤ y.until → IsKept s.tasks → KeepsAway s.tasks
      → Backs s (effect_step y s.ran s)
  effects_back s is same early kept keeps = by_ran s.ran
    where
      away : Backs s (goes_to Delays s)
      away = λ on quiet more c. from_phase s Effects Delays s.time s.tasks more is (λ t at h. may.to_delays s.time t more h) c

      by_left : (i : ℕ) (t : Task) (x : Piece) (rest : List Piece) (b : Bool) → slice_get s.tasks i ≡ Some t → t.pieces ≡ x ∷ rest
          → Backs s (if b then takes_effect y i t (done y x t.vars rest) s else goes_to Delays s)
      by_left i t x rest true at has =
          acts_back s i t (done y x t.vars rest).act (done y x t.vars rest).vars (done y x t.vars rest).pieces is at same early
          (busy s i t x rest kept at has) (λ j v e. keeps i t x rest j v at has e)
      by_left i t x rest false at has = away

      by_pieces : (i : ℕ) (t : Task) (ps : List Piece) → slice_get s.tasks i ≡ Some t → t.pieces ≡ ps → Backs s (effect_of y i t ps s)
      by_pieces i t [] at has = away
      by_pieces i t (x ∷ rest) at has = by_left i t x rest (t.left == 0) at has

      by_task : (i : ℕ) (o : Option Task) → slice_get s.tasks i ≡ o → Backs s (effect_at y i o s)
      by_task i None at = away
      by_task i (Some t) at = by_pieces i t t.pieces at refl

      by_ran : (o : Option ℕ) → Backs s (effect_step y o s)
      by_ran None = away
      by_ran (Some i) = by_task i (slice_get s.tasks i) refl

  delays_back : (s : State) (o : Option (ℕ × Task)) → first_where (λ u. is_due s.time u.readiness) s.tasks ≡ o → s.phase ≡ Delays
      → threads_of s.tasks ≡ y.threads → s.time ≤ y.until → Backs s (delay_step y o s)
  delays_back s None none is same early = λ on quiet more c.
      from_phase s Delays Arriving s.time s.tasks more is
      (λ t at h. may.to_arriving s.time t more (first-none 0 (λ u. is_due s.time u.readiness) s.tasks none k t at) h) c
  delays_back s (Some f) found is same early = λ on quiet more c. by (slice_get s.tasks f.0) refl more c
    where
      at : (slice_get s.tasks f.0 ≡ Some f.1) × (is_due s.time f.1.readiness ≡ true)
      at = first-where (λ u. is_due s.time u.readiness) s.tasks f.0 f.1 found

      by : (o : Option Task) → slice_get s.tasks f.0 ≡ o → (more : List Event)
          → C (release_task y f.0 o s).0.phase (release_task y f.0 o s).0.time (release_task y f.0 o s).0.tasks more
          → C s.phase s.time s.tasks (named p (release_task y f.0 o s).1 ++ more)
      by None here = λ more c. c
      by (Some t) here = λ more c. places k f.0
          (λ e.
          let own : (t.thread ≡ th) × (unit_name p t.thread.unit ≡ th.name) = mine s.tasks f.0 t same here e in
          let is_f : f.1 ≡ t = same_Some f.1 t (sym at.0 ∙ here) in
          let D : Readiness → Type 0 = λ rd. is_due s.time rd ≡ true in
          let d : IsDueAt s.time t.readiness = due_is s.time t.readiness (subst D (ap (λ z. z.readiness) is_f) at.1) in
          let P : Phase → Type 0 = λ ph. C ph s.time s.tasks (By s.time (unit_name p t.thread.unit) (names.Release t.gate.value) ∷ more) in
          let N : Name → Type 0 = λ n. C Delays s.time s.tasks (By s.time n (names.Release t.gate.value) ∷ more) in
          let Q : Phase → Type 0 = λ ph. C ph s.time (change f.0 (released y.costs) s.tasks) more in
          let S : ℕ → Type 0 = λ j. C Delays s.time (change j (released y.costs) s.tasks) more in
          subst P (sym is) (subst N (sym own.1)
          (release_back s.tasks s.time d.at t more (ap (slice_get s.tasks) e ∙ here) own.0 early d.asleep d.due
          (subst S (sym e) (subst Q is c)))))
          (λ apart. release_other f.0 t s.phase s.time s.tasks more same here apart c)

  horizon_back : (s : State) → s.phase ≡ Arriving → Backs s (horizon_step y s)
  horizon_back s is = by (s.time == y.until)
    where
      by : (b : Bool) → Backs s (if b then (record s { stopped = true }, event.Horizon s.time ∷ []) else goes_to Use s)
      by true = λ on quiet more c. absurd (true≢false on)
      by false = λ on quiet more c. from_phase s Arriving Use s.time s.tasks more is (λ t at h. may.to_use s.time t more h) c

  arrive_back : (s : State) (a : Arrival) (others : List Arrival) (o : Option (ℕ × Task)) → first_where (λ t. t.thread.unit == a.task) s.tasks ≡ o
      → threads_of s.tasks ≡ y.threads → (th.unit ≡ a.task → ⊥)
      → Backs s (arrive_at y a o (record s { arrivals = others }))
  arrive_back s a others None e same apart = λ on quiet more c. c
  arrive_back s a others (Some f) e same apart = λ on quiet more c.
      let set_gate : Task → Task = λ u. record u { gate = record { value = a.value; open' = true } } in
      let s' : State = record s { arrivals = others; tasks = change f.0 set_gate s.tasks } in
      let at : (slice_get s.tasks f.0 ≡ Some f.1) × ((f.1.thread.unit == a.task) ≡ true)
      = first-where (λ t. t.thread.unit == a.task) s.tasks f.0 f.1 e in
      let here : slice_get s.tasks f.0 ≡ Some f.1 = at.0 in
      let not_mine : k ≡ f.0 → ⊥ = λ q. apart (sym (ap (λ z. z.unit) (mine s.tasks f.0 f.1 same here q).0) ∙ eqb-true f.1.thread.unit a.task at.1) in
      unheard s.phase s.time s.tasks s.time (unit_name p a.task) (names.Arrive a.value) _
      tt
      (other_back f.0 set_gate s.phase s.time s.tasks _ not_mine
      (serve_backs f.0 (slice_get s'.tasks f.0) s' refl (change-threads f.0 set_gate s.tasks (λ u. refl) ∙ same) more c))

  arrivals_back : (s : State) (as' : List Arrival) → s.phase ≡ Arriving → threads_of s.tasks ≡ y.threads → Elsewhere as'
      → Backs s (arrival_step y as' s)
  arrivals_back s [] is same away = horizon_back s is
  arrivals_back s (a ∷ others) is same away = by (a.time == s.time)
    where
      by : (b : Bool) → Backs s (if b then arrive_at y a (first_where (λ t. t.thread.unit == a.task) s.tasks)
          (record s { arrivals = others }) else horizon_step y s)
      by true = arrive_back s a others (first_where (λ t. t.thread.unit == a.task) s.tasks) refl same away.0
      by false = horizon_back s is

  use_back : (s : State) (o : Option ℕ) → s.phase ≡ Use → Backs s (use_step y o s)
  use_back s None is = λ on quiet more c. from_phase s Use Effects (s.time + 1) s.tasks more is (λ t at h. may.to_next s.time t more h) c
  use_back s (Some i) is = λ on quiet more c.
      from_phase s Use Effects (s.time + 1) s.tasks more is (λ t at h. may.to_next s.time t more h)
      (face i (λ t. record t { left = t.left - 1; used = t.used + 1 }) Effects (s.time + 1) s.tasks more
      (λ u. record { readiness = refl; next = refl; value = refl }) c)

  -- a step
  step_back : (s : State) → s.stopped ≡ false → IsTimely y.until s.phase s.time → threads_of s.tasks ≡ y.threads → IsKept s.tasks → KeepsAway s.tasks
      → Elsewhere s.arrivals → Backs s (step y s)
  step_back s on timely same kept keeps away =
      let goes : step y s ≡ step_in s.phase y s = ap (λ b. if b then (s, []) else step_in s.phase y s) on in
      let P : Next → Type 0 = λ next. Backs s next in
      subst P (sym goes) (by s.phase refl timely)
    where
      by : (phase : Phase) → s.phase ≡ phase → IsTimely y.until phase s.time → Backs s (step_in phase y s)
      by Effects is t = effects_back s is same t kept keeps
      by Delays is t = delays_back s (first_where (λ u. is_due s.time u.readiness) s.tasks) refl is same t
      by Arriving is t = arrivals_back s s.arrivals is same away
      by Use is t = use_back s (dispatched s.tasks s.orders) is

  -- at the horizon
  at_horizon : (s : State) → s.phase ≡ Arriving → s.time ≡ y.until → C s.phase s.time s.tasks (Horizon s.time ∷ [])
  at_horizon s is now t at =
      let P : Phase → Type 0 = λ ph. Holds ph s.time t (Horizon s.time ∷ []) in
      let T : ℕ → Type 0 = λ n. Holds Arriving n t (Horizon n ∷ []) in
      subst P (sym is) (subst T (sym now) (may.at_last t))

  -- from a state on
  pub claimed_from : (n : ℕ) (s : State) → threads_of s.tasks ≡ y.threads → IsTimely y.until s.phase s.time → s.stopped ≡ false
      → ((m : ℕ) → IsKept (run y m s).0.tasks) → ((m : ℕ) → KeepsAway (run y m s).0.tasks) → ((m : ℕ) → Elsewhere (run y m s).0.arrivals)
      → (run y n s).0.stopped ≡ true → list_any is_stopping (run y n s).1 ≡ false → C s.phase s.time s.tasks (named p (run y n s).1)
  claimed_from zero s same timely on kept keeps away stops quiet = absurd (true≢false (sym stops ∙ on))
  claimed_from (suc n) s same timely on kept keeps away stops quiet = by (step-walks y y.threads s on timely same)
      (λ same' timely' on'. claimed_from n (step y s).0 same' timely' on' (λ m. kept (suc m)) (λ m. keeps (suc m)) (λ m. away (suc m)) stops
      (quiet_back (step y s).1 (run y n (step y s).0).1 quiet))
    where
      by : Walks y y.threads s (step y s)
          → (threads_of (step y s).0.tasks ≡ y.threads → IsTimely y.until (step y s).0.phase (step y s).0.time → (step y s).0.stopped ≡ false
          → C (step y s).0.phase (step y s).0.time (step y s).0.tasks (named p (run y n (step y s).0).1))
          → C s.phase s.time s.tasks (named p ((step y s).1 ++ (run y n (step y s).0).1))
      by (inl f) later =
          let P : List Event → Type 0 = λ es. C s.phase s.time s.tasks es in
          subst P (sym (named-append p (step y s).1 (run y n (step y s).0).1))
          (step_back s on timely same (kept 0) (keeps 0) (away 0) f.on (quiet_front (step y s).1 (run y n (step y s).0).1 quiet)
          (named p (run y n (step y s).0).1) (later f.threads f.timely f.on))
      by (inr (inl e)) later =
          let none : (run y n (step y s).0).1 ≡ [] = ap (λ next. next.1) (stopped_stays y n (step y s).0 e.stopped) in
          let P : List machine.Event → Type 0 = λ es. C s.phase s.time s.tasks (named p (es ++ (run y n (step y s).0).1)) in
          let Q : List machine.Event → Type 0 = λ es. C s.phase s.time s.tasks (named p (event.Horizon s.time ∷ es)) in
          subst P (sym e.told) (subst Q (sym none) (at_horizon s e.phase e.now))
      by (inr (inr st)) later = absurd (true≢false (sym st ∙ quiet_front (step y s).1 (run y n (step y s).0).1 quiet))
