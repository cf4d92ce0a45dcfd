-- What a step does to the requests that the tasks may still make of one of them: none but by its starter, and at most one from each release of it.
use Rattle.std.specs.Prelude.{◌≡◌, ℕ, zero, suc, ◌+◌, ◌-◌, ◌≤◌, Bool, true, false, ◌&&◌, ◌||◌, ◌==◌, List, [], ◌∷◌, ◌++◌, nat_lt, slice_get}
use Rattle.std.specs.Prelude.{Option, Some, None, if◌then◌else◌, refl}
use Rattle.std.proofs.Common.{sym, ◌∙◌, ap, subst, arith}
use Rattle.std.proofs.lemmas.List.{map-append}
use Rattle.seq_tree.specs.Lists.{change, first_where}
use Rattle.seq_tree.specs.Names.{Name, same_name}
use Rattle.seq_tree.specs.Dearest.{dearest}
use Rattle.seq_tree.specs.Variables.{Variables}
use Rattle.ada_tree.specs.Programs.{Program}
use Rattle.arrivals_tree.specs.declared.arrivals.Arrival.{Arrival}
use Rattle.trace_tree.specs.declared.event.Event as machine
use Rattle.trace_tree.specs.declared.event.Event.TheVariants as event
use Rattle.trace_tree.specs.Lines.{unit_name}
use Rattle.machine.specs.Systems.{System, TaskUnit}
use Rattle.machine.specs.Pieces.{Piece, Finishing, pieces}
use Rattle.machine.specs.Deeds.{Act, Silent, Print, Enter, Leave, Ask, Keep, Open, Ended, Finish, PieceOutcome, done}
use Rattle.machine.specs.States.{State, Task, Phase, Effects, Delays, Arriving, Use, Resource, Object, Control, Held, opening}
use Rattle.machine.specs.Dispatch.{dispatched}
use Rattle.machine.specs.Releases.{Next, after, going, released, release, release_task, serve, serve_task, is_waiting}
use Rattle.machine.specs.Effects.{acted, takes_effect, entry, entered_at, stopped_at, exit, ended, inside_now, outside_now, outside_by}
use Rattle.machine.specs.Effects.{ceiling_of, lent, task_unit}
use Rattle.machine.specs.Steps.{step, step_in, goes_to, effect_of, effect_at, effect_step, delay_step, horizon_step, arrive_at, arrival_step}
use Rattle.machine.specs.Steps.{use_step, is_due}
use Rattle.machine.specs.Meanings.{run}
use Rattle.guarantee.specs.Events.{Event, named, named_event}
use Rattle.law_releases.proofs.RequestPieces.{asks}
use Rattle.law_releases.proofs.RequestNotices.{IsNamed, unit-at, no_first_pieces}
use Rattle.law_tasks.proofs.Shared.Aheads.{is_quiet}
use Rattle.law_tasks.proofs.Shared.Acts.{Source, From_quiet, From_put, From_entry, From_leave, From_ended, From_finish, source}
use Rattle.law_calls.proofs.Shared.Remaining.{rest, CoversCalls, rest-block}
use Rattle.law_releases.proofs.StarterCounts.{requests_of, made, count-done}
use Rattle.std.proofs.lemmas.Option.{same_Some}
use Rattle.std.proofs.lemmas.Bool.{true≢false, eqb-true, eq-eqb, ne_eqb}
use Rattle.law_releases.specs.Starting.{AsksOnce}
use Rattle.guarantee.specs.Bounded.{Either}
use Rattle.law_lists.proofs.Shared.Places.{changed}
use Rattle.law_written.proofs.Shared.Back.{places}
use Rattle.law_lists.proofs.Shared.Facts.{first-where}
use Rattle.law_lists.proofs.Shared.Weights.{counting}
use Rattle.law_calls.proofs.Shared.Tasks.{going-pieces, going-thread, released-pieces}

module _ (p : Program) (y : System) (through : Name → Name → ℕ) (j : ℕ) (th : TaskUnit) (is : IsNamed p y j th) (first : ℕ) (sth : TaskUnit)
    (starts' : IsNamed p y first sth) (c : CoversCalls y (requests_of through j))
    (blocks : (k : ℕ) (z : TaskUnit) → slice_get y.threads k ≡ Some z → dearest (counting through) z.block ≤ (if k == first then 1 else 0)) where
  abbrev n : List Piece → ℕ
  n = rest (requests_of through j)

  -- the requests that a task may still make
  abbrev pub allow : ℕ → Bool → ℕ
  allow k may = if k == first then (if may then 1 else 0) else 0

  abbrev pub Bound : List Task → Bool → Type 0
  Bound ts may = (k : ℕ) (u : Task) → slice_get ts k ≡ Some u → n u.pieces ≤ allow k may

  abbrev pub Onward : Bool → List Event → Bool → Type 0
  Onward may told may' = (more : List Event) → AsksOnce sth.name th.name may' more → AsksOnce sth.name th.name may (told ++ more)

  abbrev pub Outcome : Bool → Next → Type 0
  Outcome may next = (may' : Bool) × Bound next.0.tasks may' × Onward may (named p next.1) may'

  abbrev AreWritten : List Task → Type 0
  AreWritten ts = (k : ℕ) (u : Task) → slice_get ts k ≡ Some u → slice_get y.threads k ≡ Some u.thread

  -- a change of one task
  bound_change : (i : ℕ) (f : Task → Task) (ts : List Task) (may : Bool) → Bound ts may
      → ((u : Task) → slice_get ts i ≡ Some u → n (f u).pieces ≤ allow i may) → Bound (change i f ts) may
  bound_change i f ts may bound new k u at = changed i k f ts u at
      (λ x e there same. subst (λ z. n z.pieces ≤ allow k may) (sym same) (subst (λ m. n (f x).pieces ≤ allow m may) (sym e) (new x there)))
      (λ apart there. bound k u there)

  bound_same : (i : ℕ) (f : Task → Task) (ts : List Task) (may : Bool) → Bound ts may → ((u : Task) → (f u).pieces ≡ u.pieces)
      → Bound (change i f ts) may
  bound_same i f ts may bound same = bound_change i f ts may bound (λ u at. subst (λ ps. n ps ≤ allow i may) (sym (same u)) (bound i u at))

  -- a change of the starter
  bound_first : (i : ℕ) (f : Task → Task) (ts : List Task) (may may' : Bool) → i ≡ first → Bound ts may
      → ((u : Task) → slice_get ts i ≡ Some u → n (f u).pieces ≤ (if may' then 1 else 0)) → Bound (change i f ts) may'
  bound_first i f ts may may' e bound new k u at = changed i k f ts u at own other
    where
      own : (x : Task) → k ≡ i → slice_get ts i ≡ Some x → u ≡ f x → n u.pieces ≤ allow k may'
      own x is there same =
          let yes' : (k == first) ≡ true = eq-eqb k first (is ∙ e) in
          subst (λ b. n u.pieces ≤ (if b then (if may' then 1 else 0) else 0)) (sym yes')
          (subst (λ z. n z.pieces ≤ (if may' then 1 else 0)) (sym same) (new x there))

      other : (k ≡ i → ⊥) → slice_get ts k ≡ Some u → n u.pieces ≤ allow k may'
      other apart there =
          let no : (k == first) ≡ false = ne_eqb k first (λ g. apart (g ∙ sym e)) in
          let h : n u.pieces ≤ 0 = subst (λ b. n u.pieces ≤ (if b then (if may then 1 else 0) else 0)) no (bound k u there) in
          subst (λ b. n u.pieces ≤ (if b then (if may' then 1 else 0) else 0)) (sym no) h

  written_change : (i : ℕ) (f : Task → Task) (ts : List Task) → AreWritten ts → ((u : Task) → (f u).thread ≡ u.thread) → AreWritten (change i f ts)
  written_change i f ts written same k u at = changed i k f ts u at
      (λ x e there is. ap (slice_get y.threads) e ∙ written i x there ∙ ap Some (sym (ap (λ z. z.thread) is ∙ same x)))
      (λ apart there. written k u there)

  -- whether a name is the starter's, and the task's
  name_first : (k : ℕ) (z : TaskUnit) → slice_get y.threads k ≡ Some z → k ≡ first → same_name (unit_name p z.unit) sth.name ≡ true
  name_first k z at e =
      let same : z ≡ sth = same_Some z sth (sym at ∙ ap (slice_get y.threads) e ∙ starts'.at) in
      ap (λ w. same_name (unit_name p w.unit) sth.name) same ∙ starts'.own

  name_own : (k : ℕ) (z : TaskUnit) → slice_get y.threads k ≡ Some z → k ≡ j → same_name (unit_name p z.unit) th.name ≡ true
  name_own k z at e =
      let same : z ≡ th = same_Some z th (sym at ∙ ap (slice_get y.threads) e ∙ is.at) in
      ap (λ w. same_name (unit_name p w.unit) th.name) same ∙ is.own

  -- one of two, by a test
  where_true : (b : Bool) (P Q : Type 0) → b ≡ true → P → Either b P Q
  where_true true P Q e h = h
  where_true false P Q e h = absurd (true≢false (sym e))

  where_false : (b : Bool) (P Q : Type 0) → b ≡ false → Q → Either b P Q
  where_false true P Q e h = absurd (true≢false e)
  where_false false P Q e h = h

  -- the pieces of an activation
  released_count : (u : Task) (k : ℕ) → slice_get y.threads k ≡ Some u.thread → n (released y.costs u).pieces ≤ (if k == first then 1 else 0)
  released_count u k at =
      let h : n (pieces u.thread.block (Finishing ∷ [])) ≡ dearest (counting through) u.thread.block + 0
      = rest-block (requests_of through j) u.thread.block (Finishing ∷ []) in
      let b : dearest (counting through) u.thread.block ≤ (if k == first then 1 else 0) = blocks k u.thread at in
      subst (λ ps. n ps ≤ (if k == first then 1 else 0)) (sym (released-pieces y.costs u)) (omega (arith, h, b))

  -- a release
  release_goes : (may : Bool) (k : ℕ) (o : Option Task) (s : State) → AreWritten s.tasks → Bound s.tasks may → slice_get s.tasks k ≡ o
      → Outcome may (release_task y k o s)
  release_goes may k None s written bound at = (may, bound, λ more a. a)
  release_goes may k (Some u) s written bound at = places k first own other
    where
      own : k ≡ first → Outcome may (release_task y k (Some u) s)
      own e = (
        true,
        bound_first k (released y.costs) s.tasks may true e bound (λ v there. subst (λ b. n (released y.costs v).pieces ≤ (if b then 1 else 0))
            (eq-eqb k first e) (released_count v k (written k v there))),
        λ more a. where_true (same_name (unit_name p u.thread.unit) sth.name) _ _ (name_first k u.thread (written k u at) e) a,
      )

      other : (k ≡ first → ⊥) → Outcome may (release_task y k (Some u) s)
      other apart =
          let no : (k == first) ≡ false = ne_eqb k first apart in (
            may,
            bound_change k (released y.costs) s.tasks may bound (λ v there.
                let h : n (released y.costs v).pieces ≤ 0
                = subst (λ b. n (released y.costs v).pieces ≤ (if b then 1 else 0)) no (released_count v k (written k v there)) in
                subst (λ b. n (released y.costs v).pieces ≤ (if b then (if may then 1 else 0) else 0)) (sym no) h),
            λ more a. where_false (same_name (unit_name p u.thread.unit) sth.name) _ _ (starts'.others k u.thread (written k u at) apart) a,
          )

  serve_goes : (may : Bool) (k : ℕ) (s : State) → AreWritten s.tasks → Bound s.tasks may → Outcome may (serve y k s)
  serve_goes may k s written bound = by_task (slice_get s.tasks k)
    where
      by_test : (b : Bool) → Outcome may (if b then release y k s else (s, []))
      by_test true = release_goes may k (slice_get s.tasks k) s written bound refl
      by_test false = (may, bound, λ more a. a)

      by_task : (o : Option Task) → Outcome may (serve_task y k o s)
      by_task None = (may, bound, λ more a. a)
      by_task (Some u) = by_test (is_waiting u.readiness && u.gate.open')

  -- an event, and then others
  one_first : (may may1 : Bool) (e : machine.Event) (next : Next)
      → ((more : List Event) → AsksOnce sth.name th.name may1 more → AsksOnce sth.name th.name may (named_event p e ∷ more)) → Outcome may1 next
      → Outcome may (after (e ∷ []) next)
  one_first may may1 e next first' o = (o.0, o.1, λ more a. first' (named p next.1 ++ more) (o.2 more a))

  -- a deed
  module _ (may : Bool) (s : State) (written : AreWritten s.tasks) (bound : Bound s.tasks may) (i : ℕ) (u : Task) (at : slice_get s.tasks i
      ≡ Some u) where
    change_goes : (f : Task → Task) (ps : List Piece) → ((z : Task) → (f z).pieces ≡ ps) → n ps ≤ allow i may → Bound (change i f s.tasks) may
    change_goes f ps same few = bound_change i f s.tasks may bound (λ z there. subst (λ qs. n qs ≤ allow i may) (sym (same z)) few)

    entry_goes : (z : Resource) (e : List machine.Event) (vars : Variables) (ps : List Piece) → Onward may (named p e) may → n ps ≤ allow i may
        → Outcome may (entry y i u z e vars ps s)
    entry_goes z e vars ps on few = by z (nat_lt (ceiling_of y z) u.active)
      where
        by : (z : Resource) (b : Bool) → Outcome may (if b then stopped_at y u z s else entered_at y i z e vars ps s)
        by z true = (may, bound, λ more a. a)
        by (Object k) false = (
          may,
          change_goes (λ w. going y.costs (lent (Object k) s vars) ps
              (inside_now (Object k) (ceiling_of y (Object k)) w)) ps (λ w. going-pieces y.costs _ ps _) few,
          on,
        )
        by (Control k) false = (
          may,
          change_goes (λ w. going y.costs vars ps (inside_now (Control k) (ceiling_of y (Control k)) w)) ps (λ w.
              going-pieces y.costs vars ps _) few,
          on,
        )

    -- the end of an activation
    finish_goes : (vars : Variables) (ps : List Piece) → Outcome may (acted y i u Finish vars ps s)
    finish_goes vars ps = places i first own other
      where
        s' : State
        s' = record s { tasks = change i (ended vars) s.tasks }

        written' : AreWritten s'.tasks
        written' = written_change i (ended vars) s.tasks written (λ z. refl)

        own : i ≡ first → Outcome may (acted y i u Finish vars ps s)
        own e =
            one_first may false (event.End s.time u.thread.unit u.used) (serve y i s')
            (λ more a. where_true (same_name (unit_name p u.thread.unit) sth.name) _ _ (name_first i u.thread (written i u at) e) a)
            (serve_goes false i s' written' (bound_first i (ended vars) s.tasks may false e bound (λ z there. omega arith)))

        other : (i ≡ first → ⊥) → Outcome may (acted y i u Finish vars ps s)
        other apart =
            one_first may may (event.End s.time u.thread.unit u.used) (serve y i s')
            (λ more a. where_false (same_name (unit_name p u.thread.unit) sth.name) _ _ (starts'.others i u.thread (written i u at) apart) a)
            (serve_goes may i s' written' (bound_change i (ended vars) s.tasks may bound (λ z there. omega arith)))

    -- a request that has been made
    ended_goes : (k : ℕ) (v : Option ℕ) (vars : Variables) (ps : List Piece) → (z : TaskUnit) × (slice_get y.threads k ≡ Some z)
        → n ps + (if k == j then 1 else 0) ≤ allow i may → Outcome may (acted y i u (Ended k v) vars ps s)
    ended_goes k v vars ps valid few = places k j own other
      where
        f : Task → Task
        f w = going y.costs vars ps (outside_now w)

        thread_same : (w : Task) → (f w).thread ≡ w.thread
        thread_same w = going-thread y.costs vars ps (outside_now w) ∙ by w.inside
          where
            by : (hs : List Held) → (outside_by hs w).thread ≡ w.thread
            by [] = refl
            by (h ∷ hs) = refl

        s' : State
        s' = exit y i vars ps s

        written' : AreWritten s'.tasks
        written' = written_change i f s.tasks written thread_same

        only_first : (b m : Bool) → n ps + 1 ≤ (if b then (if m then 1 else 0) else 0) → (b ≡ true) × (m ≡ true) × (n ps ≤ 0)
        only_first true true h = (refl, refl, omega (arith, h))
        only_first true false h = absurd (omega (arith, h))
        only_first false m h = absurd (omega (arith, h))

        own : k ≡ j → Outcome may (acted y i u (Ended k v) vars ps s)
        own e =
            let one : (if k == j then 1 else 0) ≡ 1 = ap (λ b. let m : ℕ = if b then 1 else 0 in m) (eq-eqb k j e) in
            let h = only_first (i == first) may (omega (arith, few, one)) in
            one_first may false (event.Request s.time u.thread.unit (task_unit y k) v) (serve y k s')
            (λ more a. where_true (same_name (unit_name p (task_unit y k)) th.name) _ _
            (ap (λ m. same_name (unit_name p m) th.name) (unit-at y k valid.0 valid.1) ∙ name_own k valid.0 valid.1 e) (h.1, a))
            (serve_goes false k s' written' (bound_first i f s.tasks may false (eqb-true i first h.0) bound
            (λ w there. subst (λ qs. n qs ≤ 0) (sym (going-pieces y.costs vars ps (outside_now w))) h.2)))

        other : (k ≡ j → ⊥) → Outcome may (acted y i u (Ended k v) vars ps s)
        other apart =
            one_first may may (event.Request s.time u.thread.unit (task_unit y k) v) (serve y k s')
            (λ more a. where_false (same_name (unit_name p (task_unit y k)) th.name) _ _
            (ap (λ m. same_name (unit_name p m) th.name) (unit-at y k valid.0 valid.1) ∙ is.others k valid.0 valid.1 apart) a)
            (serve_goes may k s' written' (change_goes f ps (λ w. going-pieces y.costs vars ps (outside_now w)) (omega (arith, few))))

    act_goes : (a : Act) (vars : Variables) (ps : List Piece) → ((k : ℕ) (v : Option ℕ) → a ≡ Ended k v
        → (z : TaskUnit) × (slice_get y.threads k ≡ Some z)) → n ps + made j a ≤ allow i may → Outcome may (acted y i u a vars ps s)
    act_goes Silent vars ps valid few = (may, change_goes (going y.costs vars ps) ps (going-pieces y.costs vars ps) (omega (arith, few)), λ more a. a)
    act_goes (Print v) vars ps valid few
        = (may, change_goes (going y.costs vars ps) ps (going-pieces y.costs vars ps) (omega (arith, few)), λ more a. a)
    act_goes (Enter object op values) vars ps valid few = entry_goes (Object object) _ vars ps (λ more a. a) (omega (arith, few))
    act_goes (Leave object op values data') vars ps valid few = (
      may,
      change_goes (λ w. going y.costs vars ps (outside_now w)) ps (λ w. going-pieces y.costs vars ps (outside_now w)) (omega
          (arith, few)),
      λ more a. a,
    )
    act_goes (Ask task) vars ps valid few = entry_goes (Control task) [] vars ps (λ more a. a) (omega (arith, few))
    act_goes (Keep task v) vars ps valid few = (
      may,
      bound_same task _ (change i (going y.costs vars ps) s.tasks) may (change_goes (going y.costs vars ps) ps (going-pieces y.costs vars ps)
          (omega (arith, few))) (λ w. refl),
      λ more a. a,
    )
    act_goes (Open task) vars ps valid few = (
      may,
      bound_same task _ (change i (going y.costs vars ps) s.tasks) may (change_goes (going y.costs vars ps) ps (going-pieces y.costs vars ps)
          (omega (arith, few))) (λ w. refl),
      λ more a. a,
    )
    act_goes (Ended task v) vars ps valid few = ended_goes task v vars ps (valid task v refl) few
    act_goes Finish vars ps valid few = finish_goes vars ps

  -- what is asked of a state
  pub record MayAsk (s : State) : Type 0 where
    pub written : (k : ℕ) (u : Task) → slice_get s.tasks k ≡ Some u → slice_get y.threads k ≡ Some u.thread
    pub valid : (i : ℕ) (u : Task) (k : ℕ) → slice_get s.tasks i ≡ Some u → asks k u.pieces ≡ true → (z : TaskUnit) × (slice_get y.threads k ≡ Some z)
    pub arriving : (a : Arrival) (others : List Arrival) → s.arrivals ≡ a ∷ others → a.task ≡ th.unit → ⊥

  ended_asks : (k : ℕ) (v : Option ℕ) (x : Piece) (a : Act) (vars : Variables) (rest : List Piece) → Source y vars x a → a ≡ Ended k v
      → asks k (x ∷ rest) ≡ true
  ended_asks k v x a vars rest (From_quiet quiet) e = absurd (true≢false (sym quiet ∙ ap is_quiet e))
  ended_asks k v x a vars rest (From_put d) e = absurd cc
  ended_asks k v x a vars rest (From_entry unit name actuals o m g q leads) e = absurd cc
  ended_asks k v x a vars rest (From_leave o m ds outs stores caller) e = absurd cc
  ended_asks k v x a vars rest (From_ended task w) e = let same : task ≡ k = cc in ap (λ b. b || asks k rest) (eq-eqb task k same)
  ended_asks k v x a vars rest From_finish e = absurd cc

  module _ (may : Bool) (s : State) (bound : Bound s.tasks may) (fits : MayAsk s) where
    still : (next : Next) → next.0.tasks ≡ s.tasks → ((more : List Event) → AsksOnce sth.name th.name may more
        → AsksOnce sth.name th.name may (named p next.1 ++ more)) → Outcome may next
    still next tasks on = (may, subst (λ ts. Bound ts may) (sym tasks) bound, on)

    effects_step : Outcome may (effect_step y s.ran s)
    effects_step = by_ran s.ran
      where
        away : Outcome may (goes_to Delays s)
        away = still (goes_to Delays s) refl (λ more a. a)

        by_left : (i : ℕ) (u : Task) (x : Piece) (rest : List Piece) (b : Bool) → slice_get s.tasks i ≡ Some u → u.pieces ≡ x ∷ rest
            → Outcome may (if b then takes_effect y i u (done y x u.vars rest) s else goes_to Delays s)
        by_left i u x rest false at has = away
        by_left i u x rest true at has =
            let d : PieceOutcome = done y x u.vars rest in
            let few : n (x ∷ rest) ≤ allow i may = subst (λ ps. n ps ≤ allow i may) has (bound i u at) in
            let falls : n d.pieces + made j d.act ≤ n (x ∷ rest) = count-done y through j c x u.vars rest in
            act_goes may s fits.written bound i u at d.act d.vars d.pieces
            (λ k v e. fits.valid i u k at (ap (asks k) has ∙ ended_asks k v x d.act u.vars rest (source y x u.vars rest) e))
            (omega (arith, falls, few))

        by_pieces : (i : ℕ) (u : Task) (ps : List Piece) → slice_get s.tasks i ≡ Some u → u.pieces ≡ ps → Outcome may (effect_of y i u ps s)
        by_pieces i u [] at has = away
        by_pieces i u (x ∷ rest) at has = by_left i u x rest (u.left == 0) at has

        by_task : (i : ℕ) (o : Option Task) → slice_get s.tasks i ≡ o → Outcome may (effect_at y i o s)
        by_task i None at = away
        by_task i (Some u) at = by_pieces i u u.pieces at refl

        by_ran : (o : Option ℕ) → Outcome may (effect_step y o s)
        by_ran None = away
        by_ran (Some i) = by_task i (slice_get s.tasks i) refl

    delays_step : (o : Option (ℕ × Task)) → Outcome may (delay_step y o s)
    delays_step None = still (goes_to Arriving s) refl (λ more a. a)
    delays_step (Some (k, u)) = release_goes may k (slice_get s.tasks k) s fits.written bound refl

    horizon_goes : Outcome may (horizon_step y s)
    horizon_goes = by (s.time == y.until)
      where
        by : (b : Bool) → Outcome may (if b then (record s { stopped = true }, event.Horizon s.time ∷ []) else goes_to Use s)
        by true = still (record s { stopped = true }, event.Horizon s.time ∷ []) refl (λ more a. a)
        by false = still (goes_to Use s) refl (λ more a. a)

    arrivals_step : Outcome may (arrival_step y s.arrivals s)
    arrivals_step = by_items s.arrivals refl
      where
        by_found : (a : Arrival) (others : List Arrival) (o : Option (ℕ × Task)) → s.arrivals ≡ a ∷ others
            → first_where (λ t. t.thread.unit == a.task) s.tasks ≡ o
            → Outcome may (arrive_at y a o (record s { arrivals = others }))
        by_found a others None left e = still (record s { arrivals = others }, []) refl (λ more h. h)
        by_found a others (Some (k, u)) left e =
            let f = first-where (λ (t : Task). t.thread.unit == a.task) s.tasks k u e in
            let at : slice_get s.tasks k ≡ Some u = f.0 in
            let unit : u.thread.unit ≡ a.task = eqb-true u.thread.unit a.task f.1 in
            let apart : k ≡ j → ⊥ = λ same.
            let own : u.thread ≡ th = same_Some u.thread th (sym (fits.written k u at) ∙ ap (slice_get y.threads) same ∙ is.at) in
            fits.arriving a others left (sym unit ∙ ap (λ z. z.unit) own) in
            let other : same_name (unit_name p a.task) th.name ≡ false
            = ap (λ m. same_name (unit_name p m) th.name) (sym unit) ∙ is.others k u.thread (fits.written k u at) apart in
            let g : Task → Task = λ w. record w { gate = record { value = a.value; open' = true } } in
            let z : State = record s { arrivals = others; tasks = change k g s.tasks } in
            one_first may may (event.Arrive s.time a.task a.value) (serve y k z)
            (λ more h. where_false (same_name (unit_name p a.task) th.name) _ _ other h)
            (serve_goes may k z (written_change k g s.tasks fits.written (λ w. refl)) (bound_same k g s.tasks may bound (λ w. refl)))

        by_time : (a : Arrival) (others : List Arrival) (b : Bool) → s.arrivals ≡ a ∷ others
            → Outcome may (if b then arrive_at y a (first_where (λ t. t.thread.unit == a.task) s.tasks)
            (record s { arrivals = others }) else horizon_step y s)
        by_time a others true left = by_found a others (first_where (λ t. t.thread.unit == a.task) s.tasks) left refl
        by_time a others false left = horizon_goes

        by_items : (items : List Arrival) → s.arrivals ≡ items → Outcome may (arrival_step y items s)
        by_items [] left = horizon_goes
        by_items (a ∷ others) left = by_time a others (a.time == s.time) left

    ticks_step : (o : Option ℕ) → Outcome may (use_step y o s)
    ticks_step None = (may, bound, λ more a. a)
    ticks_step (Some i) = (may, bound_same i (λ t. record t { left = t.left - 1; used = t.used + 1 }) s.tasks may bound (λ u. refl), λ more a. a)

    any_step : Outcome may (step y s)
    any_step = by_stopped s.stopped
      where
        by_phase : (f : Phase) → Outcome may (step_in f y s)
        by_phase Effects = effects_step
        by_phase Delays = delays_step (first_where (λ t. is_due s.time t.readiness) s.tasks)
        by_phase Arriving = arrivals_step
        by_phase Use = ticks_step (dispatched s.tasks s.orders)

        by_stopped : (b : Bool) → Outcome may (if b then (s, []) else step_in s.phase y s)
        by_stopped true = still (s, []) refl (λ more a. a)
        by_stopped false = by_phase s.phase

  once_from : (steps : ℕ) (s : State) (may : Bool) → Bound s.tasks may → ((m : ℕ) → MayAsk (run y m s).0)
      → AsksOnce sth.name th.name may (named p (run y steps s).1)
  once_from zero s may bound fits = tt
  once_from (suc k) s may bound fits =
      let o : Outcome may (step y s) = any_step may s bound (fits 0) in
      let rest : List machine.Event = (run y k (step y s).0).1 in
      let parts : named p ((step y s).1 ++ rest) ≡ named p (step y s).1 ++ named p rest = map-append (named_event p) (step y s).1 rest in
      subst (AsksOnce sth.name th.name may) (sym parts) (o.2 (named p rest) (once_from k (step y s).0 o.0 o.1 (λ m. fits (suc m))))

  pub once_opening : (items : List Arrival) (steps : ℕ) → ((m : ℕ) → MayAsk (run y m (opening y items)).0)
      → AsksOnce sth.name th.name false (named p (run y steps (opening y items)).1)
  once_opening items steps fits = once_from steps (opening y items) false
      (λ k u at. subst (λ ps. n ps ≤ allow k false) (sym (no_first_pieces y k u at)) (omega arith)) fits
