-- What an effect does to how a task stands to its requests: a value is kept, the barrier opens, a request is made, an activation ends.
use Rattle.std.specs.Prelude.{◌≡◌, ◌⊎◌, ℕ, ◌≤◌, max, Bool, true, false, ◌||◌, List, [], ◌∷◌, nat_lt, slice_get, Option, Some, None}
use Rattle.std.specs.Prelude.{if◌then◌else◌, refl}
use Rattle.std.specs.List.{cons_option}
use Rattle.std.proofs.Common.{sym, ◌∙◌, ap, subst, arith, inl, inr}
use Rattle.seq_tree.specs.Lists.{change}
use Rattle.seq_tree.specs.Names.{same_name}
use Rattle.seq_tree.specs.Operations.{Signature}
use Rattle.seq_tree.specs.Variables.{Variables}
use Rattle.ada_tree.specs.Programs.{Program}
use Rattle.trace_tree.specs.declared.event.Event as machine
use Rattle.trace_tree.specs.declared.event.Event.TheVariants as event
use Rattle.trace_tree.specs.Lines.{unit_name}
use Rattle.ods_tree.specs.Walk.{only_if}
use Rattle.machine.specs.Systems.{System, TaskUnit, Requested}
use Rattle.machine.specs.Pieces.{Piece, Keeping, Opening}
use Rattle.machine.specs.Pieces as parts
use Rattle.machine.specs.Deeds.{Act, Silent, Print, Enter, Leave, Ask, Keep, Open, Ended, Finish}
use Rattle.machine.specs.States.{State, Task, Gate, Held, Resource, Object, Control, Readiness, Asleep, Waiting, Ready}
use Rattle.machine.specs.Releases.{Next, going, serve}
use Rattle.machine.specs.Effects.{acted, entry, entered_at, stopped_at, exit, go, ended, resting, inside_now, outside_now, outside_by}
use Rattle.machine.specs.Effects.{ceiling_of, lent, task_unit}
use Rattle.guarantee.specs.Requests.{Pending, Asked, Taken, Done}
use Rattle.law_releases.proofs.RequestPieces.{is_free, asks, Heads, keeps, opened, opened_keeps, keeps_asks, free_heads, free_keeps, is_plain, Part}
use Rattle.law_releases.proofs.RequestPieces.{Plainly, Asking, Kept, Opens, Ends}
use Rattle.law_releases.proofs.RequestStanding.{Idles, Someone, Queue, Stands, moved, IsAsBefore}
use Rattle.law_releases.proofs.Gates.{HaveHeads, NoKeeper, AsksAlone, stands-released, stands-waits, stands-idle, stands-keeps, stands-opens}
use Rattle.law_releases.proofs.Gates.{stands-made, Made}
use Rattle.law_releases.proofs.RequestNotices.{Onward, onward_none, AreGood, good_change, IsNamed, told, Outcome, serve_other, serve_waiting}
use Rattle.law_releases.proofs.RequestNotices.{serve_ready, serve_closed, Served, unit-at}
use Rattle.std.proofs.lemmas.Bool.{true≢false, eq-eqb, ne_eqb, false_from_ne_true}
use Rattle.std.proofs.lemmas.Option.{same_Some}
use Rattle.law_lists.proofs.Shared.Places.{change-at, changed}
use Rattle.law_releases.specs.Serving.{ServedWhile}
use Rattle.law_written.proofs.Shared.Back.{places}
use Rattle.law_releases.proofs.Readiness.{waits_not_ready, busy_ready}
use Rattle.law_calls.proofs.Shared.Tasks.{going-pieces, going-readiness, going-thread, going-gate}

-- a task is to requests what it was, as it enters and leaves sections
inside-keeps : (c : Resource) (n : ℕ) (t : Task) → IsAsBefore t (inside_now c n t)
inside-keeps c n t = (refl, refl, refl)

outside-keeps : (hs : List Held) (t : Task) → IsAsBefore t (outside_by hs t)
outside-keeps [] t = (refl, refl, refl)
outside-keeps (h ∷ hs) t = (refl, refl, refl)

going-keeps : (y : System) (vars : Variables) (ps : List Piece) (g : Task → Task) → ((t : Task) → IsAsBefore t (g t))
    → (t : Task) → IsAsBefore t (going y.costs vars ps (g t))
going-keeps y vars ps g keeps' t = (
  going-thread y.costs vars ps (g t) ∙ (keeps' t).0,
  going-gate y.costs vars ps (g t) ∙ (keeps' t).1,
  going-readiness y.costs vars ps (g
      t) ∙ (keeps' t).2,
)

module _ (p : Program) (y : System) (j : ℕ) (th : TaskUnit) (is : IsNamed p y j th) (sig : Signature) (ceiling separation jitter : ℕ)
    (external : Bool)
    (timing : th.timing ≡ Requested sig ceiling separation jitter external)
    (s : State) (q : List Pending) (idle : Option ℕ) (h : Stands th j s.time s.tasks q idle) (good : AreGood y s.tasks)
    (i : ℕ) (u : Task) (at : slice_get s.tasks i ≡ Some u) where
  abbrev Goes : Next → Type 0
  Goes next = Outcome p y j th is s.time q idle next

  -- other pieces, none of them a part of a request
  plain_change : (vars : Variables) (ps : List Piece) (g : Task → Task) → ((t : Task) → IsAsBefore t (g t))
      → keeps j u.pieces ≡ false → Heads ps → keeps j ps ≡ false → Stands th j s.time (change i (λ w. going y.costs vars ps (g w)) s.tasks) q idle
  plain_change vars ps g keeps' none heads none' =
      moved th j s.time s.tasks q idle i (λ w. going y.costs vars ps (g w)) h (λ w there.
      let same : w ≡ u = same_Some w u (sym there ∙ at) in
      inl (
        ap (λ z. keeps j z.pieces) same ∙ none,
        subst Heads (sym (going-pieces y.costs vars ps (g w))) heads,
        ap (keeps j) (going-pieces y.costs
            vars ps (g w)) ∙ none',
      ))
      (λ e. going-keeps y vars ps g keeps' h.t)

  quiet : (next : Next) → Stands th j s.time next.0.tasks q idle → told p y j th is next.1 ≡ [] → Goes next
  quiet next rel none = (q, idle, rel, subst (λ ns. Onward q idle ns q idle) (sym none) (onward_none q idle))

  entry_goes : (c : Resource) (es : List machine.Event) (vars : Variables) (ps : List Piece) → told p y j th is es ≡ [] → keeps j u.pieces ≡ false
      → Heads ps → keeps j ps ≡ false
      → Goes (entry y i u c es vars ps s)
  entry_goes c es vars ps none before heads none' = by c (nat_lt (ceiling_of y c) u.active)
    where
      by : (z : Resource) (b : Bool) → Goes (if b then stopped_at y u z s else entered_at y i z es vars ps s)
      by z true = quiet (stopped_at y u z s) h refl
      by (Object k) false = quiet (entered_at y i (Object k) es vars ps s)
          (plain_change (lent (Object k) s vars) ps (inside_now (Object k) (ceiling_of y (Object k)))
          (inside-keeps (Object k) (ceiling_of y (Object k))) before heads none') none
      by (Control k) false = quiet (entered_at y i (Control k) es vars ps s)
          (plain_change vars ps (inside_now (Control k) (ceiling_of y (Control k))) (inside-keeps (Control k) (ceiling_of y (Control k))) before heads
          none') none

  ready_own : (x : Piece) (rest : List Piece) → u.pieces ≡ x ∷ rest → u.readiness ≡ Ready
  ready_own x rest has = busy_ready u x rest (good.rests i u at) has

  -- the end of an activation of another task
  finish_other : (x : Piece) (rest : List Piece) (vars : Variables) (ps : List Piece) → (i ≡ j → ⊥) → u.pieces ≡ x ∷ rest → keeps j u.pieces ≡ false
      → Goes (acted y i u Finish vars ps s)
  finish_other x rest vars ps apart has none =
      let s' : State = record s { tasks = change i (ended vars) s.tasks } in
      let rel : Stands th j s.time s'.tasks q idle =
      moved th j s.time s.tasks q idle i (ended vars) h (λ w there.
      let same : w ≡ u = same_Some w u (sym there ∙ at) in
      inl (ap (λ z. keeps j z.pieces) same ∙ none, tt, refl)) (λ e. absurd (apart e)) in
      let good' : AreGood y s'.tasks = good_change y i (ended vars) s.tasks good (λ w. refl) (λ w there not_ready. refl) in
      let o = serve_other p y j th is i s' q idle apart good' rel in
      let here : same_name (unit_name p u.thread.unit) th.name ≡ false = is.others i u.thread (good.written i u at) apart in
      let tells : told p y j th is (event.End s.time u.thread.unit u.used ∷ (serve y i s').1) ≡ told p y j th is (serve y i s').1 =
      ap (λ b. cons_option (only_if b (Done s.time)) (told p y j th is (serve y i s').1)) here in
      (o.0, o.1, o.2, subst (λ ns. Onward q idle ns o.0 o.1) (sym tells) o.3)

  -- nobody has kept a value while the task's own pieces take effect
  nobody : (i ≡ j → AsksAlone j j s.tasks) → i ≡ j → keeps j u.pieces ≡ false → NoKeeper j s.tasks
  nobody alone e none k w there = false_from_ne_true _ (λ f.
      let place : k ≡ j = alone e k w there (keeps_asks j w.pieces (h.heads k w there) f) in
      let one : w ≡ u = same_Some w u (sym there ∙ ap (slice_get s.tasks) (place ∙ sym e) ∙ at) in
      true≢false (sym f ∙ ap (λ z. keeps j z.pieces) one ∙ none))

  -- the end of an activation of the task itself
  finish_own : (x : Piece) (rest : List Piece) (vars : Variables) (ps : List Piece) → i ≡ j → (i ≡ j → AsksAlone j j s.tasks) → u.pieces ≡ x ∷ rest
      → keeps j u.pieces ≡ false
      → Goes (acted y i u Finish vars ps s)
  finish_own x rest vars ps e alone has none = by q h.queue
    where
      s' : State
      s' = record s { tasks = change i (ended vars) s.tasks }

      own : u ≡ h.t
      own = same_Some u h.t (sym at ∙ ap (slice_get s.tasks) e ∙ h.at)

      t' : Task
      t' = ended vars u

      at' : slice_get s'.tasks j ≡ Some t'
      at' = subst (λ n. slice_get (change i (ended vars) s.tasks) n ≡ Some t') e (change-at i (ended vars) s.tasks u at)

      thread' : t'.thread ≡ th
      thread' = ap (λ z. z.thread) own ∙ h.written

      waits : t'.readiness ≡ Waiting
      waits = ap (λ z. resting z.timing u.next) thread' ∙ ap (λ z. resting z u.next) timing

      gate' : t'.gate ≡ h.t.gate
      gate' = ap (λ z. z.gate) own

      nobody' : NoKeeper j s.tasks
      nobody' = nobody alone e none

      heads' : HaveHeads s'.tasks
      heads' k w there = changed i k (ended vars) s.tasks w there (λ z e was same. subst (λ v. Heads v.pieces) (sym same) tt)
          (λ apart was. h.heads k w was)

      none' : NoKeeper j s'.tasks
      none' k w there = changed i k (ended vars) s.tasks w there (λ z e was same. ap (λ v. keeps j v.pieces) same) (λ apart was. nobody' k w was)

      idle_none : idle ≡ None
      idle_none = subst (λ r. Idles r s.time idle) (sym (ap (λ z. z.readiness) own) ∙ ready_own x rest has) h.idles

      done_first : (es : List machine.Event) → told p y j th is (event.End s.time u.thread.unit u.used ∷ es) ≡ Done s.time ∷ told p y j th is es
      done_first es = ap (λ b. cons_option (only_if b (Done s.time)) (told p y j th is es))
          (ap (λ z. same_name (unit_name p z.unit) th.name) thread' ∙ is.own)

      Ends' : List Pending → Next → Type 0
      Ends' r next = (q' : List Pending) × (idle' : Option ℕ) × Stands th j s.time next.0.tasks q' idle'
          × Onward r idle (told p y j th is (event.End s.time u.thread.unit u.used ∷ next.1)) q' idle'

      closed : (r : List Pending) → r ≡ [] → h.t.gate.open' ≡ false → Ends' r (serve y i s')
      closed r empty shut' =
          let quiet' : serve y i s' ≡ (s', []) = ap (λ n. serve y n s') e ∙ serve_closed p y j th is s' t' at' (ap (λ g. g.open') gate' ∙ shut') in
          subst (Ends' r) (sym quiet') (
            [],
            Some s.time,
            stands-idle th j s.time s.time s'.tasks t' at' thread' heads' none' waits (omega arith) (ap (λ g. g.open') gate' ∙ shut'),
            subst (λ ns. Onward r idle ns [] (Some s.time)) (sym (done_first []))
                (subst (λ o. Onward r o (Done s.time ∷ []) [] (Some s.time)) (sym idle_none)
                (subst (λ z. Onward z None (Done s.time ∷ []) [] (Some s.time)) (sym empty) (λ more a. a))),
          )

      open_or : (b : Bool) → h.t.gate.open' ≡ b → (h.t.gate.open' ≡ true → Someone (opened j) s.tasks) → h.t.gate.open' ≡ false
      open_or false f some = f
      open_or true f some = let z = some f in absurd (true≢false (sym (opened_keeps j z.1.pieces z.3) ∙ nobody' z.0 z.1 z.2))

      value_of : (r : Pending) → (r.value ≡ h.t.gate.value) ⊎ Someone (keeps j) s.tasks → r.value ≡ h.t.gate.value
      value_of r (inl f) = f
      value_of r (inr z) = absurd (true≢false (sym z.3 ∙ nobody' z.0 z.1 z.2))

      by : (r : List Pending) → Queue j s.time s.tasks h.t.readiness h.t.gate r → Ends' r (serve y i s')
      by [] queue = closed [] refl (open_or h.t.gate.open' refl queue)
      by (r ∷ []) queue =
          let opens : t'.gate.open' ≡ true = ap (λ g. g.open') gate' ∙ queue.0 in
          let served : Served p y j th is s' t' (serve y i s')
          = subst (λ n. Served p y j th is s' t' (serve y n s')) (sym e) (serve_waiting p y j th is s' t' at' thread' waits opens) in
          let value : t'.gate.value ≡ r.value = ap (λ g. g.value) gate' ∙ sym (value_of r queue.3) in
          let tells : told p y j th is (event.End s.time u.thread.unit u.used ∷ (serve y i s').1) ≡ Done s.time ∷ Taken s.time t'.gate.value ∷ [] =
          done_first (serve y i s').1 ∙ ap (λ ns. Done s.time ∷ ns) served.tells in
          let latest : s.time ≡ max r.time s.time = let le : r.time ≤ s.time = queue.2 in omega (arith, le) in (
            [],
            None,
            subst (λ ts. Stands th j s.time ts [] None) (sym served.tasks) (stands-released y.costs th j s.time s'.tasks t' at' thread' heads' none'),
            subst (λ ns. Onward (r ∷ []) idle ns [] None) (sym tells)
                (subst (λ o. Onward (r ∷ []) o (Done s.time ∷ Taken s.time t'.gate.value ∷ []) [] None) (sym idle_none)
                (λ more a. (latest, value, a))),
          )
      by (r ∷ r' ∷ rs) queue = absurd queue

  -- a request of another task
  made_other : (k : ℕ) (v : Option ℕ) (vars : Variables) (ps : List Piece) → (k ≡ j → ⊥) → ((w : TaskUnit) × (slice_get y.threads k ≡ Some w))
      → keeps j u.pieces ≡ false → is_free ps ≡ true
      → (x : Piece) (rest : List Piece) → u.pieces ≡ x ∷ rest → Goes (acted y i u (Ended k v) vars ps s)
  made_other k v vars ps apart valid none free x rest has =
      let s' : State = exit y i vars ps s in
      let rel : Stands th j s.time s'.tasks q idle
      = plain_change vars ps outside_now (λ t. outside-keeps t.inside t) none (free_heads ps free) (free_keeps j ps free) in
      let f : Task → Task = λ w. going y.costs vars ps (outside_now w) in
      let good' : AreGood y s'.tasks = good_change y i f s.tasks good (λ w. (going-keeps y vars ps outside_now (λ t. outside-keeps t.inside t) w).0)
      (λ w there not_ready. absurd (not_ready ((going-keeps y vars ps outside_now (λ t. outside-keeps t.inside t) w).2 ∙ ap (λ z. z.readiness)
      (same_Some w u (sym there ∙ at)) ∙ ready_own x rest has))) in
      let o = serve_other p y j th is k s' q idle apart good' rel in
      let here : same_name (unit_name p (task_unit y k)) th.name ≡ false
      = ap (λ n. same_name (unit_name p n) th.name) (unit-at y k valid.0 valid.1) ∙ is.others k valid.0 valid.1 apart in
      let tells : told p y j th is (event.Request s.time u.thread.unit (task_unit y k) v ∷ (serve y k s').1) ≡ told p y j th is (serve y k s').1 =
      ap (λ b. cons_option (only_if b (Asked s.time v)) (told p y j th is (serve y k s').1)) here in
      (o.0, o.1, o.2, subst (λ ns. Onward q idle ns o.0 o.1) (sym tells) o.3)

  -- a request of the task itself
  made_own : (k : ℕ) (v : Option ℕ) (vars : Variables) (ps : List Piece) → k ≡ j → AsksAlone j i s.tasks → u.pieces ≡ parts.Requested j v ∷ ps
      → is_free ps ≡ true → Goes (acted y i u (Ended k v) vars ps s)
  made_own k v vars ps e alone has free = by m.t.readiness refl
    where
      f : Task → Task
      f w = going y.costs vars ps (outside_now w)

      s' : State
      s' = exit y i vars ps s

      m : Made th j s.time s.tasks q idle h i u at alone f (going-keeps y vars ps outside_now (λ t. outside-keeps t.inside t)) v
      m = stands-made th j s.time s.tasks q idle h i u at alone f (going-keeps y vars ps outside_now (λ t. outside-keeps t.inside t)) v ps free has
          (λ w. going-pieces y.costs vars ps (outside_now w))

      asked_first : (es : List machine.Event) → told p y j th is (event.Request s.time u.thread.unit (task_unit y k) v ∷ es)
          ≡ Asked s.time v ∷ told p y j th is es
      asked_first es = ap (λ b. cons_option (only_if b (Asked s.time v)) (told p y j th is es))
          (ap (λ n. same_name (unit_name p (task_unit y n)) th.name) e ∙ ap (λ n. same_name (unit_name p n) th.name) (unit-at y j th is.at) ∙ is.own)

      Ends' : Next → Type 0
      Ends' next = (q' : List Pending) × (idle' : Option ℕ) × Stands th j s.time next.0.tasks q' idle'
          × Onward q idle (told p y j th is (event.Request s.time u.thread.unit (task_unit y k) v ∷ next.1)) q' idle'

      idle_is : Idles m.t.readiness s.time idle
      idle_is = subst (λ r. Idles r s.time idle) (sym m.readiness) h.idles

      waits_on : (r : List Pending) → idle ≡ None → Onward r idle (Asked s.time v ∷ []) (record { time = s.time; value = m.t.gate.value } ∷ []) None
      waits_on [] none = subst (λ o. Onward [] o (Asked s.time v ∷ []) (record { time = s.time; value = m.t.gate.value } ∷ []) None) (sym none)
          (λ more a. subst (λ w. ServedWhile (Some (record { time = s.time; value = w })) None more) m.value a)
      waits_on (r ∷ rs) none = subst (λ o. Onward (r ∷ rs) o (Asked s.time v ∷ []) (record { time = s.time; value = m.t.gate.value } ∷ []) None)
          (sym none) (λ more a. tt)

      serves_on : (r : List Pending) (since : ℕ) → since ≤ s.time → Queue j s.time s.tasks h.t.readiness h.t.gate r → h.t.readiness ≡ Waiting
          → Onward r (Some since) (Asked s.time v ∷ Taken s.time m.t.gate.value ∷ []) [] None
      serves_on [] since le queue waits = λ more a. (let latest : s.time ≡ max s.time since = omega (arith, le) in latest, m.value, a)
      serves_on (r ∷ []) since le queue waits = λ more a. absurd (waits_not_ready (sym waits ∙ queue.1))
      serves_on (r ∷ r' ∷ rs) since le queue waits = λ more a. absurd queue

      by : (r : Readiness) → m.t.readiness ≡ r → Goes (acted y i u (Ended k v) vars ps s)
      by Ready ready =
          let same : serve y k s' ≡ (s', []) = ap (λ n. serve y n s') e ∙ serve_ready p y j th is s' m.t m.at ready in
          let none : idle ≡ None = subst (λ r. Idles r s.time idle) ready idle_is in
          subst Ends' (sym same) (
            record { time = s.time; value = m.t.gate.value } ∷ [],
            None,
            stands-waits th j s.time s'.tasks m.t m.at m.written m.heads m.none ready m.opens,
            subst (λ ns. Onward q idle ns (record { time = s.time; value = m.t.gate.value } ∷ []) None) (sym (asked_first [])) (waits_on q none),
          )
      by Waiting waits =
          let served : Served p y j th is s' m.t (serve y k s')
          = subst (λ n. Served p y j th is s' m.t (serve y n s')) (sym e) (serve_waiting p y j th is s' m.t m.at m.written waits m.opens) in
          let since : (since : ℕ) × (idle ≡ Some since) × (since ≤ s.time) = subst (λ r. Idles r s.time idle) waits idle_is in
          let tells : told p y j th is (event.Request s.time u.thread.unit (task_unit y k) v ∷ (serve y k s').1)
          ≡ Asked s.time v ∷ Taken s.time m.t.gate.value ∷ [] =
          asked_first (serve y k s').1 ∙ ap (λ ns. Asked s.time v ∷ ns) served.tells in (
            [],
            None,
            subst (λ ts. Stands th j s.time ts [] None) (sym served.tasks) (stands-released y.costs th j s.time s'.tasks m.t m.at m.written
                m.heads m.none),
            subst (λ ns. Onward q idle ns [] None) (sym tells) (subst (λ o. Onward q o (Asked s.time v ∷ Taken s.time m.t.gate.value ∷ []) [] None)
                (sym since.1) (serves_on q since.0 since.2 h.queue (sym m.readiness ∙ waits))),
          )
      by (Asleep until) sleeps = absurd (subst (λ r. Idles r s.time idle) sleeps idle_is)

  -- a control structure that is another task's
  gate_other : (k i' : ℕ) (g : Gate → Gate) (ts : List Task) → (k ≡ j → ⊥) → Stands th j s.time ts q idle
      → Stands th j s.time (change k (λ w. record w { gate = g w.gate }) ts) q idle
  gate_other k i' g ts apart rel = moved th j s.time ts q idle k (λ w. record w { gate = g w.gate }) rel (λ w there. inr refl) (λ e. absurd (apart e))

  -- what is asked of the tasks while the pieces of one take effect
  pub record MayAct : Type 0 where
    pub asking : asks j u.pieces ≡ true → AsksAlone j i s.tasks
    pub finishing : i ≡ j → AsksAlone j j s.tasks
    pub valid : (k : ℕ) → asks k u.pieces ≡ true → (w : TaskUnit) × (slice_get y.threads k ≡ Some w)

  plain_goes : (x : Piece) (rest : List Piece) (a : Act) (vars : Variables) (ps : List Piece) → MayAct → u.pieces ≡ x ∷ rest → is_plain a ≡ true
      → keeps j u.pieces ≡ false → is_free ps ≡ true → Goes (acted y i u a vars ps s)
  plain_goes x rest Silent vars ps may has plain none free
      = quiet (go y i vars ps s, []) (plain_change vars ps (λ w. w) (λ t. (refl, refl, refl)) none (free_heads ps free) (free_keeps j ps free)) refl
  plain_goes x rest (Print v) vars ps may has plain none free
      = quiet (acted y i u (Print v) vars ps s) (plain_change vars ps (λ w. w) (λ t. (refl, refl, refl)) none (free_heads ps free)
      (free_keeps j ps free)) refl
  plain_goes x rest (Enter object op values) vars ps may has plain none free
      = entry_goes (Object object) _ vars ps refl none (free_heads ps free) (free_keeps j ps free)
  plain_goes x rest (Leave object op values data') vars ps may has plain none free
      = quiet (acted y i u (Leave object op values data') vars ps s)
      (plain_change vars ps outside_now (λ t. outside-keeps t.inside t) none (free_heads ps free) (free_keeps j ps free)) refl
  plain_goes x rest (Ask task) vars ps may has plain none free = absurd (true≢false (sym plain))
  plain_goes x rest (Keep task v) vars ps may has plain none free = absurd (true≢false (sym plain))
  plain_goes x rest (Open task) vars ps may has plain none free = absurd (true≢false (sym plain))
  plain_goes x rest (Ended task v) vars ps may has plain none free = absurd (true≢false (sym plain))
  plain_goes x rest Finish vars ps may has plain none free =
      places i j (λ e. finish_own x rest vars ps e may.finishing has none) (λ apart. finish_other x rest vars ps apart has none)

  -- a deed
  pub act_goes : (x : Piece) (rest : List Piece) (a : Act) (vars : Variables) (ps : List Piece) → MayAct → u.pieces ≡ x ∷ rest → Part x rest a ps
      → Goes (acted y i u a vars ps s)
  act_goes x rest a vars ps may has (Plainly plain none free) = plain_goes x rest a vars ps may has plain (ap (keeps j) has ∙ none j) free
  act_goes x rest a vars ps may has (Asking {ps = qs} k v none free) =
      entry_goes (Control k) [] vars (Keeping k v ∷ Opening k ∷ parts.Requested k v ∷ qs) refl (ap (keeps j) has ∙ none j)
      (refl, refl, refl, free) refl
  act_goes x rest a vars ps may has (Kept k v qs free) = places k j own other
    where
      Goal : Type 0
      Goal = Goes (acted y i u (Keep k v) vars (Opening k ∷ parts.Requested k v ∷ qs) s)

      none : keeps j u.pieces ≡ false
      none = ap (keeps j) has

      own : k ≡ j → Goal
      own e =
          let asking : AsksAlone j i s.tasks = may.asking (ap (asks j) has ∙ ap (λ b. b || asks j qs) (eq-eqb k j e)) in
          let P : ℕ → Type 0 = λ n. Stands th j s.time (change n (λ w. record w { gate = record w.gate { value = v } })
          (change i (going y.costs vars (Opening n ∷ parts.Requested n v ∷ qs)) s.tasks)) q idle in
          let rel : P j = stands-keeps th j s.time s.tasks q idle h i u at asking (going y.costs vars (Opening j ∷ parts.Requested j v ∷ qs))
          (going-keeps y vars (Opening j ∷ parts.Requested j v ∷ qs) (λ w. w) (λ t. (refl, refl, refl))) v qs free none (λ w. refl) in
          quiet (acted y i u (Keep k v) vars (Opening k ∷ parts.Requested k v ∷ qs) s) (subst P (sym e) rel) refl

      other : (k ≡ j → ⊥) → Goal
      other apart =
          quiet (acted y i u (Keep k v) vars (Opening k ∷ parts.Requested k v ∷ qs) s) (gate_other k i (λ g. record g { value = v }) _ apart
          (plain_change vars (Opening k ∷ parts.Requested k v ∷ qs) (λ w. w) (λ t. (refl, refl, refl)) none (refl, free) (ne_eqb k j apart))) refl
  act_goes x rest a vars ps may has (Opens k v qs free) = places k j own other
    where
      Goal : Type 0
      Goal = Goes (acted y i u (Open k) vars (parts.Requested k v ∷ qs) s)

      own : k ≡ j → Goal
      own e =
          let asking : AsksAlone j i s.tasks = may.asking (ap (asks j) has ∙ ap (λ b. b || asks j qs) (eq-eqb k j e)) in
          let P : ℕ → Type 0 = λ n. Stands th j s.time (change n (λ w. record w { gate = record w.gate { open' = true } })
          (change i (going y.costs vars (parts.Requested n v ∷ qs)) s.tasks)) q idle in
          let rel : P j = stands-opens th j s.time s.tasks q idle h i u at asking (going y.costs vars (parts.Requested j v ∷ qs))
          (going-keeps y vars (parts.Requested j v ∷ qs) (λ w. w) (λ t. (refl, refl, refl))) v qs free
          (has ∙ ap (λ n. Opening n ∷ parts.Requested n v ∷ qs) e) (λ w. refl) in
          quiet (acted y i u (Open k) vars (parts.Requested k v ∷ qs) s) (subst P (sym e) rel) refl

      other : (k ≡ j → ⊥) → Goal
      other apart =
          quiet (acted y i u (Open k) vars (parts.Requested k v ∷ qs) s) (gate_other k i (λ g. record g { open' = true }) _ apart
          (plain_change vars (parts.Requested k v ∷ qs) (λ w. w) (λ t. (refl, refl, refl)) (ap (keeps j) has ∙ ne_eqb k j apart) free
          (ne_eqb k j apart))) refl
  act_goes x rest a vars ps may has (Ends k v qs free) =
      places k j
      (λ e. made_own k v vars qs e (may.asking (ap (asks j) has ∙ ap (λ b. b || asks j qs) (eq-eqb k j e)))
      (has ∙ ap (λ n. parts.Requested n v ∷ qs) e) free)
      (λ apart. made_other k v vars qs apart (may.valid k (ap (asks k) has ∙ ap (λ b. b || asks k qs) (eq-eqb k k refl)))
      (ap (keeps j) has ∙ ne_eqb k j apart) free (parts.Requested k v) qs has)
