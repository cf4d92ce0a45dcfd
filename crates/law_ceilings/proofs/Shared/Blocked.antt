-- Blocking: while a level is pending, others use at most the ticks of one section of one lower task.
use Rattle.std.specs.Prelude.{◌≡◌, ◌≢◌, ◌≤◌, ◌<◌, ◌+◌, ◌-◌, ℕ, zero, suc, Bool, true, false, nat_le, List, [], ◌∷◌, map, slice_get, Option, Some}
use Rattle.std.specs.Prelude.{None, option_map, ℤ, ◌<ℤ◌, ◌≤ℤ◌, ◌==◌, ◌⊎◌, if◌then◌else◌, refl}
use Rattle.std.proofs.Common.{sym, ◌∙◌, ap, subst, arith, le_trans, inl, inr}
use Rattle.std.proofs.lemmas.Int.{ints}
use Rattle.std.proofs.lemmas.Option.{none-some, same_Some, slice_get_within, slice_get-map}
use Rattle.seq_tree.specs.Lists.{change, first_where}
use Rattle.arrivals_tree.specs.declared.arrivals.Arrival.{Arrival}
use Rattle.trace_tree.specs.declared.event.Event.TheVariants as event
use Rattle.machine.specs.Systems.{System, TaskUnit, CallTarget, Plain, Protected, Request, Unknown, callee}
use Rattle.machine.specs.Pieces.{Piece, Idle, Store, Leaving, Calling, Working, Printing, Testing, Turning, Turned, Returning, Closing, Keeping}
use Rattle.machine.specs.Pieces.{Opening, Requested, Finishing}
use Rattle.machine.specs.Deeds.{done}
use Rattle.machine.specs.States.{State, Task, Phase, Effects, Delays, Arriving, Use, Ready, Resource, Held, opening, first_task}
use Rattle.machine.specs.Effects.{ceiling_of, acted}
use Rattle.machine.specs.Dispatch.{dispatched}
use Rattle.machine.specs.Releases.{Next, release, serve}
use Rattle.machine.specs.Steps.{goes_to, effect_of, effect_at, effect_step, is_due, delay_step, horizon_step, arrive_at, arrival_step, use_step}
use Rattle.machine.specs.Steps.{step_in, step}
use Rattle.machine.specs.Meanings.{run}
use Rattle.law_ceilings.proofs.Shared.Pieces.{closers, AreFit}
use Rattle.law_ceilings.specs.Sections.{Stands, sections}
use Rattle.law_ceilings.proofs.Shared.Kept.{IsSound, GoesBefore, IsKept, runner, Keeps}
use Rattle.law_ceilings.specs.Ceilings.{priority_at}
use Rattle.law_ceilings.specs.Limits.{CostsAtMost, IsLimited, is_of_level, others_in, others, IsPending, IsPendingIn, IsPendingThrough}
use Rattle.law_ceilings.proofs.Shared.Permissions.{AllLimited}
use Rattle.law_ceilings.proofs.Shared.Fitting.{ActFits, done-fits}
use Rattle.law_ceilings.proofs.Shared.Moves.{empty, numbered-at, holder-ready, halted, stacked-base}
use Rattle.law_ceilings.proofs.Dispatching.{IsFirst, dispatched-first, dispatched-some}
use Rattle.law_ceilings.proofs.Shared.Keeping.{tick, busy-ready, opening-keeps, step-keeps, acted-goes, release-goes, serve-goes, gate-keeps}
use Rattle.law_ceilings.proofs.Shared.Keeping.{due-rests}
use Rattle.law_ceilings.proofs.Shared.Stopping.{priority-at}
use Rattle.law_ceilings.proofs.Owing.{Owes, Owing, owes-mono, owes-tick, owes-first, IsCallPaid, IsPaidPiece, done-owes, later, weights}
use Rattle.law_ceilings.proofs.Shared.Paying.{limits-text, IsShort, IsCalm, IsPaid, ArePaid, closers-rest, high-inside, gate-paid, release-paid}
use Rattle.law_ceilings.proofs.Shared.Paying.{serve-paid, entry-calls, acted-paid}
use Rattle.law_lists.proofs.Shared.Facts.{first-where}
use Rattle.law_lists.proofs.Shared.Places.{changed}
use Rattle.std.proofs.lemmas.Bool.{false≢true}

module _ (y : System) (lev bound : ℕ) (l : IsLimited y lev bound) where
  -- a call of a task below the level is paid
  paid-piece : (i : ℕ) (p : Piece) (ps : List Piece) → priority_at y i < lev → AreFit (AllLimited y lev l.costing i) (p ∷ ps)
      → IsPaidPiece y lev l.costing.cost bound p
  paid-piece i Idle ps low fits = tt
  paid-piece i (Store target value) ps low fits = tt
  paid-piece i (Leaving condition) ps low fits = tt
  paid-piece i (Calling unit op actuals) ps low fits = by (callee y unit op) (l.calls unit op (fits.0 low))
    where
      by : (c : CallTarget) → CostsAtMost y lev bound l.costing (l.costing.cost unit op) c
          → IsCallPaid y lev l.costing.cost bound (l.costing.cost unit op) c
      by (Plain o) h = h.1
      by (Protected object j g o) h = (h.1, h.2)
      by (Request task) h = h
      by Unknown h = tt
  paid-piece i (Working ticks) ps low fits = tt
  paid-piece i (Printing value) ps low fits = tt
  paid-piece i (Testing condition block others') ps low fits = tt
  paid-piece i (Turning name at last body) ps low fits = tt
  paid-piece i (Turned name at last body) ps low fits = tt
  paid-piece i (Returning outs stores caller) ps low fits = tt
  paid-piece i (Closing object op data' outs stores caller) ps low fits = tt
  paid-piece i (Keeping task value) ps low fits = tt
  paid-piece i (Opening task) ps low fits = tt
  paid-piece i (Requested task value) ps low fits = tt
  paid-piece i Finishing ps low fits = tt

  -- inside a section whose ceiling reaches the level a call costs at most what is owed
  paid-again : (owed : ℕ) (p : Piece) (ps : List Piece) (section : Resource) (ss : List Resource) → closers (p ∷ ps) ≡ section ∷ ss
      → lev ≤ ceiling_of y section
      → IsPaidPiece y lev l.costing.cost bound p → Owes y lev l.costing.cost owed (later (weights y l.costing.cost) p) ps
      → IsPaidPiece y lev l.costing.cost owed p
  paid-again owed Idle ps section ss e high paid h = tt
  paid-again owed (Store target value) ps section ss e high paid h = tt
  paid-again owed (Leaving condition) ps section ss e high paid h = tt
  paid-again owed (Calling unit op actuals) ps section ss e high paid h = by (callee y unit op) paid
    where
      most : l.costing.cost unit op ≤ owed
      most = owes-first y lev l.costing.cost owed (l.costing.cost unit op) ps section ss e high h

      by : (c : CallTarget) → IsCallPaid y lev l.costing.cost bound (l.costing.cost unit op) c
          → IsCallPaid y lev l.costing.cost owed (l.costing.cost unit op) c
      by (Plain o) k = k
      by (Protected object j g o) k = (k.0, λ reach. most)
      by (Request task) k = (k.0, λ reach. most)
      by Unknown k = tt
  paid-again owed (Working ticks) ps section ss e high paid h = tt
  paid-again owed (Printing value) ps section ss e high paid h = tt
  paid-again owed (Testing condition block others') ps section ss e high paid h = tt
  paid-again owed (Turning name at last body) ps section ss e high paid h = tt
  paid-again owed (Turned name at last body) ps section ss e high paid h = tt
  paid-again owed (Returning outs stores caller) ps section ss e high paid h = tt
  paid-again owed (Closing object op data' outs stores caller) ps section ss e high paid h = tt
  paid-again owed (Keeping task value) ps section ss e high paid h = tt
  paid-again owed (Opening task) ps section ss e high paid h = tt
  paid-again owed (Requested task value) ps section ss e high paid h = tt
  paid-again owed Finishing ps section ss e high paid h = tt

  -- what is owed of the pieces behind the first one, once that has no ticks left
  owing-rest : (b n : ℕ) (ts : List Piece) (p : Piece) (ps : List Piece) → ts ≡ p ∷ ps → Owing y lev l.costing.cost b n ts
      → Owes y lev l.costing.cost b (later (weights y l.costing.cost) p) ps
  owing-rest b n ts p ps e h =
      let now : Owing y lev l.costing.cost b n (p ∷ ps) = subst (Owing y lev l.costing.cost b n) e h in
      owes-mono y lev l.costing.cost b (n + later (weights y l.costing.cost) p) (later (weights y l.costing.cost) p) ps (omega arith) now

  module _ (window : Bool) (owed : ℕ) where
    -- what is kept of all tasks of a state
    abbrev pub Pays : State → Type 0
    Pays s = ArePaid y lev bound l window owed (runner s.phase s.ran) s.tasks

    -- the effect of the first piece of the runner
    effect-paid : (i : ℕ) (t : Task) (p : Piece) (ps : List Piece) (s : State) → Stands s.tasks i t → t.readiness ≡ Ready
        → IsSound y (AllLimited y lev l.costing i) i t
        → ArePaid y lev bound l window owed (Some i) s.tasks → t.pieces ≡ p ∷ ps → t.left ≡ 0
        → ArePaid y lev bound l window owed (Some i) (acted y i t (done y p t.vars ps).act (done y p t.vars ps).vars
        (done y p t.vars ps).pieces s).0.tasks
    effect-paid i t p ps s stands ready sound paid e none =
        let d = done-fits y (AllLimited y lev l.costing i) ((limits-text y lev bound l).closed i) p t.vars ps
        (subst (AreFit (AllLimited y lev l.costing i)) e sound.fits) in
        acted-paid y lev bound l window owed i t s stands ready sound paid (done y p t.vars ps).act (done y p t.vars ps).vars
        (done y p t.vars ps).pieces
        (subst (λ xs. ActFits y (AllLimited y lev l.costing i) (closers xs) (done y p t.vars ps).act (done y p t.vars ps).pieces) (sym e) d.1)
        (λ is on low below. entry-calls y lev bound l window owed p t.vars ps (calm on low below) is)
        (λ low. done-owes y lev l.costing.cost bound p t.vars ps (pays low) (owing-rest bound t.left t.pieces p ps e ((paid i t stands).owes low)))
        (λ on low high. done-owes y lev l.costing.cost owed p t.vars ps (again on low high)
        (owing-rest owed t.left t.pieces p ps e ((paid i t stands).debts on low high)))
      where
        base : priority_at y i ≡ t.thread.priority
        base = priority-at y i t.thread sound.written

        fits : AreFit (AllLimited y lev l.costing i) (p ∷ ps)
        fits = subst (AreFit (AllLimited y lev l.costing i)) e sound.fits

        pays : t.thread.priority < lev → IsPaidPiece y lev l.costing.cost bound p
        pays low = paid-piece i p ps (let below : priority_at y i < lev = omega (arith, base) in below) fits

        calm : window ≡ true → t.thread.priority < lev → t.active < lev → IsCalm y lev bound l 0 (p ∷ ps)
        calm on low below = subst (λ n. IsCalm y lev bound l n (p ∷ ps)) none
            (subst (IsCalm y lev bound l t.left) e ((paid i t stands).calm on low below refl))

        again : window ≡ true → t.thread.priority < lev → lev ≤ t.active → IsPaidPiece y lev l.costing.cost owed p
        again on low high =
            let inside = high-inside y lev bound l i t (AllLimited y lev l.costing i) sound low high in
            paid-again owed p ps inside.0.section (map (λ h. h.section) inside.1)
            (ap closers (sym e) ∙ sound.closes ∙ ap (map (λ h. h.section)) inside.2) inside.3 (pays low)
            (owing-rest owed t.left t.pieces p ps e ((paid i t stands).debts on low high))

    -- the runner's pieces take no more effect
    halts : (i : ℕ) (ts : List Task) → ArePaid y lev bound l window owed (Some i) ts
        → ((t : Task) (h : Held) (hs : List Held) → Stands ts i t → t.inside ≡ h ∷ hs → 0 < t.left) → ArePaid y lev bound l window owed None ts
    halts i ts paid steady j u at = by (j == i) refl
      where
        by : (b : Bool) → (j == i) ≡ b → IsPaid y lev bound l window owed None j u
        by true is =
            let same : j ≡ i = grind arith in
            let p = paid j u at in
            record {
              rests = p.rests;
              short = p.short;
              steady = λ h hs e not. steady u h hs (subst (λ k. Stands ts k u) same at) e;
              owes = p.owes;
              debts = p.debts;
              calm = λ on low below run. absurd (none-some j run);
            }
        by false is =
            let other : i ≡ j → ⊥ = λ e. grind arith in
            let p = paid j u at in
            record {
              rests = p.rests;
              short = p.short;
              steady = λ h hs e not. p.steady h hs e (λ run. other (same_Some i j run));
              owes = p.owes;
              debts = p.debts;
              calm = λ on low below run. absurd (none-some j run);
            }

    module _ (s : State) (keeps : Keeps y (AllLimited y lev l.costing) s) (pays : Pays s) where
      effects-pay : s.phase ≡ Effects → Pays (effect_step y s.ran s).0
      effects-pay effects = by s.ran refl
        where
          by : (ran : Option ℕ) → s.ran ≡ ran → Pays (effect_step y ran s).0
          by None e = subst (λ r. ArePaid y lev bound l window owed r s.tasks) (ap (λ p. runner p s.ran) effects ∙ e) pays
          by (Some i) e = at (slice_get s.tasks i) refl
            where
              paid : ArePaid y lev bound l window owed (Some i) s.tasks
              paid = subst (λ r. ArePaid y lev bound l window owed r s.tasks) (ap (λ p. runner p s.ran) effects ∙ e) pays

              kept : IsKept y (AllLimited y lev l.costing) (Some i) s.tasks s.orders
              kept = subst (λ r. IsKept y (AllLimited y lev l.costing) r s.tasks s.orders) (ap (λ p. runner p s.ran) effects ∙ e) keeps

              at : (o : Option Task) → slice_get s.tasks i ≡ o → Pays (effect_at y i o s).0
              at None f = halts i s.tasks paid (λ t h hs stands inside. absurd (none-some t (sym f ∙ stands)))
              at (Some t) f = piece t.pieces refl
                where
                  sound : IsSound y (AllLimited y lev l.costing i) i t
                  sound = kept.sound i t f

                  mine : (u : Task) → Stands s.tasks i u → u ≡ t
                  mine u stands = same_Some u t (sym stands ∙ f)

                  piece : (ps : List Piece) → t.pieces ≡ ps → Pays (effect_of y i t ps s).0
                  piece [] g = halts i s.tasks paid (λ u h hs stands inside.
                      absurd (nothing h hs (ap (λ x. x.inside) (sym (mine u stands)) ∙ inside) (sym sound.closes ∙ ap closers g)))
                    where
                      nothing : (h : Held) (hs : List Held) → t.inside ≡ h ∷ hs → sections t ≡ [] → ⊥
                      nothing h hs inside none = absurd (no (sym (ap (map (λ x. x.section)) inside) ∙ none))
                        where
                          no : h.section ∷ map (λ x. x.section) hs ≡ [] → ⊥
                          no z = cc
                  piece (p ∷ ps) g = now (t.left == 0) refl
                    where
                      now : (b : Bool) → (t.left == 0) ≡ b
                          → Pays (if b then acted y i t (done y p t.vars ps).act (done y p t.vars ps).vars
                          (done y p t.vars ps).pieces s else goes_to Delays s).0
                      now true k =
                          let none : t.left ≡ 0 = grind arith in
                          let ready = busy-ready t p ps sound.rests g in
                          let n : Next = acted y i t (done y p t.vars ps).act (done y p t.vars ps).vars (done y p t.vars ps).pieces s in
                          let d = done-fits y (AllLimited y lev l.costing i) ((limits-text y lev bound l).closed i) p t.vars ps
                          (subst (AreFit (AllLimited y lev l.costing i)) g sound.fits) in
                          let goes = acted-goes y (AllLimited y lev l.costing) (limits-text y lev bound l) i t s effects e f ready kept
                          (done y p t.vars ps).act (done y p t.vars ps).vars (done y p t.vars ps).pieces d.0
                          (subst (λ xs. ActFits y (AllLimited y lev l.costing i) (closers xs) (done y p t.vars ps).act (done y p t.vars ps).pieces)
                          (sym g) d.1) in
                          subst (λ r. ArePaid y lev bound l window owed r n.0.tasks) (sym (ap (λ ph. runner ph n.0.ran) goes.0 ∙ goes.1))
                          (effect-paid i t p ps s f ready sound paid g none)
                      now false k = halts i s.tasks paid (λ u h hs stands inside. some u (mine u stands))
                        where
                          some : (u : Task) → u ≡ t → 0 < u.left
                          some u is = let same : u.left ≡ t.left = ap (λ x. x.left) is in let left : 0 < t.left = grind arith in omega arith

      -- the same without a runner
      still : (r : Option ℕ) → runner s.phase s.ran ≡ None → r ≡ None → ArePaid y lev bound l window owed r s.tasks
      still r e f = subst (λ x. ArePaid y lev bound l window owed x s.tasks) (e ∙ sym f) pays

      kept-none : IsKept y (AllLimited y lev l.costing) None s.tasks s.orders
      kept-none = halted y (AllLimited y lev l.costing) (runner s.phase s.ran) s.tasks s.orders keeps

      delays-pay : s.phase ≡ Delays → Pays (delay_step y (first_where (λ t. is_due s.time t.readiness) s.tasks) s).0
      delays-pay delays = by (first_where (λ t. is_due s.time t.readiness) s.tasks) refl
        where
          none : runner s.phase s.ran ≡ None
          none = ap (λ p. runner p s.ran) delays

          by : (o : Option (ℕ × Task)) → first_where (λ t. is_due s.time t.readiness) s.tasks ≡ o → Pays (delay_step y o s).0
          by None e = still None none refl
          by (Some sleeper) e =
              let found = first-where (λ t. is_due s.time t.readiness) s.tasks sleeper.0 sleeper.1 e in
              let inside : sleeper.1.inside ≡ [] = due-rests s.time sleeper.1 (kept-none.sound sleeper.0 sleeper.1 found.0).rests found.1 in
              let goes = release-goes y (AllLimited y lev l.costing) (limits-text y lev bound l) Delays s.ran None sleeper.0 sleeper.1 s delays refl
              kept-none found.0 inside in
              let n : Next = release y sleeper.0 s in
              subst (λ r. ArePaid y lev bound l window owed r n.0.tasks) (sym (ap (λ ph. runner ph n.0.ran) goes.0))
              (release-paid y lev bound l window owed None sleeper.0 s
              (λ u at. let same : u ≡ sleeper.1 = same_Some u sleeper.1 (sym at ∙ found.0)
              in ap (λ x. x.inside) same ∙ inside) (still None none refl))

      arrivals-pay : s.phase ≡ Arriving → Pays (arrival_step y s.arrivals s).0
      arrivals-pay arriving = by s.arrivals
        where
          none : runner s.phase s.ran ≡ None
          none = ap (λ p. runner p s.ran) arriving

          horizon : (b : Bool) → Pays (if b then (record s { stopped = true }, event.Horizon s.time ∷ []) else goes_to Use s).0
          horizon true = pays
          horizon false = still None none refl

          arrive : (a : Arrival) (others' : List Arrival) (o : Option (ℕ × Task)) → Pays (arrive_at y a o (record s { arrivals = others' })).0
          arrive a others' None = pays
          arrive a others' (Some t) =
              let opened : List Task = change t.0 (λ u. record u { gate = record { value = a.value; open' = true } }) s.tasks in
              let s' : State = record s { arrivals = others'; tasks = opened } in
              let n : Next = serve y t.0 s' in
              let goes = serve-goes y (AllLimited y lev l.costing) (limits-text y lev bound l) Arriving s.ran None t.0 s' arriving refl
              (gate-keeps y (AllLimited y lev l.costing) (limits-text y lev bound l) None s.tasks s.orders t.0
              (λ u. record { value = a.value; open' = true }) kept-none) in
              subst (λ r. ArePaid y lev bound l window owed r n.0.tasks) (sym (ap (λ ph. runner ph n.0.ran) goes.0))
              (serve-paid y lev bound l window owed None t.0 s'
              (gate-paid y lev bound l window owed None s.tasks t.0 (λ u. record { value = a.value; open' = true }) (still None none refl)))

          by : (as' : List Arrival) → Pays (arrival_step y as' s).0
          by [] = horizon (s.time == y.until)
          by (a ∷ others') = now (a.time == s.time)
            where
              now : (b : Bool) → Pays (if b then arrive_at y a (first_where (λ t. t.thread.unit == a.task) s.tasks)
                  (record s { arrivals = others' }) else horizon_step y s).0
              now true = arrive a others' (first_where (λ t. t.thread.unit == a.task) s.tasks)
              now false = horizon (s.time == y.until)

  owing-less : (b n m : ℕ) (ps : List Piece) → m ≤ n → Owing y lev l.costing.cost b n ps → Owing y lev l.costing.cost b m ps
  owing-less b n m [] less h = tt
  owing-less b n m (p ∷ ps) less h =
      owes-mono y lev l.costing.cost b (n + later (weights y l.costing.cost) p) (m + later (weights y l.costing.cost) p) ps (omega arith) h

  owing-tick : (b n : ℕ) (ps : List Piece) → 0 < n → Owing y lev l.costing.cost b n ps → Owing y lev l.costing.cost (b - 1) (n - 1) ps
  owing-tick b n [] some h = tt
  owing-tick b n (p ∷ ps) some h =
      let is : n + later (weights y l.costing.cost) p ≡ suc (n - 1 + later (weights y l.costing.cost) p) = omega arith in
      owes-tick y lev l.costing.cost b (n - 1 + later (weights y l.costing.cost) p) ps (subst (λ m. Owes y lev l.costing.cost b m ps) is h)

  short-less : (n m : ℕ) (ps : List Piece) → m ≤ n → IsShort y lev bound l n ps → IsShort y lev bound l m ps
  short-less n m [] less h = tt
  short-less n m (p ∷ ps) less h = le_trans less h

  -- a task begins to run, and uses a tick
  use-paid : (window : Bool) (owed owed' : ℕ) (s : State) (i : ℕ) (f : IsFirst s.tasks s.orders i) → ArePaid y lev bound l window owed None s.tasks
      → (window ≡ true → f.task.thread.priority < lev → f.task.active < lev → ⊥)
      → (window ≡ true → f.task.thread.priority < lev → lev ≤ f.task.active → Owing y lev l.costing.cost owed' (f.task.left - 1) f.task.pieces)
      → ((j : ℕ) (u : Task) → j ≢ i → Stands s.tasks j u → window ≡ true → u.thread.priority < lev → lev ≤ u.active
      → Owing y lev l.costing.cost owed' u.left u.pieces)
      → ArePaid y lev bound l window owed' (Some i) (change i tick s.tasks)
  use-paid window owed owed' s i f paid calm mine theirs j u at =
      changed i j tick s.tasks u at
      (λ x is at' same.
      let is-first : x ≡ f.task = same_Some x f.task (sym at' ∙ f.stands) in
      subst (λ k. IsPaid y lev bound l window owed' (Some i) k u) (sym is)
      (subst (IsPaid y lev bound l window owed' (Some i) i) (sym (same ∙ ap tick is-first)) runs))
      (λ not at'.
      let p = paid j u at' in
      record {
        rests = p.rests;
        short = p.short;
        steady = λ h hs e away. p.steady h hs e (λ run. absurd (none-some j run));
        owes = p.owes;
        debts = theirs j u not at';
        calm = λ on low below run. absurd (not (sym (same_Some i j run)));
      })
    where
      runs : IsPaid y lev bound l window owed' (Some i) i (tick f.task)
      runs = let p = paid i f.task f.stands in record {
        rests = p.rests;
        short = short-less f.task.left (f.task.left - 1) f.task.pieces (omega arith) p.short;
        steady = λ h hs e away. absurd (away refl);
        owes = λ low. owing-less bound f.task.left (f.task.left - 1) f.task.pieces (omega arith) (p.owes low);
        debts = mine;
        calm = λ on low below run. absurd (calm on low below);
      }

  -- one task alone below the level has an active priority that reaches it
  only-one : (r : Option ℕ) (ts : List Task) (os : List ℤ) → IsKept y (AllLimited y lev l.costing) r ts os → (i j : ℕ) (t u : Task) → Stands ts i t
      → Stands ts j u → i ≢ j
      → t.thread.priority < lev → lev ≤ t.active → u.thread.priority < lev → lev ≤ u.active → ⊥
  only-one r ts os kept i j t u at bt other low high low' high' =
      let sound = kept.sound i t at in
      let sound' = kept.sound j u bt in
      let h = high-inside y lev bound l i t (AllLimited y lev l.costing i) sound low high in
      let h' = high-inside y lev bound l j u (AllLimited y lev l.costing j) sound' low' high' in
      let o = numbered-at os i (subst (λ n. i < n) (sym kept.numbered) (slice_get_within ts i t at)) in
      let o' = numbered-at os j (subst (λ n. j < n) (sym kept.numbered) (slice_get_within ts j u bt)) in
      let first : GoesBefore u.active o'.0 t.active o.0 =
      kept.leads i j t u o.0 o'.0 h'.0 h'.1 at bt o.1 o'.1 other (holder-ready t h.0 h.1 sound.rests h.2) h'.2
      (let less : t.thread.priority ≤ u.active = omega arith in less) in
      let second : GoesBefore t.active o.0 u.active o'.0 =
      kept.leads j i u t o'.0 o.0 h.0 h.1 bt at o'.1 o.1 (λ e. other (sym e)) (holder-ready u h'.0 h'.1 sound'.rests h'.2) h.2
      (let less : u.thread.priority ≤ t.active = omega arith in less) in
      let same : t.active ≡ u.active = let a : t.active ≤ u.active = first.0 in let b : u.active ≤ t.active = second.0 in omega arith in
      let before : o'.0 <ℤ o.0 = first.1 same in
      let after : o.0 <ℤ o'.0 = second.1 (sym same) in
      omega (arith, ints)

  -- what runs below a pending level has an active priority that reaches it
  pending-high : (s : State) → Keeps y (AllLimited y lev l.costing) s → IsPending y lev s.tasks → (i : ℕ) (f : IsFirst s.tasks s.orders i)
      → lev ≤ f.task.active
  pending-high s keeps pending i f =
      by (f.first pending.0 pending.1 o.0 pending.2 o.1 pending.3)
    where
      o : (o : ℤ) × (slice_get s.orders pending.0 ≡ Some o)
      o = numbered-at s.orders pending.0 (subst (λ n. pending.0 < n) (sym keeps.numbered) (slice_get_within s.tasks pending.0 pending.1 pending.2))

      base : lev ≤ pending.1.active
      base = le_trans pending.4 (stacked-base y pending.1.thread.priority pending.1.active pending.1.inside
          (keeps.sound pending.0 pending.1 pending.2).stacked)

      by : (pending.1.active < f.task.active) ⊎ ((pending.1.active ≡ f.task.active) × (f.order ≤ℤ o.0)) → lev ≤ f.task.active
      by (inl less) = let high : lev ≤ pending.1.active = base in omega arith
      by (inr same) = let high : lev ≤ pending.1.active = base in let is : pending.1.active ≡ f.task.active = same.0 in omega arith

  -- what is owed is at least a tick, where ticks are left of a piece inside a section whose ceiling reaches the level
  owed-some : (owed i : ℕ) (t : Task) → IsSound y (AllLimited y lev l.costing i) i t → t.thread.priority < lev → lev ≤ t.active → 0 < t.left
      → IsShort y lev bound l t.left t.pieces → Owing y lev l.costing.cost owed t.left t.pieces → 0 < owed
  owed-some owed i t sound low high some short owing = by t.pieces refl
    where
      inside : (h : Held) × (hs : List Held) × (t.inside ≡ h ∷ hs) × (lev ≤ ceiling_of y h.section)
      inside = high-inside y lev bound l i t (AllLimited y lev l.costing i) sound low high

      sections' : closers t.pieces ≡ inside.0.section ∷ map (λ x. x.section) inside.1
      sections' = sound.closes ∙ ap (map (λ x. x.section)) inside.2

      by : (ps : List Piece) → t.pieces ≡ ps → 0 < owed
      by [] e = absurd (no (ap closers (sym e) ∙ sections'))
        where
          no : [] ≡ inside.0.section ∷ map (λ x. x.section) inside.1 → ⊥
          no z = cc
      by (p ∷ ps) e =
          let behind = closers-rest y lev bound l t.left p ps (subst (IsShort y lev bound l t.left) e short) some in
          let owing' : Owing y lev l.costing.cost owed t.left (p ∷ ps) = subst (Owing y lev l.costing.cost owed t.left) e owing in
          let most = owes-first y lev l.costing.cost owed (t.left + later (weights y l.costing.cost) p) ps inside.0.section
          (map (λ x. x.section) inside.1)
          (sym behind ∙ ap closers (sym e) ∙ sections') inside.3 owing' in
          omega (arith, most)

  abbrev KeepsL : State → Type 0
  KeepsL s = Keeps y (AllLimited y lev l.costing) s

  -- each step pays where no tick is used
  other-steps : (window : Bool) (owed : ℕ) (s : State) (phase : Phase) → s.phase ≡ phase → (phase ≡ Use → ⊥) → KeepsL s → Pays window owed s
      → Pays window owed (step_in phase y s).0
  other-steps window owed s Effects e not keeps pays = effects-pay window owed s keeps pays e
  other-steps window owed s Delays e not keeps pays = delays-pay window owed s keeps pays e
  other-steps window owed s Arriving e not keeps pays = arrivals-pay window owed s keeps pays e
  other-steps window owed s Use e not keeps pays = absurd (not refl)

  none-running : (s : State) → s.phase ≡ Use → runner s.phase s.ran ≡ None
  none-running s e = ap (λ p. runner p s.ran) e

  -- others use at most what is owed
  window-others : (n : ℕ) (s : State) (owed : ℕ) → KeepsL s → Pays true owed s → IsPendingThrough y lev n s → others y lev n s ≤ owed
  window-others zero s owed keeps pays pending = omega arith
  window-others (suc n) s owed keeps pays pending =
      by s.stopped refl pending.1 (step-keeps y (AllLimited y lev l.costing) (limits-text y lev bound l) s keeps)
      (λ s' owed' k p q. window-others n s' owed' k p q)
    where
      used : s.phase ≡ Use → IsPending y lev s.tasks → (o : Option ℕ) → dispatched s.tasks s.orders ≡ o → IsPendingThrough y lev n (use_step y o s).0
          → KeepsL (use_step y o s).0
          → ((s' : State) (owed' : ℕ) → KeepsL s' → Pays true owed' s' → IsPendingThrough y lev n s' → others y lev n s' ≤ owed')
          → (if is_of_level y lev o then 0 else 1) + others y lev n (use_step y o s).0 ≤ owed
      used e now None is pending' keeps' more =
          let o = numbered-at s.orders now.0 (subst (λ m. now.0 < m) (sym keeps.numbered) (slice_get_within s.tasks now.0 now.1 now.2)) in
          absurd (dispatched-some s.tasks s.orders now.0 now.1 o.0 now.2 o.1 now.3 is)
      used e now (Some i) is pending' keeps' more = split (nat_le lev (priority_at y i)) refl
        where
          f : IsFirst s.tasks s.orders i
          f = dispatched-first s.tasks s.orders i is

          paid : ArePaid y lev bound l true owed None s.tasks
          paid = subst (λ r. ArePaid y lev bound l true owed r s.tasks) (none-running s e) pays

          base : priority_at y i ≡ f.task.thread.priority
          base = priority-at y i f.task.thread (keeps.sound i f.task f.stands).written

          high : lev ≤ f.task.active
          high = pending-high s keeps now i f

          split : (b : Bool) → nat_le lev (priority_at y i) ≡ b → (if b then 0 else 1) + others y lev n (use_step y (Some i) s).0 ≤ owed
          split true k =
              let level' : lev ≤ f.task.thread.priority = let z : lev ≤ priority_at y i = grind arith in omega (arith, base) in
              let later' = more (use_step y (Some i) s).0 owed keeps'
              (use-paid true owed owed s i f paid (λ on low below. omega arith) (λ on low reach. absurd (omega arith))
              (λ j u not at on low reach. (paid j u at).debts on low reach)) pending' in
              omega (arith, later')
          split false k =
              let low : f.task.thread.priority < lev = let z : priority_at y i < lev = grind arith in omega (arith, base) in
              let p = paid i f.task f.stands in
              let sound = keeps.sound i f.task f.stands in
              let inside = high-inside y lev bound l i f.task (AllLimited y lev l.costing i) sound low high in
              let some : 0 < f.task.left = p.steady inside.0 inside.1 inside.2 (λ run. absurd (none-some i run)) in
              let owing = p.debts refl low high in
              let least = owed-some owed i f.task sound low high some p.short owing in
              let later' = more (use_step y (Some i) s).0 (owed - 1) keeps'
              (use-paid true owed (owed - 1) s i f paid (λ on low' below. let z : lev ≤ f.task.active = high
              in omega arith) (λ on low' reach. owing-tick owed f.task.left f.task.pieces some owing)
              (λ j u not at on low' reach.
              absurd (only-one (runner s.phase s.ran) s.tasks s.orders keeps i j f.task u f.stands at (λ h. not (sym h)) low high low' reach)))
              pending' in
              omega (arith, later', least)

      at : (phase : Phase) → s.phase ≡ phase → IsPendingIn y lev phase s → IsPendingThrough y lev n (step_in phase y s).0
          → KeepsL (step_in phase y s).0
          → ((s' : State) (owed' : ℕ) → KeepsL s' → Pays true owed' s' → IsPendingThrough y lev n s' → others y lev n s' ≤ owed')
          → others_in y lev phase s + others y lev n (step_in phase y s).0 ≤ owed
      at Effects e now pending' keeps' more = let k = more (step_in Effects y s).0 owed keeps' (effects-pay true owed s keeps pays e) pending'
          in omega (arith, k)
      at Delays e now pending' keeps' more = let k = more (step_in Delays y s).0 owed keeps' (delays-pay true owed s keeps pays e) pending'
          in omega (arith, k)
      at Arriving e now pending' keeps' more = let k = more (step_in Arriving y s).0 owed keeps' (arrivals-pay true owed s keeps pays e) pending'
          in omega (arith, k)
      at Use e now pending' keeps' more = used e now (dispatched s.tasks s.orders) refl pending' keeps' more

      by : (b : Bool) → s.stopped ≡ b → IsPendingThrough y lev n (if b then (s, []) else step_in s.phase y s).0
          → KeepsL (if b then (s, []) else step_in s.phase y s).0
          → ((s' : State) (owed' : ℕ) → KeepsL s' → Pays true owed' s' → IsPendingThrough y lev n s' → others y lev n s' ≤ owed')
          → (if b then 0 else others_in y lev s.phase s) + others y lev n (if b then (s, []) else step_in s.phase y s).0 ≤ owed
      by true e pending' keeps' more = let k = more s owed keeps' pays pending' in omega (arith, k)
      by false e pending' keeps' more = at s.phase refl (pending.0 e) pending' keeps' more

  -- outside windows
  pub opening-pays : (as' : List Arrival) → Pays false 0 (opening y as')
  opening-pays as' i t stands = by (slice_get y.threads i) (sym (slice_get-map first_task y.threads i) ∙ stands)
    where
      first : (th : TaskUnit) → IsPaid y lev bound l false 0 None i (first_task th)
      first th = record {
        rests = λ not. refl;
        short = tt;
        steady = λ h hs e not. absurd (empty h hs e);
        owes = λ low. tt;
        debts = λ on low high. tt;
        calm = λ on low below run. tt;
      }

      by : (o : Option TaskUnit) → option_map first_task o ≡ Some t → IsPaid y lev bound l false 0 None i t
      by None f = absurd (none-some t f)
      by (Some th) f = subst (IsPaid y lev bound l false 0 None i) (same_Some (first_task th) t f) (first th)

  pub step-pays : (s : State) → KeepsL s → Pays false 0 s → Pays false 0 (step y s).0
  step-pays s keeps pays = by s.stopped
    where
      used : s.phase ≡ Use → (o : Option ℕ) → dispatched s.tasks s.orders ≡ o → Pays false 0 (use_step y o s).0
      used e None is = subst (λ r. ArePaid y lev bound l false 0 r s.tasks) (none-running s e) pays
      used e (Some i) is =
          use-paid false 0 0 s i (dispatched-first s.tasks s.orders i is)
          (subst (λ r. ArePaid y lev bound l false 0 r s.tasks) (none-running s e) pays)
          (λ on low below. absurd (false≢true on)) (λ on low high. absurd (false≢true on)) (λ j u not at on low high. absurd (false≢true on))

      at : (phase : Phase) → s.phase ≡ phase → Pays false 0 (step_in phase y s).0
      at Effects e = effects-pay false 0 s keeps pays e
      at Delays e = delays-pay false 0 s keeps pays e
      at Arriving e = arrivals-pay false 0 s keeps pays e
      at Use e = used e (dispatched s.tasks s.orders) refl

      by : (b : Bool) → Pays false 0 (if b then (s, []) else step_in s.phase y s).0
      by true = pays
      by false = at s.phase refl

  -- what is kept for the blocking law
  pub record Blocks (s : State) : Type 0 where
    pub keeps : KeepsL s
    pub pays : Pays false 0 s

  pub opening-blocks : (as' : List Arrival) → Blocks (opening y as')
  opening-blocks as' = record { keeps = opening-keeps y (AllLimited y lev l.costing) as'; pays = opening-pays as' }

  pub step-blocks : (s : State) → Blocks s → Blocks (step y s).0
  step-blocks s b = record {
    keeps = step-keeps y (AllLimited y lev l.costing) (limits-text y lev bound l) s b.keeps;
    pays = step-pays s b.keeps b.pays;
  }

  pub run-blocks : (m : ℕ) (s : State) → Blocks s → Blocks (run y m s).0
  run-blocks zero s b = b
  run-blocks (suc m) s b = run-blocks m (step y s).0 (step-blocks s b)

  -- from a state at which a tick is about to be used, while the level is pending, others use at most the bound
  pub blocked : (n : ℕ) (s : State) → Blocks s → s.phase ≡ Use → IsPendingThrough y lev n s → others y lev n s ≤ bound
  blocked n s b e pending = window-others n s bound b.keeps begins pending
    where
      none : ArePaid y lev bound l false 0 None s.tasks
      none = subst (λ r. ArePaid y lev bound l false 0 r s.tasks) (none-running s e) b.pays

      begins : Pays true bound s
      begins = subst (λ r. ArePaid y lev bound l true bound r s.tasks) (sym (none-running s e)) (λ i t at. let p = none i t at in record {
        rests = p.rests;
        short = p.short;
        steady = p.steady;
        owes = p.owes;
        debts = λ on low high. p.owes low;
        calm = λ on low below run. absurd (none-some i run);
      })

  -- the same in every run from the opening
  pub run-blocked : (as' : List Arrival) (m n : ℕ) → (run y m (opening y as')).0.phase ≡ Use → IsPendingThrough y lev n (run y m (opening y as')).0
      → others y lev n (run y m (opening y as')).0 ≤ bound
  run-blocked as' m n e pending = blocked n (run y m (opening y as')).0 (run-blocks m (opening y as') (opening-blocks as')) e pending
