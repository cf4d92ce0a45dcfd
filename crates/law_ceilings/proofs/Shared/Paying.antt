-- What is kept of the ticks that tasks owe: below a level, and in a window in which the level is pending.
use Rattle.std.specs.Prelude.{◌≡◌, ◌≤◌, ◌<◌, ◌+◌, ◌++◌, ◌&&◌, ℕ, Bool, true, false, not, nat_lt, List, [], ◌∷◌, drop, slice_get, Option, Some}
use Rattle.std.specs.Prelude.{None, if◌then◌else◌, ⊤, refl}
use Rattle.std.proofs.Common.{sym, ◌∙◌, ap, subst, arith}
use Rattle.std.proofs.lemmas.Option.{same_Some}
use Rattle.seq_tree.specs.Values.{holds}
use Rattle.seq_tree.specs.Lists.{change}
use Rattle.seq_tree.specs.Variables.{Variables}
use Rattle.trace_tree.specs.declared.event.Event.{Event}
use Rattle.trace_tree.specs.declared.event.Event.TheVariants as event
use Rattle.machine.specs.Systems.{System, CallTarget, Plain, Protected, Request, Unknown, callee}
use Rattle.machine.specs.Pieces.{Piece, Idle, Store, Leaving, Calling, Working, Printing, Testing, Turning, Turned, Returning, Closing, Keeping}
use Rattle.machine.specs.Pieces.{Opening, Requested, Finishing, pieces, after_loop, ticks_of, work_ticks}
use Rattle.machine.specs.Deeds.{Act, Silent, Print, Enter, Leave, Ask, Keep, Open, Ended, Finish, deed, done}
use Rattle.machine.specs.States.{State, Task, Readiness, Ready, Resource, Object, Control, Held, Gate, shut}
use Rattle.machine.specs.Effects.{ceiling_of, inside_now, outside_by, outside_now, lent, stopped_at, entered_at, entry, exit, ended, acted}
use Rattle.machine.specs.Effects.{object_unit}
use Rattle.machine.specs.Releases.{going, released, release_task, release, is_waiting, serve_task, serve, parameter, next_time}
use Rattle.law_ceilings.proofs.Shared.Pieces.{Permission, Inside, closers, LeadsWithin}
use Rattle.law_ceilings.specs.Sections.{Stands, AreStacked}
use Rattle.law_ceilings.proofs.Shared.Kept.{IsSound}
use Rattle.law_ceilings.specs.Ceilings.{priority_at}
use Rattle.law_ceilings.specs.Bodies.{HasExitsInLoops}
use Rattle.law_ceilings.proofs.Shared.Permissions.{AllLimited}
use Rattle.law_ceilings.specs.Limits.{IsMade, CostsAtMost, IsLimited}
use Rattle.law_ceilings.proofs.Shared.Fitting.{block-weaken, ActFits}
use Rattle.law_ceilings.proofs.Shared.Moves.{empty}
use Rattle.law_ceilings.proofs.Shared.Keeping.{AreWritten, first_left, going-is, map-empty}
use Rattle.law_ceilings.proofs.Shared.Stopping.{priority-at}
use Rattle.law_ceilings.proofs.Owing.{Owes, Owing, owes-mono, block-owes, later, weight, weights}
use Rattle.law_lists.proofs.Shared.Places.{changed}
use Rattle.std.proofs.lemmas.Bool.{true≢false}

-- the text of a system with limits
pub limits-text : (y : System) (lev bound : ℕ) (l : IsLimited y lev bound) → AreWritten y (AllLimited y lev l.costing)
limits-text y lev bound l = record {
  closed = λ i unit op ss may. by i ss (nat_lt (priority_at y i) lev) refl (l.costing.cost unit op) (callee y unit op) (l.exits unit op) (λ low.
      l.calls unit op (may low));
  tasks = λ i t at. block-weaken (λ unit op. t.priority < lev → IsMade l.costing unit op) (Inside (AllLimited y lev l.costing i) [])
      (λ unit op h low. h (let same : priority_at y i ≡ t.priority = priority-at y i t at in omega arith)) false t.block (l.tasks i t at);
}
  where
    by : (i : ℕ) (ss : List Resource) (b : Bool) → nat_lt (priority_at y i) lev ≡ b → (n : ℕ) (c : CallTarget) → HasExitsInLoops c
        → (priority_at y i < lev → CostsAtMost y lev bound l.costing n c) → LeadsWithin (AllLimited y lev l.costing i) c ss
    by i ss true e n (Plain o) exits costs =
        block-weaken (IsMade l.costing) (Inside (AllLimited y lev l.costing i) ss) (λ unit op h low. h) false o.block (costs (grind arith)).0
    by i ss true e n (Protected object j g o) exits costs =
        block-weaken (IsMade l.costing) (Inside (AllLimited y lev l.costing i) (Object object ∷ ss)) (λ unit op h low. h) false o.block
        (costs (grind arith)).0
    by i ss false e n (Plain o) exits costs =
        block-weaken (λ unit op. ⊤) (Inside (AllLimited y lev l.costing i) ss) (λ unit op h low. absurd (let not : lev ≤ priority_at y i = grind arith
        in omega arith)) false o.block exits
    by i ss false e n (Protected object j g o) exits costs =
        block-weaken (λ unit op. ⊤) (Inside (AllLimited y lev l.costing i) (Object object ∷ ss))
        (λ unit op h low. absurd (let not : lev ≤ priority_at y i = grind arith in omega arith)) false o.block exits
    by i ss b e n (Request task) exits costs = tt
    by i ss b e n Unknown exits costs = tt

pub work-most : (ticks : ℕ) (d : Option ℕ) → work_ticks ticks d ≤ ticks
work-most ticks None = omega arith
work-most ticks (Some d) = omega arith

module _ (y : System) (lev bound : ℕ) (l : IsLimited y lev bound) where
  -- no more ticks are left of the first piece than it takes
  abbrev pub IsShort : ℕ → List Piece → Type 0
  IsShort n [] = ⊤
  IsShort n (p ∷ ps) = n ≤ ticks_of y.costs None p

  -- a call has ticks left
  abbrev pub IsCalm : ℕ → List Piece → Type 0
  IsCalm n (Calling unit op actuals ∷ ps) = 0 < n
  IsCalm n _ = ⊤

  -- what is kept of a task; in a window a task below the level whose active priority reaches it owes at most so many ticks
  pub record IsPaid (window : Bool) (owed : ℕ) (r : Option ℕ) (i : ℕ) (t : Task) : Type 0 where
    pub rests : (t.readiness ≡ Ready → ⊥) → t.inside ≡ []
    pub short : IsShort t.left t.pieces
    pub steady : (h : Held) (hs : List Held) → t.inside ≡ h ∷ hs → (r ≡ Some i → ⊥) → 0 < t.left
    pub owes : t.thread.priority < lev → Owing y lev l.costing.cost bound t.left t.pieces
    pub debts : window ≡ true → t.thread.priority < lev → lev ≤ t.active → Owing y lev l.costing.cost owed t.left t.pieces
    pub calm : window ≡ true → t.thread.priority < lev → t.active < lev → r ≡ Some i → IsCalm t.left t.pieces

  abbrev pub ArePaid : Bool → ℕ → Option ℕ → List Task → Type 0
  ArePaid window owed r ts = (i : ℕ) (t : Task) → Stands ts i t → IsPaid window owed r i t

  ticks-most : (d : Option ℕ) (p : Piece) → ticks_of y.costs d p ≤ ticks_of y.costs None p
  ticks-most d Idle = omega arith
  ticks-most d (Store target value) = omega arith
  ticks-most d (Leaving condition) = omega arith
  ticks-most d (Calling unit op actuals) = omega arith
  ticks-most d (Working ticks) = work-most ticks d
  ticks-most d (Printing value) = omega arith
  ticks-most d (Testing condition block others) = omega arith
  ticks-most d (Turning name at last body) = omega arith
  ticks-most d (Turned name at last body) = omega arith
  ticks-most d (Returning outs stores caller) = omega arith
  ticks-most d (Closing object op vars outs stores caller) = omega arith
  ticks-most d (Keeping task value) = omega arith
  ticks-most d (Opening task) = omega arith
  ticks-most d (Requested task value) = omega arith
  ticks-most d Finishing = omega arith

  first-short : (ps : List Piece) (t : Task) → IsShort (first_left y.costs ps t) ps
  first-short [] t = tt
  first-short (p ∷ ps) t = ticks-most (slice_get t.thread.durations t.works) p

  first-owing : (b : ℕ) (ps : List Piece) (t : Task) → Owes y lev l.costing.cost b 0 ps → Owing y lev l.costing.cost b (first_left y.costs ps t) ps
  first-owing b [] t h = tt
  first-owing b (p ∷ ps) t h =
      let most = ticks-most (slice_get t.thread.durations t.works) p in
      owes-mono y lev l.costing.cost b (0 + weight (weights y l.costing.cost) p) (first_left y.costs (p ∷ ps) t + later (weights y l.costing.cost) p)
      ps (omega (arith, most)) h.1

  first-calm : (ps : List Piece) (t : Task) → IsCalm (first_left y.costs ps t) ps
  first-calm [] t = tt
  first-calm (Idle ∷ ps) t = tt
  first-calm (Store target value ∷ ps) t = tt
  first-calm (Leaving condition ∷ ps) t = tt
  first-calm (Calling unit op actuals ∷ ps) t = l.call
  first-calm (Working ticks ∷ ps) t = tt
  first-calm (Printing value ∷ ps) t = tt
  first-calm (Testing condition block others ∷ ps) t = tt
  first-calm (Turning name at last body ∷ ps) t = tt
  first-calm (Turned name at last body ∷ ps) t = tt
  first-calm (Returning outs stores caller ∷ ps) t = tt
  first-calm (Closing object op vars outs stores caller ∷ ps) t = tt
  first-calm (Keeping task value ∷ ps) t = tt
  first-calm (Opening task ∷ ps) t = tt
  first-calm (Requested task value ∷ ps) t = tt
  first-calm (Finishing ∷ ps) t = tt

  -- the first end of a section isn't the first piece where ticks are left
  pub closers-rest : (n : ℕ) (p : Piece) (ps : List Piece) → IsShort n (p ∷ ps) → 0 < n → closers (p ∷ ps) ≡ closers ps
  closers-rest n Idle ps h k = refl
  closers-rest n (Store target value) ps h k = refl
  closers-rest n (Leaving condition) ps h k = refl
  closers-rest n (Calling unit op actuals) ps h k = refl
  closers-rest n (Working ticks) ps h k = refl
  closers-rest n (Printing value) ps h k = refl
  closers-rest n (Testing condition block others) ps h k = refl
  closers-rest n (Turning name at last body) ps h k = refl
  closers-rest n (Turned name at last body) ps h k = refl
  closers-rest n (Returning outs stores caller) ps h k = refl
  closers-rest n (Closing object op vars outs stores caller) ps h k = absurd (omega arith)
  closers-rest n (Keeping task value) ps h k = refl
  closers-rest n (Opening task) ps h k = refl
  closers-rest n (Requested task value) ps h k = absurd (omega arith)
  closers-rest n Finishing ps h k = refl

  -- a task below the level whose active priority reaches it is inside a section whose ceiling does
  pub high-inside : (i : ℕ) (t : Task) (May : Permission) → IsSound y May i t → t.thread.priority < lev → lev ≤ t.active
      → (h : Held) × (hs : List Held) × (t.inside ≡ h ∷ hs) × (lev ≤ ceiling_of y h.section)
  high-inside i t May sound low high = by t.inside refl sound.stacked
    where
      by : (hs : List Held) → t.inside ≡ hs → AreStacked y t.thread.priority t.active hs → (h : Held) × (hs' : List Held) × (t.inside ≡ h ∷ hs')
          × (lev ≤ ceiling_of y h.section)
      by [] e s = absurd (omega arith)
      by (h ∷ hs) e s = (h, hs, e, (let top : t.active ≡ ceiling_of y h.section = s.0 in omega arith))

  module _ (window : Bool) (owed : ℕ) where
    pub paid-change : (r : Option ℕ) (ts : List Task) (i : ℕ) (f : Task → Task) (t : Task) → ArePaid window owed r ts → Stands ts i t
        → IsPaid window owed r i (f t)
        → ArePaid window owed r (change i f ts)
    paid-change r ts i f t paid stands new j u at =
        changed i j f ts u at
        (λ x is at' same.
        let mine : x ≡ t = same_Some x t (sym at' ∙ stands) in
        subst (λ k. IsPaid window owed r k u) (sym is) (subst (IsPaid window owed r i) (sym (same ∙ ap f mine)) new))
        (λ not at'. paid j u at')

    -- a task that goes on with other pieces
    going-paid : (r : Option ℕ) (i : ℕ) (t : Task) (vars' : Variables) (ps : List Piece) → ((t.readiness ≡ Ready → ⊥) → t.inside ≡ [])
        → ((h : Held) (hs : List Held) → t.inside ≡ h ∷ hs → (r ≡ Some i → ⊥) → ⊥)
        → (t.thread.priority < lev → Owes y lev l.costing.cost bound 0 ps)
        → (window ≡ true → t.thread.priority < lev → lev ≤ t.active → Owes y lev l.costing.cost owed 0 ps)
        → IsPaid window owed r i (going y.costs vars' ps t)
    going-paid r i t vars' ps rests steady owes debts = subst (IsPaid window owed r i) (sym (going-is y.costs vars' ps t)) (record {
      rests = rests;
      short = first-short ps t;
      steady = λ h hs e not. absurd (steady h hs e not);
      owes = λ low. first-owing bound ps t (owes low);
      debts = λ on low high. first-owing owed ps t (debts on low high);
      calm = λ on low below run. first-calm ps t;
    })

    pub gate-paid : (r : Option ℕ) (ts : List Task) (k : ℕ) (f : Task → Gate) → ArePaid window owed r ts
        → ArePaid window owed r (change k (λ u. record u { gate = f u }) ts)
    gate-paid r ts k f paid j u at =
        changed k j (λ v. record v { gate = f v }) ts u at
        (λ x is at' same. subst (λ n. IsPaid window owed r n u) (sym is) (subst (IsPaid window owed r k) (sym same) (gated x (paid k x at'))))
        (λ not at'. paid j u at')
      where
        gated : (x : Task) → IsPaid window owed r k x → IsPaid window owed r k (record x { gate = f x })
        gated x p = record { rests = p.rests; short = p.short; steady = p.steady; owes = p.owes; debts = p.debts; calm = p.calm }

    released-paid : (r : Option ℕ) (i : ℕ) (t : Task) → t.inside ≡ [] → IsPaid window owed r i (released y.costs t)
    released-paid r i t inside =
        going-paid r i (record t { readiness = Ready; next = next_time t.thread.timing t.next; used = 0; gate = shut })
        (parameter t.thread.timing t.gate.value ++ t.vars) (pieces t.thread.block (Finishing ∷ []))
        (λ not. inside) (λ h hs e not. empty h hs (sym inside ∙ e))
        (λ low. block-owes y lev l.costing.cost t.thread.block bound 0 (Finishing ∷ []) (tt, tt))
        (λ on low high. block-owes y lev l.costing.cost t.thread.block owed 0 (Finishing ∷ []) (tt, tt))

    pub release-paid : (r : Option ℕ) (k : ℕ) (s : State) → ((t : Task) → Stands s.tasks k t → t.inside ≡ []) → ArePaid window owed r s.tasks
        → ArePaid window owed r (release y k s).0.tasks
    release-paid r k s inside paid = by (slice_get s.tasks k) refl
      where
        by : (o : Option Task) → slice_get s.tasks k ≡ o → ArePaid window owed r (release_task y k o s).0.tasks
        by None e = paid
        by (Some t) e = paid-change r s.tasks k (released y.costs) t paid e (released-paid r k t (inside t e))

    pub serve-paid : (r : Option ℕ) (k : ℕ) (s : State) → ArePaid window owed r s.tasks → ArePaid window owed r (serve y k s).0.tasks
    serve-paid r k s paid = by (slice_get s.tasks k) refl
      where
        by : (o : Option Task) → slice_get s.tasks k ≡ o → ArePaid window owed r (serve_task y k o s).0.tasks
        by None e = paid
        by (Some t) e = served (is_waiting t.readiness) t.gate.open' refl
          where
            waits : (x : Readiness) → is_waiting x ≡ true → x ≡ Ready → ⊥
            waits x e' e'' = true≢false (sym e' ∙ ap is_waiting e'')

            served : (a b : Bool) → is_waiting t.readiness ≡ a → ArePaid window owed r (if a && b then release y k s else (s, [])).0.tasks
            served true true f =
                release-paid r k s (λ u at. let same : u ≡ t = same_Some u t (sym at ∙ e)
                in ap (λ x. x.inside) same ∙ (paid k t e).rests (waits t.readiness f)) paid
            served true false f = paid
            served false b f = paid

    -- a piece that is a call enters a section, where it does, only with an active priority that reaches the level
    abbrev is_entry : Act → Bool
    is_entry (Enter object op values) = true
    is_entry (Ask task) = true
    is_entry _ = false

    pub entry-calls : (p : Piece) (vars' : Variables) (ps : List Piece) → IsCalm 0 (p ∷ ps) → is_entry (done y p vars' ps).act ≡ true → ⊥
    entry-calls Idle vars' ps calm e = cc
    entry-calls (Store target value) vars' ps calm e = cc
    entry-calls (Leaving condition) vars' ps calm e = by (holds condition vars') e
      where
        by : (b : Bool) → is_entry (if b then deed Silent (drop 1 vars') (after_loop ps) else deed Silent vars' ps).act ≡ true → ⊥
        by true e' = cc
        by false e' = cc
    entry-calls (Calling unit op actuals) vars' ps calm e = omega arith
    entry-calls (Working ticks) vars' ps calm e = cc
    entry-calls (Printing value) vars' ps calm e = cc
    entry-calls (Testing condition block others) vars' ps calm e = cc
    entry-calls (Turning name at last body) vars' ps calm e = cc
    entry-calls (Turned name at last body) vars' ps calm e = cc
    entry-calls (Returning outs stores caller) vars' ps calm e = cc
    entry-calls (Closing object op data' outs stores caller) vars' ps calm e = cc
    entry-calls (Keeping task value) vars' ps calm e = cc
    entry-calls (Opening task) vars' ps calm e = cc
    entry-calls (Requested task value) vars' ps calm e = cc
    entry-calls Finishing vars' ps calm e = cc

    module _ (i : ℕ) (t : Task) (s : State) (stands : Stands s.tasks i t) (ready : t.readiness ≡ Ready)
        (sound : IsSound y (AllLimited y lev l.costing i) i t)
        (paid : ArePaid window owed (Some i) s.tasks) where
      busy : (f : Task) → f.readiness ≡ t.readiness → (f.readiness ≡ Ready → ⊥) → f.inside ≡ []
      busy f same not = absurd (not (same ∙ ready))

      running : (h : Held) (hs hs' : List Held) → hs' ≡ h ∷ hs → (Some i ≡ Some i → ⊥) → ⊥
      running h hs hs' e not = not refl

      module _ (vars' : Variables) (ps : List Piece) (owes : t.thread.priority < lev → Owes y lev l.costing.cost bound 0 ps)
          (debts : window ≡ true → t.thread.priority < lev → lev ≤ t.active → Owes y lev l.costing.cost owed 0 ps) where
        go-paid : ArePaid window owed (Some i) (change i (going y.costs vars' ps) s.tasks)
        go-paid = paid-change (Some i) s.tasks i (going y.costs vars' ps) t paid stands
            (going-paid (Some i) i t vars' ps (λ not. busy t refl not) (λ h hs e not. not refl) owes debts)

        exit-paid : ArePaid window owed (Some i) (change i (λ u. going y.costs vars' ps (outside_now u)) s.tasks)
        exit-paid = paid-change (Some i) s.tasks i (λ u. going y.costs vars' ps (outside_now u)) t paid stands (by t.inside refl)
          where
            by : (hs : List Held) → t.inside ≡ hs → IsPaid window owed (Some i) i (going y.costs vars' ps (outside_by hs t))
            by [] e = going-paid (Some i) i t vars' ps (λ not. busy t refl not) (λ h hs e' not. not refl) owes debts
            by (h ∷ hs) e =
                let stacked : AreStacked y t.thread.priority t.active (h ∷ hs) = subst (AreStacked y t.thread.priority t.active) e sound.stacked in
                let below : h.before ≤ t.active = stacked.1 in
                going-paid (Some i) i (record t { active = h.before; inside = hs }) vars' ps (λ not. absurd (not ready))
                (λ h' hs' e' not. not refl) owes
                (λ on low high. debts on low (let more : lev ≤ h.before = high in omega arith))

        entry-paid : (section : Resource) (told : List Event) → (window ≡ true → t.thread.priority < lev → t.active < lev → ⊥)
            → ArePaid window owed (Some i) (entry y i t section told vars' ps s).0.tasks
        entry-paid section told calm = by (nat_lt (ceiling_of y section) t.active)
          where
            inner : (x : Resource) (given : Variables) → IsPaid window owed (Some i) i (going y.costs given ps (inside_now x (ceiling_of y x) t))
            inner x given =
                going-paid (Some i) i (inside_now x (ceiling_of y x) t) given ps (λ not. absurd (not ready)) (λ h hs e not. not refl) owes
                (λ on low high. debts on low (reaches on low (nat_lt t.active lev) refl))
              where
                reaches : window ≡ true → t.thread.priority < lev → (b : Bool) → nat_lt t.active lev ≡ b → lev ≤ t.active
                reaches on low true e = absurd (calm on low (let below : t.active < lev = grind arith in below))
                reaches on low false e = grind arith

            into : (x : Resource) → ArePaid window owed (Some i) (entered_at y i x told vars' ps s).0.tasks
            into (Object object) =
                paid-change (Some i) s.tasks i (λ u. going y.costs (lent (Object object) s vars') ps
                (inside_now (Object object) (ceiling_of y (Object object)) u)) t paid stands
                (inner (Object object) (lent (Object object) s vars'))
            into (Control task) =
                paid-change (Some i) s.tasks i (λ u. going y.costs vars' ps (inside_now (Control task) (ceiling_of y (Control task)) u)) t paid stands
                (inner (Control task) vars')

            by : (b : Bool) → ArePaid window owed (Some i) (if b then stopped_at y t section s else entered_at y i section told vars' ps s).0.tasks
            by true = paid
            by false = into section

      pub acted-paid : (act : Act) (vars' : Variables) (ps : List Piece) → ActFits y (AllLimited y lev l.costing i) (closers t.pieces) act ps
          → (is_entry act ≡ true → window ≡ true → t.thread.priority < lev → t.active < lev → ⊥)
          → (t.thread.priority < lev → Owes y lev l.costing.cost bound 0 ps)
          → (window ≡ true → t.thread.priority < lev → lev ≤ t.active → Owes y lev l.costing.cost owed 0 ps)
          → ArePaid window owed (Some i) (acted y i t act vars' ps s).0.tasks
      acted-paid Silent vars' ps act calm owes debts = go-paid vars' ps owes debts
      acted-paid (Print v) vars' ps act calm owes debts = go-paid vars' ps owes debts
      acted-paid (Enter object op values) vars' ps act calm owes debts =
          entry-paid vars' ps owes debts (Object object) (event.Enter s.time t.thread.unit (object_unit y object) op values ∷ []) (calm refl)
      acted-paid (Leave object op values data') vars' ps act calm owes debts = exit-paid vars' ps owes debts
      acted-paid (Ask task) vars' ps act calm owes debts = entry-paid vars' ps owes debts (Control task) [] (calm refl)
      acted-paid (Keep task v) vars' ps act calm owes debts =
          gate-paid (Some i) (change i (going y.costs vars' ps) s.tasks) task (λ u. record u.gate { value = v }) (go-paid vars' ps owes debts)
      acted-paid (Open task) vars' ps act calm owes debts =
          gate-paid (Some i) (change i (going y.costs vars' ps) s.tasks) task (λ u. record u.gate { open' = true }) (go-paid vars' ps owes debts)
      acted-paid (Ended task v) vars' ps act calm owes debts = serve-paid (Some i) task (exit y i vars' ps s) (exit-paid vars' ps owes debts)
      acted-paid Finish vars' ps act calm owes debts =
          serve-paid (Some i) i (record s { tasks = change i (ended vars') s.tasks })
          (paid-change (Some i) s.tasks i (ended vars') t paid stands (record {
            rests = λ not. inside;
            short = tt;
            steady = λ h hs e not. absurd (not refl);
            owes = λ low. tt;
            debts = λ on low high. tt;
            calm = λ on low below run. tt;
          }))
        where
          inside : t.inside ≡ []
          inside = map-empty (λ h. h.section) t.inside (sym sound.closes ∙ act.0)
