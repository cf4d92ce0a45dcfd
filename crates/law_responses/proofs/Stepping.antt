-- Each step of the machine moves a log that belongs to its state, and so does a run.
use Rattle.std.specs.Prelude.{◌≡◌, ◌≢◌, ℕ, zero, suc, ◌+◌, ◌-◌, ◌≤◌, ◌<◌, ◌==◌, Bool, true, false, List, [], ◌∷◌, ◌++◌, map, slice_get, Option}
use Rattle.std.specs.Prelude.{Some, None, ℤ, ⊤, if◌then◌else◌, refl}
use Rattle.std.proofs.Common.{sym, ◌∙◌, ap, subst, arith, inl, le_refl}
use Rattle.std.proofs.lemmas.Option.{none-some, same_Some}
use Rattle.seq_tree.specs.Lists.{change, first_where}
use Rattle.rt_response.specs.Tables.{Each}
use Rattle.arrivals_tree.specs.declared.arrivals.Arrival.{Arrival}
use Rattle.trace_tree.specs.declared.event.Event.TheVariants as event
use Rattle.machine.specs.Systems.{System}
use Rattle.machine.specs.Pieces.{Piece}
use Rattle.machine.specs.Deeds.{done}
use Rattle.machine.specs.States.{State, Task, Phase, Effects, Delays, Arriving, Use, Readiness, Asleep, Waiting, Ready}
use Rattle.machine.specs.Releases.{release_task, serve}
use Rattle.machine.specs.Dispatch.{Candidate, candidate_if, candidates, first_of, goes_before, dispatched_of, dispatched}
use Rattle.machine.specs.Effects.{takes_effect}
use Rattle.machine.specs.Steps.{goes_to, effect_of, effect_at, effect_step, is_due, delay_step, horizon_step, arrive_at, arrival_step, use_step}
use Rattle.machine.specs.Steps.{step_in, step}
use Rattle.machine.specs.Meanings.{run}
use Rattle.law_responses.proofs.Logs.{Log, ticked}
use Rattle.law_responses.proofs.Views.{Core, View, now_of, core, view, released_core, ticked_core, opened_core, changed, after_tick}
use Rattle.law_responses.proofs.Frames.{Frame, HasRow, no-row, IsFramed, Kept, Notes, EndsRequest, HasEnd}
use Rattle.law_responses.proofs.Base.{Busy, Base, SomeLeft, written-at, base-phase, base-opens, base-arrivals, base-outside, put, put-here}
use Rattle.law_responses.proofs.BaseMoves.{base-idle, base-ticked}
use Rattle.law_responses.proofs.Asking.{Sleeps}
use Rattle.law_responses.proofs.AskingMoves.{NoMid, asking-open-else, asking-phase, sleeps-delays, sleeps-arriving, sleeps-use, asking-idle}
use Rattle.law_responses.proofs.AskingMoves.{asking-ticked}
use Rattle.law_responses.proofs.AskingArrives.{asking-arrives, asking-arrives-else}
use Rattle.law_responses.proofs.Moves.{Along, Moved, since_by, since, quiet-none, quiet-one, grown-still, moved-still, moved-then, grown-ticked}
use Rattle.law_responses.proofs.Releasing.{release-cyclic}
use Rattle.law_responses.proofs.Seen.{see, seen, view-released}
use Rattle.law_responses.proofs.Effecting.{IsFit, effect-moves, serve-moves, release-outside}
use Rattle.law_lists.proofs.Shared.Facts.{first-where, first-none}
use Rattle.law_lists.proofs.Shared.Places.{map-changed, same-item, each-changed}

-- the dispatched task is ready
abbrev IsReadyAt : ℕ → List Task → Candidate → Type 0
IsReadyAt n ts c = (k : ℕ) × (t : Task) × (c.task ≡ n + k) × (slice_get ts k ≡ Some t) × (t.readiness ≡ Ready)

each-shift : (n : ℕ) (t : Task) (ts : List Task) (cs : List Candidate) → Each (IsReadyAt (suc n) ts) cs → Each (IsReadyAt n (t ∷ ts)) cs
each-shift n t ts [] h = tt
each-shift n t ts (c ∷ cs) h = ((suc h.0.0, h.0.1, omega (arith, h.0.2), h.0.3, h.0.4), each-shift n t ts cs h.1)

ready-each : (n : ℕ) (ts : List Task) (os : List ℤ) → Each (IsReadyAt n ts) (candidates n ts os)
ready-each n [] os = tt
ready-each n (t ∷ ts) [] = tt
ready-each n (t ∷ ts) (o ∷ os) = by t.readiness refl (each-shift n t ts (candidates (suc n) ts os) (ready-each (suc n) ts os))
  where
    by : (r : Readiness) → t.readiness ≡ r → Each (IsReadyAt n (t ∷ ts)) (candidates (suc n) ts os)
        → Each (IsReadyAt n (t ∷ ts)) (candidate_if r (record { task = n; active = t.active; order = o }) (candidates (suc n) ts os))
    by Ready e others = ((0, t, (let z : n ≡ n + 0 = omega arith in z), refl, e), others)
    by Waiting e others = others
    by (Asleep until) e others = others

first-each : (P : Candidate → Type 0) (c : Candidate) (cs : List Candidate) → P c → Each P cs → P (first_of c cs)
first-each P c [] h hs = h
first-each P c (d ∷ ds) h hs = first-each P (if goes_before d c then d else c) ds (pick (goes_before d c)) hs.1
  where
    pick : (b : Bool) → P (if b then d else c)
    pick true = hs.0
    pick false = h

pub dispatched-ready : (ts : List Task) (os : List ℤ) (i : ℕ) → dispatched ts os ≡ Some i
    → (t : Task) × (slice_get ts i ≡ Some t) × (t.readiness ≡ Ready)
dispatched-ready ts os i e = by (candidates 0 ts os) (ready-each 0 ts os) e
  where
    by : (cs : List Candidate) → Each (IsReadyAt 0 ts) cs → dispatched_of cs ≡ Some i → (t : Task) × (slice_get ts i ≡ Some t) × (t.readiness ≡ Ready)
    by [] h e = cc
    by (c ∷ cs) h e =
        let first = first-each (IsReadyAt 0 ts) c cs h.0 h.1 in
        let is : (first_of c cs).task ≡ i = cc in
        let place : first.0 ≡ i = omega (arith, first.2, is) in
        (first.1, subst (λ k. slice_get ts k ≡ Some first.1) place first.3, first.4)

-- who uses ticks in a step and in a run
abbrev pub users_in : Phase → State → List (Option ℕ)
users_in Use s = dispatched s.tasks s.orders ∷ []
users_in Effects s = []
users_in Delays s = []
users_in Arriving s = []

abbrev pub step_users : State → List (Option ℕ)
step_users s = if s.stopped then [] else users_in s.phase s

abbrev pub run_users : System → ℕ → State → List (Option ℕ)
run_users y zero s = []
run_users y (suc n) s = step_users s ++ run_users y n (step y s).0

-- where no effect comes, ticks are left of the first piece of each ready task with a row, and nobody is about to end a request
pub some-left : (f : Frame) (v : View) (l : Log) (n : Notes) → Along f v l n → (v.phase ≡ Effects → ⊥) → SomeLeft f v
some-left f v l n along other j r c has here ready none = other ((along.base.runs j c here r has ready).left none).0

no-mid : (f : Frame) (v : View) (l : Log) (n : Notes) → Along f v l n → (v.phase ≡ Effects → ⊥) → NoMid f v
no-mid f v l n along other j k s c here has ends = other ((along.asking.of j c here).mid k s has ends).phase

-- effects come to their end
to-delays : (f : Frame) (s : State) (l : Log) (n : Notes) → Along f (view s) l n → s.phase ≡ Effects
    → ((j : ℕ) (t : Task) → slice_get s.tasks j ≡ Some t → s.ran ≡ Some j → t.left ≡ 0 → t.pieces ≡ [])
    → Moved f (view s) (view ((goes_to Delays s).0)) l [] []
to-delays f s l n along effects over = moved-still f (view s) (record (view s) { phase = Delays }) l n [] on
    (subst (λ q. since_by q s.time ≤ s.time) (sym effects) (le_refl s.time)) (quiet-none f)
  where
    over' : (j : ℕ) (c : Core) → slice_get (map core s.tasks) j ≡ Some c → s.ran ≡ Some j → c.left ≡ 0 → c.pieces ≡ []
    over' j c e ran none =
        let t = seen s.tasks j c e in
        sym (ap (λ x. x.pieces) t.2) ∙ over j t.0 t.1 ran (ap (λ x. x.left) t.2 ∙ none)

    on : Along f (record (view s) { phase = Delays }) l n
    on = record {
      base = base-phase f (view s) l n.current Delays along.base
          (λ j r c has here ready none. let busy = along.base.runs j c here r has ready
          in subst HasEnd (over' j c here (busy.left none).1 none) busy.ends);
      asking = asking-phase f (view s) l n Delays along.asking
          (λ j k z c here has ends. let mid = (along.asking.of j c here).mid k z has ends
          in subst (EndsRequest k) (over' j c here mid.ran mid.none) ends)
          (λ j r c has here sleeps. sleeps-delays s.time l.acts r c.next c.readiness
          (subst (λ p. Sleeps p s.time l.acts r c.next c.readiness) effects sleeps));
    }

-- before the use of a tick activations may be released now
begun-at : (s : State) (p : Phase) → s.phase ≡ p → since_by p s.time ≤ s.time → since (view s) ≤ s.time
begun-at s p e h = subst (λ q. since_by q s.time ≤ s.time) (sym e) h

begun-to : (s : State) (p : Phase) (time : ℕ) → s.phase ≡ p → since_by p s.time ≤ time → since (view s) ≤ time
begun-to s p time e h = subst (λ q. since_by q s.time ≤ time) (sym e) h

-- no effects come in any other part of the instant
abbrev pub IsOther : Phase → Type 0
IsOther Effects = ⊥
IsOther _ = ⊤

pub not-effects : (p q : Phase) → p ≡ q → IsOther q → p ≡ Effects → ⊥
not-effects p q same other e = subst IsOther (sym same ∙ e) other

-- the part of effects
effects-move : (f : Frame) (s : State) (l : Log) (n : Notes) → IsFramed f → Along f (view s) l n → IsFit s → s.phase ≡ Effects
    → Moved f (view s) (view ((effect_step f.system s.ran s).0)) l ((effect_step f.system s.ran s).1) []
effects-move f s l n framed along fit effects = by_ran s.ran refl
  where
    by_ran : (o : Option ℕ) → s.ran ≡ o → Moved f (view s) (view ((effect_step f.system o s).0)) l ((effect_step f.system o s).1) []
    by_ran None ran = to-delays f s l n along effects (λ j t here is none. absurd (none-some j (sym ran ∙ is)))
    by_ran (Some i) ran = by_task (slice_get s.tasks i) refl
      where
        task_is : (j : ℕ) → s.ran ≡ Some j → i ≡ j
        task_is j is = same-item s.ran i j ran is

        by_task : (o : Option Task) → slice_get s.tasks i ≡ o
            → Moved f (view s) (view ((effect_at f.system i o s).0)) l ((effect_at f.system i o s).1) []
        by_task None e = to-delays f s l n along effects
            (λ j t here is none. absurd (none-some t (sym e ∙ subst (λ k. slice_get s.tasks k ≡ Some t) (sym (task_is j is)) here)))
        by_task (Some t) e = by_pieces t.pieces refl
          where
            own : (j : ℕ) (x : Task) → slice_get s.tasks j ≡ Some x → s.ran ≡ Some j → t ≡ x
            own j x here is = same-item (slice_get s.tasks i) t x e (subst (λ k. slice_get s.tasks k ≡ Some x) (sym (task_is j is)) here)

            by_pieces : (ps : List Piece) → t.pieces ≡ ps
                → Moved f (view s) (view ((effect_of f.system i t ps s).0)) l ((effect_of f.system i t ps s).1) []
            by_pieces [] is = to-delays f s l n along effects (λ j x here ran' none. sym (ap (λ z. z.pieces) (own j x here ran')) ∙ is)
            by_pieces (p ∷ ps) is = by_left (t.left == 0) refl
              where
                by_left : (b : Bool) → (t.left == 0) ≡ b
                    → Moved f (view s) (view ((if b then takes_effect f.system i t (done f.system p t.vars ps) s else goes_to Delays s).0)) l
                    ((if b then takes_effect f.system i t (done f.system p t.vars ps) s else goes_to Delays s).1) []
                by_left true h = let none : t.left ≡ 0 = grind arith in effect-moves f s l n i t p ps framed along fit e is none effects ran
                by_left false h = to-delays f s l n along effects
                    (λ j x here ran' none. absurd (differs (ap (λ z. z.left) (own j x here ran') ∙ none)))
                  where
                    differs : t.left ≡ 0 → ⊥
                    differs none = grind (arith, h)

-- the part of delays
delays-move : (f : Frame) (s : State) (l : Log) (n : Notes) → IsFramed f → Along f (view s) l n → s.phase ≡ Delays
    → Moved f (view s) (view ((delay_step f.system (first_where (λ t. is_due s.time t.readiness) s.tasks) s).0)) l
    ((delay_step f.system (first_where (λ t. is_due s.time t.readiness) s.tasks) s).1) []
delays-move f s l n framed along delays = by (first_where (λ t. is_due s.time t.readiness) s.tasks) refl
  where
    asleep : (r : Readiness) → is_due s.time r ≡ true → (until : ℕ) × (r ≡ Asleep until) × (until ≤ s.time)
    asleep (Asleep until) e = (until, refl, (let past : until ≤ s.time = grind arith in past))
    asleep Waiting e = cc
    asleep Ready e = cc

    by : (o : Option (ℕ × Task)) → first_where (λ t. is_due s.time t.readiness) s.tasks ≡ o
        → Moved f (view s) (view ((delay_step f.system o s).0)) l ((delay_step f.system o s).1) []
    by None e = moved-still f (view s) (record (view s) { phase = Arriving }) l n [] on (begun-at s Delays delays (le_refl s.time)) (quiet-none f)
      where
        on : Along f (record (view s) { phase = Arriving }) l n
        on = record {
          base = base-phase f (view s) l n.current Arriving along.base (some-left f (view s) l n along (not-effects s.phase Delays delays tt));
          asking = asking-phase f (view s) l n Arriving along.asking (no-mid f (view s) l n along (not-effects s.phase Delays delays tt))
              (λ j r c has here sleeps.
              let t = seen s.tasks j c here in
              sleeps-arriving s.time l.acts r c.next c.readiness
              (subst (λ x. is_due s.time x ≡ false) (ap (λ x. x.readiness) t.2) (first-none 0 (λ x. is_due s.time x.readiness) s.tasks e j t.0 t.1))
              (subst (λ p. Sleeps p s.time l.acts r c.next c.readiness) delays sleeps));
        }
    by (Some sleeper) e =
        subst (λ o. Moved f (view s) (view ((release_task f.system sleeper.0 o s).0)) l ((release_task f.system sleeper.0 o s).1) []) (sym here)
        (subst (λ v. Moved f (view s) v l (event.Release s.time sleeper.1.thread.unit sleeper.1.gate.value ∷ []) [])
        (sym (view-released f.system sleeper.0 s)) (row (f.row_of sleeper.0) refl))
      where
        found : (slice_get s.tasks sleeper.0 ≡ Some sleeper.1) × (is_due s.time sleeper.1.readiness ≡ true)
        found = first-where (λ t. is_due s.time t.readiness) s.tasks sleeper.0 sleeper.1 e

        here : slice_get s.tasks sleeper.0 ≡ Some sleeper.1
        here = found.0

        row : (o : Option ℕ) → f.row_of sleeper.0 ≡ o
            → Moved f (view s) (changed sleeper.0 (released_core f.system.costs) (view s)) l
            (event.Release s.time sleeper.1.thread.unit sleeper.1.gate.value ∷ []) []
        row None none = release-outside f (view s) l n sleeper.0 (core sleeper.1) sleeper.1.gate.value framed along none
            (see s.tasks sleeper.0 sleeper.1 here)
        row (Some r) has =
            let due = asleep sleeper.1.readiness found.1 in
            release-cyclic f (view s) l n sleeper.0 r due.0 (core sleeper.1) framed along has (see s.tasks sleeper.0 sleeper.1 here) delays due.1
            due.2 (begun-at s Delays delays (le_refl s.time)) sleeper.1.gate.value

-- the horizon
horizon-move : (f : Frame) (s : State) (l : Log) (n : Notes) → Along f (view s) l n → s.phase ≡ Arriving
    → Moved f (view s) (view ((horizon_step f.system s).0)) l ((horizon_step f.system s).1) []
horizon-move f s l n along arriving = by (s.time == f.system.until)
  where
    on : Along f (record (view s) { phase = Use }) l n
    on = record {
      base = base-phase f (view s) l n.current Use along.base (some-left f (view s) l n along (not-effects s.phase Arriving arriving tt));
      asking = asking-phase f (view s) l n Use along.asking (no-mid f (view s) l n along (not-effects s.phase Arriving arriving tt))
          (λ j r c has here sleeps. sleeps-use s.time l.acts r c.next c.readiness
          (subst (λ p. Sleeps p s.time l.acts r c.next c.readiness) arriving sleeps));
    }

    by : (b : Bool) → Moved f (view s) (view ((if b then (record s { stopped = true }, event.Horizon s.time ∷ []) else goes_to Use s).0)) l
        ((if b then (record s { stopped = true }, event.Horizon s.time ∷ []) else goes_to Use s).1) []
    by true = moved-still f (view s) (view s) l n (event.Horizon s.time ∷ []) along (le_refl (since (view s)))
        (quiet-one f (event.Horizon s.time) (λ u. (refl, refl)) tt)
    by false = moved-still f (view s) (record (view s) { phase = Use }) l n [] on (begun-to s Arriving (s.time + 1) arriving (omega arith))
        (quiet-none f)

-- an arrival
arrive-move : (f : Frame) (s : State) (l : Log) (n : Notes) (a : Arrival) (others : List Arrival) → IsFramed f → Along f (view s) l n
    → s.phase ≡ Arriving → s.arrivals ≡ a ∷ others → a.time ≡ s.time
    → Moved f (view s) (view ((arrive_at f.system a (first_where (λ t. t.thread.unit == a.task) s.tasks) (record s { arrivals = others })).0)) l
    ((arrive_at f.system a (first_where (λ t. t.thread.unit == a.task) s.tasks) (record s { arrivals = others })).1) []
arrive-move f s l n a others framed along arriving is now = by (first_where (λ t. t.thread.unit == a.task) s.tasks) refl
  where
    s0 : State
    s0 = record s { arrivals = others }

    by : (o : Option (ℕ × Task)) → first_where (λ t. t.thread.unit == a.task) s.tasks ≡ o
        → Moved f (view s) (view ((arrive_at f.system a o (record s { arrivals = others })).0)) l
        ((arrive_at f.system a o (record s { arrivals = others })).1) []
    by None e =
        moved-still f (view s) (record (view s) { arrivals = others }) l (record n { taken = n.taken ++ a ∷ [] }) []
        (record {
          base = base-arrivals f (view s) l n.current others along.base;
          asking = asking-arrives-else f (view s) l n a others along.asking is (λ j r c has here same.
              let t = seen s.tasks j c here in
              differs t.0.thread.unit (first-none 0 (λ x. x.thread.unit == a.task) s.tasks e j t.0 t.1) (ap (λ x. x.thread.unit) t.2 ∙ sym same));
        })
        (le_refl (since (view s))) (quiet-none f)
      where
        differs : (u : ℕ) → (u == a.task) ≡ false → u ≡ a.task → ⊥
        differs u e h = grind arith
    by (Some x) e =
        moved-then f (view s) (view s1) _ l l _ _ [] []
        (grown-still f (view s) (view s1) l (event.Arrive s.time a.task a.value ∷ []) (le_refl (since (view s)))
        (quiet-one f (event.Arrive s.time a.task a.value) (λ u. (refl, refl)) tt))
        (row (f.row_of x.0) refl)
      where
        s1 : State
        s1 = record (record s { arrivals = others }) {
          tasks
              = change x.0 (λ u. record u { gate = record { value = a.value; open' = true } }) s.tasks;
        }

        found : (slice_get s.tasks x.0 ≡ Some x.1) × ((x.1.thread.unit == a.task) ≡ true)
        found = first-where (λ t. t.thread.unit == a.task) s.tasks x.0 x.1 e

        here : slice_get (map core s.tasks) x.0 ≡ Some (core x.1)
        here = see s.tasks x.0 x.1 found.0

        unit : x.1.thread.unit ≡ a.task
        unit = unit_is found.1
          where
            unit_is : (x.1.thread.unit == a.task) ≡ true → x.1.thread.unit ≡ a.task
            unit_is h = grind arith

        seen_as : view (record (record s { arrivals = others }) {
          tasks
              = change x.0 (λ u. record u { gate = record { value = a.value; open' = true } }) s.tasks;
        })
            ≡ record (changed x.0 opened_core (view s)) { arrivals = others }
        seen_as =
            ap (λ cs. let v : View = record { time = s.time; phase = s.phase; ran = s.ran; arrivals = others; cores = cs } in v)
            (map-changed core x.0 (λ u. record u { gate = record { value = a.value; open' = true } }) opened_core s.tasks (λ t. refl))

        base : Base f (record (changed x.0 opened_core (view s)) { arrivals = others }) l n.current
        base = base-arrivals f (changed x.0 opened_core (view s)) l n.current others (base-opens f (view s) l n.current x.0 along.base)

        row : (o : Option ℕ) → f.row_of x.0 ≡ o
            → Moved f (view (record (record s { arrivals = others }) {
              tasks
                  = change x.0 (λ u. record u { gate = record { value = a.value; open' = true } }) s.tasks;
            }))
            (view ((serve f.system x.0 (record (record s { arrivals = others }) {
              tasks
                  = change x.0 (λ u. record u { gate = record { value = a.value; open' = true } }) s.tasks;
            })).0)) l
            ((serve f.system x.0 (record (record s { arrivals = others }) {
              tasks
                  = change x.0 (λ u. record u { gate = record { value = a.value; open' = true } }) s.tasks;
            })).1) []
        row None none =
            let n' : Notes = record n { taken = n.taken ++ a ∷ [] } in
            let on : Along f (record (changed x.0 opened_core (view s)) { arrivals = others }) l n' = record {
              base = base;
              asking = asking-arrives-else f (changed x.0 opened_core (view s)) l n a others
                  (asking-open-else f (view s) l n x.0 none along.asking) is
                  (λ j r c has at. each-changed (λ j d. HasRow f j r → a.task ≢ d.thread.unit) x.0 opened_core (map core s.tasks)
                  (λ k d other e' has' same. other (framed.units k x.0 d.thread x.1.thread (written-at along.base.written k d e')
                  (written-at along.base.written x.0 (core x.1) here) (sym same ∙ sym unit)))
                  (λ d e' has'. absurd (no-row f x.0 r none has')) j c at has);
            } in
            serve-moves f s1 l n' x.0 framed (subst (λ v. Along f v l n') (sym seen_as) on) (λ r q has kept. absurd (no-row f x.0 r none has))
            (begun-at s Arriving arriving (le_refl s.time))
        row (Some r) has =
            let arrived = asking-arrives f (view s) l n a others x.0 r (core x.1) framed along.base along.asking
            (no-mid f (view s) l n along (not-effects s.phase Arriving arriving tt)) is (sym now) has here unit in
            let q : Kept = arrived.0 in
            let n' : Notes = record n { kept = put x.0 (Some q) n.kept; taken = n.taken ++ a ∷ [] } in
            let on : Along f (record (changed x.0 opened_core (view s)) { arrivals = others }) l n' = record { base = base; asking = arrived.1 } in
            serve-moves f s1 l n' x.0 framed (subst (λ v. Along f v l n') (sym seen_as) on)
            (λ z p has' kept. inl (sym arrived.2 ∙ ap (λ y. y.asked)
            (same-item (put x.0 (Some q) n.kept x.0) q p (put-here x.0 x.0 (Some q) n.kept refl) kept)))
            (begun-at s Arriving arriving (le_refl s.time))

-- the part of arrivals
arrivals-move : (f : Frame) (s : State) (l : Log) (n : Notes) → IsFramed f → Along f (view s) l n → s.phase ≡ Arriving
    → Moved f (view s) (view ((arrival_step f.system s.arrivals s).0)) l ((arrival_step f.system s.arrivals s).1) []
arrivals-move f s l n framed along arriving = by s.arrivals refl
  where
    by : (as' : List Arrival) → s.arrivals ≡ as' → Moved f (view s) (view ((arrival_step f.system as' s).0)) l ((arrival_step f.system as' s).1) []
    by [] is = horizon-move f s l n along arriving
    by (a ∷ others) is = by_time (a.time == s.time) refl
      where
        by_time : (b : Bool) → (a.time == s.time) ≡ b
            → Moved f (view s)
            (view ((if b then arrive_at f.system a (first_where (λ t. t.thread.unit == a.task) s.tasks)
            (record s { arrivals = others }) else horizon_step f.system s).0)) l
            ((if b then arrive_at f.system a (first_where (λ t. t.thread.unit == a.task) s.tasks)
            (record s { arrivals = others }) else horizon_step f.system s).1) []
        by_time true h = arrive-move f s l n a others framed along arriving is (let same : a.time ≡ s.time = grind arith in same)
        by_time false h = horizon-move f s l n along arriving

-- the use of a tick
use-move : (f : Frame) (s : State) (l : Log) (n : Notes) → IsFramed f → Along f (view s) l n → s.phase ≡ Use
    → Moved f (view s) (view ((use_step f.system (dispatched s.tasks s.orders) s).0)) l ((use_step f.system (dispatched s.tasks s.orders) s).1)
    (dispatched s.tasks s.orders ∷ [])
use-move f s l n framed along using = by (dispatched s.tasks s.orders) refl
  where
    some : SomeLeft f (view s)
    some = some-left f (view s) l n along (not-effects s.phase Use using tt)

    none_mid : NoMid f (view s)
    none_mid = no-mid f (view s) l n along (not-effects s.phase Use using tt)

    later : since (view s) ≤ s.time + 1
    later = begun-to s Use (s.time + 1) using (le_refl (s.time + 1))

    by : (o : Option ℕ) → dispatched s.tasks s.orders ≡ o → Moved f (view s) (view ((use_step f.system o s).0)) l ((use_step f.system o s).1) (o ∷ [])
    by None e = record {
      log = ticked None l;
      notes = n;
      along = record {
        base = base-idle f (view s) l n.current None along.base some;
        asking = asking-idle f (view s) l n None None using along.asking none_mid;
      };
      grown = grown-ticked f (view s) (after_tick None (map core s.tasks) (view s)) l None None later (λ j r is has. none-some j is);
    }
    by (Some i) e = subst (λ v. Moved f (view s) v l [] (Some i ∷ [])) (sym seen_as) (row (f.row_of i) refl)
      where
        found : (t : Task) × (slice_get s.tasks i ≡ Some t) × (t.readiness ≡ Ready)
        found = dispatched-ready s.tasks s.orders i e

        seen_as : view ((use_step f.system (Some i) s).0) ≡ after_tick (Some i) (change i ticked_core (map core s.tasks)) (view s)
        seen_as = ap (λ cs. let v : View = record { time = s.time + 1; phase = Effects; ran = Some i; arrivals = s.arrivals; cores = cs } in v)
            (map-changed core i (λ t. record t { left = t.left - 1; used = t.used + 1 }) ticked_core s.tasks (λ t. refl))

        row : (o : Option ℕ) → f.row_of i ≡ o
            → Moved f (view s) (after_tick (Some i) (change i ticked_core (map core s.tasks)) (view s)) l [] (Some i ∷ [])
        row None none = record {
          log = ticked None l;
          notes = n;
          along = record {
            base = base-idle f (changed i ticked_core (view s)) l n.current (Some i)
                (base-outside f (view s) l n.current i ticked_core none (λ x. refl) along.base)
                (λ j r c has here. each-changed (λ j d. HasRow f j r → d.readiness ≡ Ready → d.left ≢ 0) i ticked_core (map core s.tasks)
                (λ k d other e' has'. some k r d has' e') (λ d e' has'. absurd (no-row f i r none has')) j c here has);
            asking = asking-ticked f (view s) l n i None using along.asking none_mid;
          };
          grown = grown-ticked f (view s) (after_tick (Some i) (change i ticked_core (map core s.tasks)) (view s)) l None (Some i) later
              (λ j r is has. no-row f i r none (subst (λ k. f.row_of k ≡ Some r) (sym (same_Some i j is)) has));
        }
        row (Some r) has =
            let here : slice_get (map core s.tasks) i ≡ Some (core found.0) = see s.tasks i found.0 found.1 in
            let busy : Busy f (now_of (view s)) l (n.current i) i r (core found.0) = along.base.runs i (core found.0) here r has found.2 in
            record {
              log = ticked (Some (n.current i)) l;
              notes = n;
              along = record {
                base = base-ticked f (view s) l n.current i r (core found.0) along.base some has here found.2;
                asking = asking-ticked f (view s) l n i (Some (n.current i)) using along.asking none_mid;
              };
              grown = grown-ticked f (view s) (after_tick (Some i) (change i ticked_core (map core s.tasks)) (view s)) l (Some (n.current i))
                  (Some i) later
                  (busy.own.made, busy.own.stands, ap Some (sym busy.own.task));
            }

-- a step
pub step-moves : (f : Frame) (s : State) (l : Log) (n : Notes) → IsFramed f → Along f (view s) l n → IsFit s
    → Moved f (view s) (view ((step f.system s).0)) l ((step f.system s).1) (step_users s)
step-moves f s l n framed along fit = by s.stopped
  where
    by_phase : (p : Phase) → s.phase ≡ p → Moved f (view s) (view ((step_in p f.system s).0)) l ((step_in p f.system s).1) (users_in p s)
    by_phase Effects e = effects-move f s l n framed along fit e
    by_phase Delays e = delays-move f s l n framed along e
    by_phase Arriving e = arrivals-move f s l n framed along e
    by_phase Use e = use-move f s l n framed along e

    by : (b : Bool) → Moved f (view s) (view ((if b then (s, []) else step_in s.phase f.system s).0)) l
        ((if b then (s, []) else step_in s.phase f.system s).1) (if b then [] else users_in s.phase s)
    by true = moved-still f (view s) (view s) l n [] along (le_refl (since (view s))) (quiet-none f)
    by false = by_phase s.phase refl

-- a run
pub run-moves : (f : Frame) (m : ℕ) (s : State) (l : Log) (n : Notes) → IsFramed f → Along f (view s) l n
    → ((k : ℕ) → k < m → IsFit (run f.system k s).0)
    → Moved f (view s) (view ((run f.system m s).0)) l ((run f.system m s).1) (run_users f.system m s)
run-moves f zero s l n framed along fit = moved-still f (view s) (view s) l n [] along (le_refl (since (view s))) (quiet-none f)
run-moves f (suc m) s l n framed along fit =
    let first = step-moves f s l n framed along (fit 0 (omega arith)) in
    moved-then f (view s) (view ((step f.system s).0)) (view ((run f.system m (step f.system s).0).0)) l first.log ((step f.system s).1)
    ((run f.system m (step f.system s).0).1)
    (step_users s) (run_users f.system m (step f.system s).0) first.grown
    (run-moves f m (step f.system s).0 first.log first.notes framed first.along (λ k less. fit (suc k) (omega arith)))
