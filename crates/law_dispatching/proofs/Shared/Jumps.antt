-- The law of jumps: where nothing is due before so many ticks have passed, they can be used at once.
use Rattle.std.specs.Prelude.{◌≡◌, ◌⊎◌, ℕ, zero, suc, ◌+◌, ◌*◌, ◌-◌, ◌<◌, ◌≤◌, Bool, true, false, List, [], ◌∷◌, ◌==◌, if◌then◌else◌, Option}
use Rattle.std.specs.Prelude.{Some, None, ℤ, slice_get, option_map, refl}
use Rattle.std.proofs.Common.{sym, ◌∙◌, ap, subst, arith, inl, inr}
use Rattle.std.proofs.lemmas.Option.{none-some, same_Some}
use Rattle.std.proofs.lemmas.Bool.Decides.{nat_tests}
use Rattle.seq_tree.specs.Variables.{Variables}
use Rattle.arrivals_tree.specs.declared.arrivals.Arrival.{Arrival}
use Rattle.seq_tree.specs.Lists.{change, first_from, first_where}
use Rattle.machine.specs.Systems.{System}
use Rattle.machine.specs.Pieces.{Piece}
use Rattle.machine.specs.States.{State, Task, Phase, Effects, Delays, Arriving, Use}
use Rattle.machine.specs.Dispatch.{candidates, candidate_if, dispatched, dispatched_of}
use Rattle.machine.specs.Releases.{Next, after}
use Rattle.machine.specs.Steps.{step, use_step, effect_step, effect_at, effect_of, delay_step, arrival_step, horizon_step, arrive_at, is_due}
use Rattle.machine.specs.Effects.{takes_effect}
use Rattle.machine.specs.Deeds.{done}
use Rattle.trace_tree.specs.declared.event.Event.TheVariants as event
use Rattle.machine.specs.Meanings.{run, and_then}
use Rattle.machine.proofs.Shared.RunLaws.{run_add}
use Rattle.law_dispatching.specs.Jumping.{NoArrival, IsQuiet, HasTicks, used_by, ticks_later}
use Rattle.law_dispatching.proofs.Shared.Places.{get-change}

-- the use of ticks by a task
abbrev ticks : ℕ → Task → Task
ticks n t = record t { left = t.left - n; used = t.used + n }

-- what is not changed of a task: whether it is ready, and its active priority
candidates-ticks : (n m i : ℕ) (ts : List Task) (os : List ℤ) → candidates n (change i (ticks m) ts) os ≡ candidates n ts os
candidates-ticks n m i [] os = refl
candidates-ticks n m zero (t ∷ ts) [] = refl
candidates-ticks n m zero (t ∷ ts) (o ∷ os) = refl
candidates-ticks n m (suc i) (t ∷ ts) [] = refl
candidates-ticks n m (suc i) (t ∷ ts) (o ∷ os) =
    ap (candidate_if t.readiness (record { task = n; active = t.active; order = o })) (candidates-ticks (suc n) m i ts os)

dispatched-ticks : (o : Option ℕ) (m : ℕ) (ts : List Task) (os : List ℤ) → dispatched (used_by o m ts) os ≡ dispatched ts os
dispatched-ticks None m ts os = refl
dispatched-ticks (Some i) m ts os = ap dispatched_of (candidates-ticks 0 m i ts os)

-- whether a sleeper is due
abbrev due : ℕ → Task → Bool
due time t = is_due time t.readiness

none_due-change : (n time m i : ℕ) (ts : List Task) → first_from n (due time) ts ≡ None → first_from n (due time) (change i (ticks m) ts) ≡ None
none_due-change n time m i [] e = refl
none_due-change n time m zero (t ∷ ts) e = by_due (due time t) e
  where
    by_due : (b : Bool) → (if b then Some (n, t) else first_from (suc n) (due time) ts) ≡ None
        → (if b then Some (n, ticks m t) else first_from (suc n) (due time) ts) ≡ None
    by_due true e' = absurd (none-some (n, t) (sym e'))
    by_due false e' = e'
none_due-change n time m (suc i) (t ∷ ts) e = by_due (due time t) e (none_due-change (suc n) time m i ts)
  where
    by_due : (b : Bool) → (if b then Some (n, t) else first_from (suc n) (due time) ts) ≡ None
        → (first_from (suc n) (due time) ts ≡ None → first_from (suc n) (due time) (change i (ticks m) ts) ≡ None)
        → (if b then Some (n, t) else first_from (suc n) (due time) (change i (ticks m) ts)) ≡ None
    by_due true e' later = absurd (none-some (n, t) (sym e'))
    by_due false e' later = later e'

none_due-used : (time m : ℕ) (o : Option ℕ) (ts : List Task) → first_where (due time) ts ≡ None → first_where (due time) (used_by o m ts) ≡ None
none_due-used time m None ts e = e
none_due-used time m (Some i) ts e = none_due-change 0 time m i ts e

-- uses one after another
change-change : (i : ℕ) (f g h : Task → Task) (ts : List Task) → ((t : Task) → f (g t) ≡ h t) → change i f (change i g ts) ≡ change i h ts
change-change i f g h [] e = refl
change-change zero f g h (t ∷ ts) e = ap (λ u. u ∷ ts) (e t)
change-change (suc i) f g h (t ∷ ts) e = ap (λ us. t ∷ us) (change-change i f g h ts e)

ticks-add : (n : ℕ) (t : Task) → ticks n (ticks 1 t) ≡ ticks (suc n) t
ticks-add n t =
    let left : t.left - 1 - n ≡ t.left - suc n = omega arith in
    let used : t.used + 1 + n ≡ t.used + suc n = omega arith in
    ap (λ k. record t { left = k; used = t.used + 1 + n }) left ∙ ap (λ k. record t { left = t.left - suc n; used = k }) used

used-add : (o : Option ℕ) (n : ℕ) (ts : List Task) → used_by o n (used_by o 1 ts) ≡ used_by o (suc n) ts
used-add None n ts = refl
used-add (Some i) n ts = change-change i (ticks n) (ticks 1) (ticks (suc n)) ts (ticks-add n)

-- a state of a run that goes on
abbrev state : ℕ → Phase → Option ℕ → List Arrival → List Task → List ℤ → List Variables → State
state time phase ran arrivals tasks orders stores =
    record { time = time; phase = phase; ran = ran; arrivals = arrivals; stopped = false; tasks = tasks; orders = orders; stores = stores }

no_arrival : (y : System) (time : ℕ) (ran : Option ℕ) (arrivals : List Arrival) (tasks : List Task) (orders : List ℤ) (stores : List Variables)
    → NoArrival time arrivals → (time == y.until) ≡ false
    → arrival_step y arrivals (state time Arriving ran arrivals tasks orders stores) ≡ (state time Use ran arrivals tasks orders stores, [])
no_arrival y time ran [] tasks orders stores none before =
    ap (λ b. if b then (record (state time Arriving ran [] tasks orders stores) { stopped = true }, event.Horizon time ∷ [])
    else (state time Use ran [] tasks orders stores, [])) before
no_arrival y time ran (a ∷ others) tasks orders stores none before =
    let s : State = state time Arriving ran (a ∷ others) tasks orders stores in
    ap (λ b. if b then arrive_at y a (first_where (λ t. t.thread.unit == a.task) tasks) (record s { arrivals = others }) else horizon_step y s) none
    ∙ ap (λ b. if b then (record s { stopped = true }, event.Horizon time ∷ []) else (record s { phase = Use }, [])) before

-- no effect, where ticks are left
no_effect : (y : System) (i : ℕ) (t : Task) (pieces : List Piece) (s : State) → (t.left == 0) ≡ false
    → effect_of y i t pieces s ≡ (record s { phase = Delays }, [])
no_effect y i t [] s some = refl
no_effect y i t (p ∷ ps) s some = ap (λ b. if b then takes_effect y i t (done y p t.vars ps) s else (record s { phase = Delays }, [])) some

no_effect-used : (y : System) (o : Option ℕ) (tasks : List Task) (s : State) → HasTicks tasks 2 o → s.tasks ≡ used_by o 1 tasks
    → effect_step y o s ≡ (record s { phase = Delays }, [])
no_effect-used y None tasks s has e = refl
no_effect-used y (Some i) tasks s has e =
    ap (λ ts. effect_at y i (slice_get ts i) s) e ∙ ap (λ o. effect_at y i o s) (get-change i (ticks 1) tasks) ∙ by_task (slice_get tasks i)
    (λ t h. has t h)
  where
    by_task : (o : Option Task) → ((t : Task) → o ≡ Some t → 2 ≤ t.left) → effect_at y i (option_map (ticks 1) o) s
        ≡ (record s { phase = Delays }, [])
    by_task None has' = refl
    by_task (Some t) has' = no_effect y i (ticks 1 t) t.pieces s (more t.left (has' t refl))
      where
        more : (k : ℕ) → 2 ≤ k → (k - 1 == 0) ≡ false
        more k h = grind (arith, nat_tests)

-- a tick at which nothing else happens
one_tick : (y : System) (time : ℕ) (o ran : Option ℕ) (arrivals : List Arrival) (tasks : List Task) (orders : List ℤ) (stores : List Variables)
    → dispatched tasks orders ≡ o → HasTicks tasks 2 o
    → first_where (due (time + 1)) tasks ≡ None → NoArrival (time + 1) arrivals → (time + 1 == y.until) ≡ false
    → run y 4 (state time Use ran arrivals tasks orders stores) ≡ (state (time + 1) Use o arrivals (used_by o 1 tasks) orders stores, [])
one_tick y time o ran arrivals tasks orders stores first has none_due none_arrives before =
    let s : State = state time Use ran arrivals tasks orders stores in
    let s' : Phase → State = λ phase. state (time + 1) phase o arrivals (used_by o 1 tasks) orders stores in
    let used : step y s ≡ (s' Effects, []) = ap (λ d. use_step y d s) first ∙ uses o in
    let effects : step y (s' Effects) ≡ (s' Delays, []) = no_effect-used y o tasks (s' Effects) has refl in
    let delays : step y (s' Delays) ≡ (s' Arriving, []) = ap (λ d. delay_step y d (s' Delays)) (none_due-used (time + 1) 1 o tasks none_due) in
    let arriving : step y (s' Arriving) ≡ (s' Use, []) = no_arrival y (time + 1) o arrivals (used_by o 1 tasks) orders stores none_arrives before in
    ap (and_then (run y 3)) used ∙ ap (λ n. after [] (and_then (run y 2) n)) effects
    ∙ ap (λ n. after [] (after [] (and_then (run y 1) n))) delays ∙ ap (λ n. after [] (after [] (after [] (and_then (run y 0) n)))) arriving
  where
    uses : (d : Option ℕ) → use_step y d (state time Use ran arrivals tasks orders stores)
        ≡ (state (time + 1) Effects d arrivals (used_by d 1 tasks) orders stores, [])
    uses None = refl
    uses (Some i) = refl

-- the use of one tick
last_tick : (y : System) (time : ℕ) (o ran : Option ℕ) (arrivals : List Arrival) (tasks : List Task) (orders : List ℤ) (stores : List Variables)
    → dispatched tasks orders ≡ o → run y 1 (state time Use ran arrivals tasks orders stores)
    ≡ (state (time + 1) Effects o arrivals (used_by o 1 tasks) orders stores, [])
last_tick y time o ran arrivals tasks orders stores first =
    let s : State = state time Use ran arrivals tasks orders stores in
    let used : step y s ≡ (state (time + 1) Effects o arrivals (used_by o 1 tasks) orders stores, []) = ap (λ d. use_step y d s) first ∙ uses o in
    ap (and_then (run y 0)) used
  where
    uses : (d : Option ℕ) → use_step y d (state time Use ran arrivals tasks orders stores)
        ≡ (state (time + 1) Effects d arrivals (used_by d 1 tasks) orders stores, [])
    uses None = refl
    uses (Some i) = refl

has-used : (o : Option ℕ) (n : ℕ) (tasks : List Task) → HasTicks tasks (suc n) o → HasTicks (used_by o 1 tasks) n o
has-used None n tasks has = tt
has-used (Some i) n tasks has = λ t h. by_task (slice_get tasks i) has t (sym (get-change i (ticks 1) tasks) ∙ h)
  where
    by_task : (o : Option Task) → ((t : Task) → o ≡ Some t → suc n ≤ t.left) → (t : Task) → option_map (ticks 1) o ≡ Some t → n ≤ t.left
    by_task None has' t e = absurd (none-some t e)
    by_task (Some u) has' t e =
        let same : ticks 1 u ≡ t = same_Some (ticks 1 u) t e in
        let lefts : u.left - 1 ≡ t.left = ap (λ v. v.left) same in
        let had : suc n ≤ u.left = has' u refl in
        omega arith

has-fewer : (o : Option ℕ) (m n : ℕ) (tasks : List Task) → m ≤ n → HasTicks tasks n o → HasTicks tasks m o
has-fewer None m n tasks le has = tt
has-fewer (Some i) m n tasks le has = λ t h. let k : n ≤ t.left = has t h in omega arith

-- what is not due at a time, of which arrivals and tasks alone tell
abbrev Calm : System → List Arrival → List Task → ℕ → Type 0
Calm y arrivals tasks time = IsQuiet y (state 0 Use None arrivals tasks [] []) time

calm-used : (y : System) (arrivals : List Arrival) (o : Option ℕ) (tasks : List Task) (time : ℕ) → Calm y arrivals tasks time
    → Calm y arrivals (used_by o 1 tasks) time
calm-used y arrivals o tasks time c = record {
  no_sleeper = none_due-used time 1 o tasks c.no_sleeper;
  no_arrival = c.no_arrival;
  no_horizon = c.no_horizon;
}

many_ticks : (y : System) (n time : ℕ) (o ran : Option ℕ) (arrivals : List Arrival) (tasks : List Task) (orders : List ℤ) (stores : List Variables)
    → dispatched tasks orders ≡ o → HasTicks tasks (suc n) o → ((j : ℕ) → j < n → Calm y arrivals tasks (time + suc j))
    → run y (4 * n + 1) (state time Use ran arrivals tasks orders stores)
    ≡ (state (time + suc n) Effects o arrivals (used_by o (suc n) tasks) orders stores, [])
many_ticks y zero time o ran arrivals tasks orders stores first has calm = last_tick y time o ran arrivals tasks orders stores first
many_ticks y (suc n) time o ran arrivals tasks orders stores first has calm =
    let s : State = state time Use ran arrivals tasks orders stores in
    let s' : State = state (time + 1) Use o arrivals (used_by o 1 tasks) orders stores in
    let now : Calm y arrivals tasks (time + 1) = calm 0 (omega arith) in
    let count : 4 * suc n + 1 ≡ 4 + (4 * n + 1) = omega arith in
    let one : run y 4 s ≡ (s', []) = one_tick y time o ran arrivals tasks orders stores first (has-fewer o 2 (suc (suc n)) tasks (omega arith) has)
    now.no_sleeper now.no_arrival now.no_horizon in
    let shift : (j : ℕ) → time + suc (suc j) ≡ time + 1 + suc j = λ j. omega arith in
    let later : (j : ℕ) → j < n → Calm y arrivals (used_by o 1 tasks) (time + 1 + suc j) =
    λ j h. subst (Calm y arrivals (used_by o 1 tasks)) (shift j) (calm-used y arrivals o tasks (time + suc (suc j)) (calm (suc j) (omega arith))) in
    let more : run y (4 * n + 1) s' ≡ (state (time + 1 + suc n) Effects o arrivals (used_by o (suc n) (used_by o 1 tasks)) orders stores, []) =
    many_ticks y n (time + 1) o o arrivals (used_by o 1 tasks) orders stores (dispatched-ticks o 1 tasks orders ∙ first)
    (has-used o (suc n) tasks has) later in
    ap (λ k. run y k s) count ∙ run_add y 4 (4 * n + 1) s ∙ ap (and_then (run y (4 * n + 1))) one ∙ ap (after []) more
    ∙ ap (λ k. let next : Next = (state k Effects o arrivals (used_by o (suc n) (used_by o 1 tasks)) orders stores, []) in next) (sym (shift n))
    ∙ ap (λ ts. let next : Next = (state (time + suc (suc n)) Effects o arrivals ts orders stores, []) in next) (used-add o (suc n) tasks)

-- the law
pub ticks_at_once : (y : System) (n : ℕ) (s : State) → s.phase ≡ Use → s.stopped ≡ false → HasTicks s.tasks (suc n) (dispatched s.tasks s.orders)
    → ((j : ℕ) → j < n → IsQuiet y s (s.time + suc j)) → run y (4 * n + 1) s ≡ (ticks_later (dispatched s.tasks s.orders) (suc n) s, [])
ticks_at_once y n s phase goes_on has quiet =
    let o : Option ℕ = dispatched s.tasks s.orders in
    let is : s ≡ state s.time Use s.ran s.arrivals s.tasks s.orders s.stores =
    ap (λ p. record s { phase = p }) phase ∙ ap (λ b. record s { phase = Use; stopped = b }) goes_on in
    let back : state (s.time + suc n) Effects o s.arrivals (used_by o (suc n) s.tasks) s.orders s.stores ≡ ticks_later o (suc n) s =
    ap (λ b. record (ticks_later o (suc n) s) { stopped = b }) (sym goes_on) in
    ap (run y (4 * n + 1)) is
    ∙ many_ticks y n s.time o s.ran s.arrivals s.tasks s.orders s.stores refl has
    (λ j h. record { no_sleeper = (quiet j h).no_sleeper; no_arrival = (quiet j h).no_arrival; no_horizon = (quiet j h).no_horizon })
    ∙ ap (λ z. let next : Next = (z, []) in next) back

-- one tick asks for no ticks left
pub ticks_or_one : (y : System) (n : ℕ) (s : State) → s.phase ≡ Use → s.stopped ≡ false
    → (n ≡ 0) ⊎ HasTicks s.tasks (suc n) (dispatched s.tasks s.orders)
    → ((j : ℕ) → j < n → IsQuiet y s (s.time + suc j)) → run y (4 * n + 1) s ≡ (ticks_later (dispatched s.tasks s.orders) (suc n) s, [])
ticks_or_one y n s phase goes_on (inr has) quiet = ticks_at_once y n s phase goes_on has quiet
ticks_or_one y n s phase goes_on (inl none) quiet =
    let o : Option ℕ = dispatched s.tasks s.orders in
    let is : s ≡ state s.time Use s.ran s.arrivals s.tasks s.orders s.stores =
    ap (λ p. record s { phase = p }) phase ∙ ap (λ b. record s { phase = Use; stopped = b }) goes_on in
    let back : state (s.time + 1) Effects o s.arrivals (used_by o 1 s.tasks) s.orders s.stores ≡ ticks_later o 1 s
    = ap (λ b. record (ticks_later o 1 s) { stopped = b }) (sym goes_on) in
    let once : run y 1 s ≡ (ticks_later o 1 s, []) =
    ap (run y 1) is ∙ last_tick y s.time o s.ran s.arrivals s.tasks s.orders s.stores refl ∙ ap (λ z. let next : Next = (z, []) in next) back in
    let P : ℕ → Type 0 = λ k. run y (4 * k + 1) s ≡ (ticks_later o (suc k) s, []) in
    subst P (sym none) once
