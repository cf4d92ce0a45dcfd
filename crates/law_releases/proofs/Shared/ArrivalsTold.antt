-- Requests from outside are told as they arrive, in order, up to the horizon, in every run without a stop.
use Rattle.std.specs.Prelude.{◌≡◌, ◌⊎◌, ℕ, zero, suc, ◌+◌, ◌≤◌, Bool, true, false, ◌&&◌, ◌==◌, cond, List, [], ◌∷◌, ◌++◌, map, filter}
use Rattle.std.specs.Prelude.{filter_map, nat_lt, nat_le, Option, Some, None, slice_get, option_map, refl, if◌then◌else◌}
use Rattle.std.specs.List.{list_any, cons_option}
use Rattle.std.proofs.Common.{sym, ◌∙◌, ap, subst, arith, inl, inr}
use Rattle.std.proofs.lemmas.Option.{slice_get-map, none-some, same_Some}
use Rattle.seq_tree.specs.Lists.{change, Each, first_where}
use Rattle.seq_tree.specs.Variables.{Variables}
use Rattle.ada_tree.specs.Programs.{Program}
use Rattle.arrivals_tree.specs.declared.arrivals.Arrival.{Arrival}
use Rattle.arrivals_tree.specs.Arriving.{Arrivals}
use Rattle.arrivals_tree.specs.Acceptance.{requests_fault, IsAccepted}
use Rattle.trace_tree.specs.declared.event.Event.{Event}
use Rattle.trace_tree.specs.declared.event.Event.TheVariants as event
use Rattle.machine.specs.Systems.{System, TaskUnit, system}
use Rattle.machine.specs.Pieces.{Piece}
use Rattle.machine.specs.Deeds.{Act, Silent, Print, Enter, Leave, Ask, Keep, Open, Ended, Finish, PieceOutcome, done}
use Rattle.machine.specs.States.{State, Task, Phase, Effects, Delays, Arriving, Use, Resource, Object, Control}
use Rattle.machine.specs.Dispatch.{dispatched}
use Rattle.machine.specs.Releases.{Next, release_task, release, is_waiting, serve_task, serve}
use Rattle.machine.specs.Effects.{acted, takes_effect, entry, entered_at, stopped_at, exit, ended, ceiling_of}
use Rattle.machine.specs.Steps.{step, step_in, goes_to, effect_of, effect_at, effect_step, delay_step, horizon_step, arrive_at, arrival_step}
use Rattle.machine.specs.Steps.{use_step, is_due}
use Rattle.machine.specs.Meanings.{run, Meaning, start}
use Rattle.machine.proofs.Shared.RunLaws.{stopped_stays}
use Rattle.guarantee.specs.Events.{named}
use Rattle.guarantee.specs.Arrivals.{named_arrivals}
use Rattle.guarantee.specs.Requests.{arrival_by, AreTold}
use Rattle.guarantee.specs.MachineLaw.{NeverStops}
use Rattle.law_written.proofs.Shared.Moves.{threads_of, HasUnit, IsNow, is_stopping, Goes, change-threads, acted-goes, release-goes, serve-goes}
use Rattle.law_written.proofs.Shared.Walks.{IsTimely, Ends, Walks, step-walks}
use Rattle.law_written.proofs.Shared.InOrder.{quiet_front, quiet_back, quiet_names, first_threads}
use Rattle.std.proofs.lemmas.Bool.{true≢false, eq-eqb}
use Rattle.law_lists.proofs.Shared.Facts.{first-none}
use Rattle.law_releases.proofs.Shared.AcceptedArrivals.{named_item, Later, later_mono, items_later, items_units, no_item_fault}

-- the arrivals that are told
abbrev arrived_by : Event → Option Arrival
arrived_by (event.Arrive time task value) = Some (record { time = time; task = task; value = value })
arrived_by _ = None

abbrev arrived : List Event → List Arrival
arrived es = filter_map arrived_by es

arrived-append : (xs ys : List Event) → arrived (xs ++ ys) ≡ arrived xs ++ arrived ys
arrived-append [] ys = refl
arrived-append (e ∷ xs) ys = by (arrived_by e) (arrived-append xs ys)
  where
    by : (o : Option Arrival) → arrived (xs ++ ys) ≡ arrived xs ++ arrived ys
        → cons_option o (arrived (xs ++ ys)) ≡ cons_option o (arrived xs) ++ arrived ys
    by None h = h
    by (Some a) h = ap (λ zs. a ∷ zs) h

-- what tells no arrival and takes none
abbrev Quiet : State → Next → Type 0
Quiet s next = (arrived next.1 ≡ []) × (next.0.arrivals ≡ s.arrivals)

release_task-quiet : (y : System) (i : ℕ) (o : Option Task) (s : State) → Quiet s (release_task y i o s)
release_task-quiet y i None s = (refl, refl)
release_task-quiet y i (Some t) s = (refl, refl)

serve_task-quiet : (y : System) (i : ℕ) (o : Option Task) (s : State) → Quiet s (serve_task y i o s)
serve_task-quiet y i None s = (refl, refl)
serve_task-quiet y i (Some t) s = by (is_waiting t.readiness && t.gate.open')
  where
    by : (b : Bool) → Quiet s (if b then release y i s else (s, []))
    by true = release_task-quiet y i (slice_get s.tasks i) s
    by false = (refl, refl)

serve-quiet : (y : System) (i : ℕ) (s : State) → Quiet s (serve y i s)
serve-quiet y i s = serve_task-quiet y i (slice_get s.tasks i) s

entry-quiet : (y : System) (i : ℕ) (t : Task) (c : Resource) (told : List Event) (vars : Variables) (ps : List Piece) (s : State) → arrived told ≡ []
    → Quiet s (entry y i t c told vars ps s)
entry-quiet y i t c told vars ps s none = by c (nat_lt (ceiling_of y c) t.active)
  where
    by : (z : Resource) (b : Bool) → Quiet s (if b then stopped_at y t z s else entered_at y i z told vars ps s)
    by z true = (refl, refl)
    by (Object k) false = (none, refl)
    by (Control k) false = (none, refl)

acted-quiet : (y : System) (i : ℕ) (t : Task) (act : Act) (vars : Variables) (ps : List Piece) (s : State) → Quiet s (acted y i t act vars ps s)
acted-quiet y i t Silent vars ps s = (refl, refl)
acted-quiet y i t (Print v) vars ps s = (refl, refl)
acted-quiet y i t (Enter object op values) vars ps s = entry-quiet y i t (Object object) _ vars ps s refl
acted-quiet y i t (Leave object op values data') vars ps s = (refl, refl)
acted-quiet y i t (Ask task) vars ps s = entry-quiet y i t (Control task) [] vars ps s refl
acted-quiet y i t (Keep task v) vars ps s = (refl, refl)
acted-quiet y i t (Open task) vars ps s = (refl, refl)
acted-quiet y i t (Ended task v) vars ps s = serve-quiet y task (exit y i vars ps s)
acted-quiet y i t Finish vars ps s = serve-quiet y i (record s { tasks = change i (ended vars) s.tasks })

-- the arrivals left at a part of an instant
abbrev AreLeft : Phase → ℕ → List Arrival → Type 0
AreLeft Effects now as' = Later now as'
AreLeft Delays now as' = Later now as'
AreLeft Arriving now as' = Later now as'
AreLeft Use now as' = Later (suc now) as'

-- a step: nothing arrives, or the first arrival
record Takes (s : State) (next : Next) : Type 0 where
  first : Arrival
  others : List Arrival
  here : s.arrivals ≡ first ∷ others
  now : first.time ≡ s.time
  told : arrived next.1 ≡ first ∷ []
  left : next.0.arrivals ≡ others

abbrev Comes : State → Next → Type 0
Comes s next = Quiet s next ⊎ Takes s next

-- a unit of a thread that some task has
task_there : (ths : List TaskUnit) (ts : List Task) (unit : ℕ) → threads_of ts ≡ ths → HasUnit ths unit
    → (k : ℕ) × (t : Task) × (slice_get ts k ≡ Some t) × (t.thread.unit ≡ unit)
task_there ths ts unit same has
    = by (slice_get ts has.0) refl (sym (slice_get-map (λ u. u.thread) ts has.0) ∙ ap (λ hs. slice_get hs has.0) same ∙ has.2)
  where
    by : (o : Option Task) → slice_get ts has.0 ≡ o → option_map (λ u. u.thread) (slice_get ts has.0) ≡ Some has.1
        → (k : ℕ) × (t : Task) × (slice_get ts k ≡ Some t) × (t.thread.unit ≡ unit)
    by None e h = absurd (none-some has.1 (sym (ap (option_map (λ u. u.thread)) e) ∙ h))
    by (Some t) e h = (has.0, t, e, ap (λ th. th.unit) (same_Some t.thread has.1 (sym (ap (option_map (λ u. u.thread)) e) ∙ h)) ∙ has.3)

arrives : (y : System) (s : State) (a : Arrival) (others : List Arrival) (o : Option (ℕ × Task))
    → first_where (λ t. t.thread.unit == a.task) s.tasks ≡ o → threads_of s.tasks ≡ y.threads → HasUnit y.threads a.task
    → a.time ≡ s.time → s.arrivals ≡ a ∷ others → Comes s (arrive_at y a o (record s { arrivals = others }))
arrives y s a others None e same has now here =
    let t : (k : ℕ) × (t : Task) × (slice_get s.tasks k ≡ Some t) × (t.thread.unit ≡ a.task) = task_there y.threads s.tasks a.task same has in
    absurd (true≢false (sym (eq-eqb t.1.thread.unit a.task t.3) ∙ first-none 0 (λ z. z.thread.unit == a.task) s.tasks e t.0 t.1 t.2))
arrives y s a others (Some f) e same has now here =
    let s' : State = record s { arrivals = others; tasks = change f.0 (λ u. record u { gate = record { value = a.value; open' = true } }) s.tasks } in
    let q : Quiet s' (serve y f.0 s') = serve-quiet y f.0 s' in
    let one : (let z : Arrival = record { time = s.time; task = a.task; value = a.value } in z) ≡ a
    = ap (λ n. let z : Arrival = record { time = n; task = a.task; value = a.value } in z) (sym now) in
    inr (record {
      first = a;
      others = others;
      here = here;
      now = now;
      told = ap (λ z. z ∷ arrived (serve y f.0 s').1) one ∙ ap (λ zs. a ∷ zs) q.0;
      left = q.1;
    })

-- a step
step_comes : (y : System) (s : State) → threads_of s.tasks ≡ y.threads → Each (λ a. HasUnit y.threads a.task) s.arrivals → Comes s (step y s)
step_comes y s same all = by s.stopped
  where
    effects : (o : Option ℕ) → Comes s (effect_step y o s)
    effects None = inl (refl, refl)
    effects (Some i) = task (slice_get s.tasks i)
      where
        pieces' : (t : Task) (ps : List Piece) → Comes s (effect_of y i t ps s)
        pieces' t [] = inl (refl, refl)
        pieces' t (x ∷ rest) = left (t.left == 0)
          where
            left : (b : Bool) → Comes s (if b then takes_effect y i t (done y x t.vars rest) s else goes_to Delays s)
            left true = inl (acted-quiet y i t (done y x t.vars rest).act (done y x t.vars rest).vars (done y x t.vars rest).pieces s)
            left false = inl (refl, refl)

        task : (o : Option Task) → Comes s (effect_at y i o s)
        task None = inl (refl, refl)
        task (Some t) = pieces' t t.pieces

    delays : (o : Option (ℕ × Task)) → Comes s (delay_step y o s)
    delays None = inl (refl, refl)
    delays (Some f) = inl (release_task-quiet y f.0 (slice_get s.tasks f.0) s)

    horizon : Comes s (horizon_step y s)
    horizon = hor (s.time == y.until)
      where
        hor : (b : Bool) → Comes s (if b then (record s { stopped = true }, event.Horizon s.time ∷ []) else goes_to Use s)
        hor true = inl (refl, refl)
        hor false = inl (refl, refl)

    arriving : (as' : List Arrival) → s.arrivals ≡ as' → Comes s (arrival_step y as' s)
    arriving [] is = horizon
    arriving (a ∷ others) is = now (a.time == s.time) refl
      where
        now : (b : Bool) → (a.time == s.time) ≡ b
            → Comes s (if b then arrive_at y a (first_where (λ t. t.thread.unit == a.task) s.tasks)
            (record s { arrivals = others }) else horizon_step y s)
        now true e =
            let P : List Arrival → Type 0 = λ zs. Each (λ z. HasUnit y.threads z.task) zs in
            arrives y s a others (first_where (λ t. t.thread.unit == a.task) s.tasks) refl same (subst P is all).0 (grind arith) is
        now false e = horizon

    ticks : (o : Option ℕ) → Comes s (use_step y o s)
    ticks None = inl (refl, refl)
    ticks (Some i) = inl (refl, refl)

    phases : (ph : Phase) → Comes s (step_in ph y s)
    phases Effects = effects s.ran
    phases Delays = delays (first_where (λ u. is_due s.time u.readiness) s.tasks)
    phases Arriving = arriving s.arrivals refl
    phases Use = ticks (dispatched s.tasks s.orders)

    by : (b : Bool) → Comes s (if b then (s, []) else step_in s.phase y s)
    by true = inl (refl, refl)
    by false = phases s.phase

-- the arrivals left after a step
abbrev Left : State → Type 0
Left s = AreLeft s.phase s.time s.arrivals

record LeftOn (y : System) (s : State) (next : Next) : Type 0 where
  on : next.0.stopped ≡ false → Left next.0
  ends : Ends y s next → Later (suc s.time) s.arrivals

no_horizon : (ths : List TaskUnit) (now time : ℕ) (es : List Event) → Each (IsNow ths now) es → es ≡ event.Horizon time ∷ [] → ⊥
no_horizon ths now time es all e = let P : List Event → Type 0 = λ zs. Each (IsNow ths now) zs in (subst P e all).0

nothing_horizon : (time : ℕ) → [] ≡ event.Horizon time ∷ [] → ⊥
nothing_horizon time e = cc

-- within an instant
within : (y : System) (s : State) (next : Next) (phase : Phase) → s.phase ≡ phase → ((n : ℕ) (as' : List Arrival) → AreLeft phase n as' ≡ Later n as')
    → Goes y.threads s next → Later s.time next.0.arrivals
    → LeftOn y s next
within y s next phase is plain g left = record {
  on = λ h.
      let P : Phase → Type 0 = λ z. AreLeft z next.0.time next.0.arrivals in
      let Q : ℕ → Type 0 = λ n. Later n next.0.arrivals in
      let there : next.0.phase ≡ phase = g.phase ∙ is in
      let here : AreLeft phase next.0.time next.0.arrivals = (let C : Type 0 → Type 0 = λ z. z
      in subst C (sym (plain next.0.time next.0.arrivals)) (subst Q (sym g.time) left)) in
      subst P (sym there) here;
  ends = λ e. absurd (no_horizon y.threads s.time s.time next.1 g.told e.told);
}

passes : (y : System) (s s' : State) → Left s' → LeftOn y s (s', [])
passes y s s' left = record { on = λ h. left; ends = λ e. absurd (nothing_horizon s.time e.told) }

after_now : (now : ℕ) (a : Arrival) (others : List Arrival) → Later now (a ∷ others) → (a.time == now) ≡ false → Later (suc now) (a ∷ others)
after_now now a others l e = (grind arith, l.1)

-- a step keeps the arrivals left in order
step_left : (y : System) (s : State) → threads_of s.tasks ≡ y.threads → s.stopped ≡ false → Left s → LeftOn y s (step y s)
step_left y s same on left =
    let goes : step y s ≡ step_in s.phase y s = ap (λ b. if b then (s, []) else step_in s.phase y s) on in
    let P : Next → Type 0 = λ next. LeftOn y s next in
    subst P (sym goes) (phases s.phase refl left)
  where
    effects : (o : Option ℕ) → s.phase ≡ Effects → Later s.time s.arrivals → LeftOn y s (effect_step y o s)
    effects None is l = passes y s _ l
    effects (Some i) is l = task (slice_get s.tasks i) refl
      where
        task : (o : Option Task) → slice_get s.tasks i ≡ o → LeftOn y s (effect_at y i o s)
        task None at = passes y s _ l
        task (Some t) at = pieces' t.pieces
          where
            pieces' : (ps : List Piece) → LeftOn y s (effect_of y i t ps s)
            pieces' [] = passes y s _ l
            pieces' (x ∷ rest) = spent (t.left == 0)
              where
                spent : (b : Bool) → LeftOn y s (if b then takes_effect y i t (done y x t.vars rest) s else goes_to Delays s)
                spent true =
                    let d : PieceOutcome = done y x t.vars rest in
                    let L : List Arrival → Type 0 = λ zs. Later s.time zs in
                    within y s _ Effects is (λ n as'. refl) (acted-goes y y.threads i t d.act d.vars d.pieces s at same)
                    (subst L (sym (acted-quiet y i t d.act d.vars d.pieces s).1) l)
                spent false = passes y s _ l

    delays : (o : Option (ℕ × Task)) → s.phase ≡ Delays → Later s.time s.arrivals → LeftOn y s (delay_step y o s)
    delays None is l = passes y s _ l
    delays (Some f) is l =
        let L : List Arrival → Type 0 = λ zs. Later s.time zs in
        within y s _ Delays is (λ n as'. refl) (release-goes y y.threads f.0 s same)
        (subst L (sym (release_task-quiet y f.0 (slice_get s.tasks f.0) s).1) l)

    horizon : Later (suc s.time) s.arrivals → LeftOn y s (horizon_step y s)
    horizon l = hor (s.time == y.until)
      where
        hor : (b : Bool) → LeftOn y s (if b then (record s { stopped = true }, event.Horizon s.time ∷ []) else goes_to Use s)
        hor true = record { on = λ h. absurd (true≢false h); ends = λ e. l }
        hor false = passes y s _ l

    arriving : (as' : List Arrival) → s.arrivals ≡ as' → s.phase ≡ Arriving → Later s.time as' → LeftOn y s (arrival_step y as' s)
    arriving [] here is l = let L : List Arrival → Type 0 = λ zs. Later (suc s.time) zs in horizon (subst L (sym here) tt)
    arriving (a ∷ others) here is l = now (a.time == s.time) refl
      where
        arrive : (o : Option (ℕ × Task)) → LeftOn y s (arrive_at y a o (record s { arrivals = others }))
        arrive None =
            passes y s (record s { arrivals = others })
            (let P : Phase → Type 0 = λ z. AreLeft z s.time others in subst P (sym is) (later_mono s.time a.time others l.0 l.1))
        arrive (Some f) =
            let set_gate : Task → Task = λ u. record u { gate = record { value = a.value; open' = true } } in
            let s' : State = record s { arrivals = others; tasks = change f.0 set_gate s.tasks } in
            let g : Goes y.threads s' (serve y f.0 s') = serve-goes y y.threads f.0 s' (change-threads f.0 set_gate s.tasks (λ u. refl) ∙ same) in
            let L : List Arrival → Type 0 = λ zs. Later s.time zs in
            let r : LeftOn y s' (serve y f.0 s')
            = within y s' (serve y f.0 s') Arriving is (λ n as'. refl) g
            (subst L (sym (serve-quiet y f.0 s').1) (later_mono s.time a.time others l.0 l.1)) in
            record { on = r.on; ends = λ e. absurd (arrive_horizon (serve y f.0 s').1 e.told) }
          where
            arrive_horizon : (es : List Event) → event.Arrive s.time a.task a.value ∷ es ≡ event.Horizon s.time ∷ [] → ⊥
            arrive_horizon es h = cc

        now : (b : Bool) → (a.time == s.time) ≡ b
            → LeftOn y s (if b then arrive_at y a (first_where (λ t. t.thread.unit == a.task) s.tasks)
            (record s { arrivals = others }) else horizon_step y s)
        now true e = arrive (first_where (λ t. t.thread.unit == a.task) s.tasks)
        now false e = let L : List Arrival → Type 0 = λ zs. Later (suc s.time) zs in horizon (subst L (sym here) (after_now s.time a others l e))

    ticks : (o : Option ℕ) → Later (suc s.time) s.arrivals → LeftOn y s (use_step y o s)
    ticks None l = passes y s _ (later_mono (s.time + 1) (suc s.time) s.arrivals (omega arith) l)
    ticks (Some i) l = passes y s _ (later_mono (s.time + 1) (suc s.time) s.arrivals (omega arith) l)

    phases : (ph : Phase) → s.phase ≡ ph → AreLeft s.phase s.time s.arrivals → LeftOn y s (step_in ph y s)
    phases Effects is l = effects s.ran is (let P : Phase → Type 0 = λ z. AreLeft z s.time s.arrivals in subst P is l)
    phases Delays is l = delays (first_where (λ u. is_due s.time u.readiness) s.tasks) is (let P : Phase → Type 0 = λ z. AreLeft z s.time s.arrivals
        in subst P is l)
    phases Arriving is l = arriving s.arrivals refl is (let P : Phase → Type 0 = λ z. AreLeft z s.time s.arrivals in subst P is l)
    phases Use is l = ticks (dispatched s.tasks s.orders) (let P : Phase → Type 0 = λ z. AreLeft z s.time s.arrivals in subst P is l)

-- arrivals past the horizon are none of those up to it
none_within : (until : ℕ) (as' : List Arrival) → Later (suc until) as' → filter (λ a. nat_le a.time until) as' ≡ []
none_within until [] l = refl
none_within until (a ∷ as') l = by (nat_le a.time until) refl (none_within until as' (later_mono (suc until) a.time as' l.0 l.1))
  where
    by : (b : Bool) → nat_le a.time until ≡ b → filter (λ z. nat_le z.time until) as' ≡ []
        → cond b (a ∷ filter (λ z. nat_le z.time until) as') (filter (λ z. nat_le z.time until) as') ≡ []
    by true e rest = absurd (late e)
      where
        late : nat_le a.time until ≡ true → ⊥
        late h = let early : a.time ≤ until = grind arith in omega (arith, early, l.0)
    by false e rest = rest

some_within : (until : ℕ) (a : Arrival) (as' : List Arrival) → a.time ≤ until
    → filter (λ z. nat_le z.time until) (a ∷ as') ≡ a ∷ filter (λ z. nat_le z.time until) as'
some_within until a as' h = ap (λ b. cond b (a ∷ filter (λ z. nat_le z.time until) as') (filter (λ z. nat_le z.time until) as')) (yes' h)
  where
    yes' : a.time ≤ until → nat_le a.time until ≡ true
    yes' early = grind arith

-- what is told from a state on
arrived_from : (y : System) (n : ℕ) (s : State) → threads_of s.tasks ≡ y.threads → Each (λ a. HasUnit y.threads a.task) s.arrivals
    → IsTimely y.until s.phase s.time → Left s → s.stopped ≡ false
    → (run y n s).0.stopped ≡ true → list_any is_stopping (run y n s).1 ≡ false
    → arrived (run y n s).1 ≡ filter (λ a. nat_le a.time y.until) s.arrivals
arrived_from y zero s same all timely left on stops quiet = absurd (true≢false (sym stops ∙ on))
arrived_from y (suc n) s same all timely left on stops quiet = by (step-walks y y.threads s on timely same) (step_comes y s same all)
    (λ same' all' timely' left' on'. arrived_from y n (step y s).0 same' all' timely' left' on' stops
    (quiet_back (step y s).1 (run y n (step y s).0).1 quiet))
  where
    r : LeftOn y s (step y s)
    r = step_left y s same on left

    time_in : (ph : Phase) → IsTimely y.until ph s.time → s.time ≤ y.until
    time_in Effects t = t
    time_in Delays t = t
    time_in Arriving t = t
    time_in Use t = omega (arith, t)

    by : Walks y y.threads s (step y s) → Comes s (step y s)
        → (threads_of (step y s).0.tasks ≡ y.threads → Each (λ a. HasUnit y.threads a.task) (step y s).0.arrivals
        → IsTimely y.until (step y s).0.phase (step y s).0.time → Left (step y s).0 → (step y s).0.stopped ≡ false
        → arrived (run y n (step y s).0).1 ≡ filter (λ a. nat_le a.time y.until) (step y s).0.arrivals)
        → arrived ((step y s).1 ++ (run y n (step y s).0).1) ≡ filter (λ a. nat_le a.time y.until) s.arrivals
    by (inl f) (inl q) later =
        let E : List Arrival → Type 0 = λ zs. Each (λ a. HasUnit y.threads a.task) zs in
        arrived-append (step y s).1 (run y n (step y s).0).1 ∙ ap (λ zs. zs ++ arrived (run y n (step y s).0).1) q.0
        ∙ later f.threads (subst E (sym q.1) all) f.timely (r.on f.on) f.on ∙ ap (λ zs. filter (λ a. nat_le a.time y.until) zs) q.1
    by (inl f) (inr t) later =
        let E : List Arrival → Type 0 = λ zs. Each (λ a. HasUnit y.threads a.task) zs in
        arrived-append (step y s).1 (run y n (step y s).0).1 ∙ ap (λ zs. zs ++ arrived (run y n (step y s).0).1) t.told
        ∙ ap (λ zs. t.first ∷ zs) (later f.threads (subst E (sym t.left) (subst E t.here all).1) f.timely (r.on f.on) f.on ∙ ap
        (λ zs. filter (λ a. nat_le a.time y.until) zs) t.left)
        ∙ sym (some_within y.until t.first t.others (omega (arith, t.now, time_in s.phase timely))) ∙ sym
        (ap (λ zs. filter (λ a. nat_le a.time y.until) zs) t.here)
    by (inr (inl e)) c later =
        let none : (run y n (step y s).0).1 ≡ [] = ap (λ next. next.1) (stopped_stays y n (step y s).0 e.stopped) in
        let L : ℕ → Type 0 = λ m. Later (suc m) s.arrivals in
        arrived-append (step y s).1 (run y n (step y s).0).1 ∙ ap (λ zs. arrived zs ++ arrived (run y n (step y s).0).1) e.told ∙ ap arrived none
        ∙ sym (none_within y.until s.arrivals (subst L e.now (r.ends e)))
    by (inr (inr st)) c later = absurd (true≢false (sym st ∙ quiet_front (step y s).1 (run y n (step y s).0).1 quiet))

told-named : (p : Program) (es : List Event) → filter_map arrival_by (named p es) ≡ map (named_item p) (arrived es)
told-named p [] = refl
told-named p (event.Release time task value ∷ es) = told-named p es
told-named p (event.Arrive time task value ∷ es) = ap (λ zs. named_item p (record { time = time; task = task; value = value }) ∷ zs) (told-named p es)
told-named p (event.Enter time task unit op values ∷ es) = told-named p es
told-named p (event.Leave time task unit op values ∷ es) = told-named p es
told-named p (event.Request time task target value ∷ es) = told-named p es
told-named p (event.Print time task value ∷ es) = told-named p es
told-named p (event.End time task used ∷ es) = told-named p es
told-named p (event.Stop time task unit priority ceiling ∷ es) = told-named p es
told-named p (event.Horizon time ∷ es) = told-named p es

filter-named : (p : Program) (until : ℕ) (items : List Arrival) → filter (λ a. nat_le a.time until) (map (named_item p) items)
    ≡ map (named_item p) (filter (λ a. nat_le a.time until) items)
filter-named p until [] = refl
filter-named p until (a ∷ items) = by (nat_le a.time until) (filter-named p until items)
  where
    by : (b : Bool) → filter (λ z. nat_le z.time until) (map (named_item p) items) ≡ map (named_item p) (filter (λ z. nat_le z.time until) items)
        → cond b (named_item p a ∷ filter (λ z. nat_le z.time until) (map (named_item p) items))
        (filter (λ z. nat_le z.time until) (map (named_item p) items))
        ≡ map (named_item p) (cond b (a ∷ filter (λ z. nat_le z.time until) items) (filter (λ z. nat_le z.time until) items))
    by true h = ap (λ zs. named_item p a ∷ zs) h
    by false h = h

-- requests from outside are told as they arrive
pub are_told : (limit : ℕ) (p : Program) (r : Arrivals) (trace : List Event) → IsAccepted limit p r → Meaning p r trace → NeverStops (named p trace)
    → AreTold r.until (named_arrivals p r).items (named p trace)
are_told limit p r trace accepted m quiet =
    let y : System = system p r in
    let clean : requests_fault p [] r.items ≡ None = no_item_fault limit p r accepted in
    let silent : list_any is_stopping (run y m.steps (start p r)).1 ≡ false = ap (list_any is_stopping) m.tells ∙ sym (quiet_names p trace) ∙ quiet in
    told-named p trace
    ∙ ap (λ es. map (named_item p) (arrived es)) (sym m.tells)
    ∙ ap (map (named_item p)) (arrived_from y m.steps (start p r) (first_threads y.threads) (items_units p r [] r.items clean) (omega arith)
    (items_later p [] r.items clean) refl m.stops silent)
    ∙ sym (filter-named p r.until r.items)
