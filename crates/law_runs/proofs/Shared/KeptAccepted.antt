-- Arrivals that keep the separations of a program's software are accepted for the program: a name of an arrival is that of one unit, since no
-- unit has the empty name.
use Rattle.std.specs.Prelude.{◌≡◌, ℕ, zero, suc, ◌+◌, ◌≤◌, ◌==◌, max, Bool, true, false, not, ◌||◌, cond, List, [], ◌∷◌, ◌++◌, map, filter, find}
use Rattle.std.specs.Prelude.{length, nat_lt, Option, Some, None, slice_get, option_map, unwrap_or, refl, if◌then◌else◌}
use Rattle.std.specs.List.{list_any}
use Rattle.std.proofs.Common.{sym, ◌∙◌, ap, subst, arith}
use Rattle.std.proofs.lemmas.Slice.Eq.{bytes_eq-Decides}
use Rattle.seq_tree.specs.Lists.{Each}
use Rattle.seq_tree.specs.Names.{Name, same_name}
use Rattle.seq_tree.specs.Operations.{Signature}
use Rattle.seq_tree.specs.Faults.{or_else, fault_if}
use Rattle.seq_tree.specs.declared.tree.Param.{Param}
use Rattle.ada_tree.specs.Programs.{Form, Unit, Program, Passive, Shared, Cyclic, Sporadic, is_task}
use Rattle.ada_tree.specs.Rules.{MeetsRules}
use Rattle.ada_tree.specs.Words.{is_ada_name}
use Rattle.arrivals_tree.specs.declared.arrivals.Arrival as place
use Rattle.arrivals_tree.specs.Arriving as places
use Rattle.arrivals_tree.specs.Arriving.{durations}
use Rattle.arrivals_tree.specs.Acceptance.{Unknown, Unfit, Early, Falling, Far, fits, next_nominal, nominal, earlier_times, last_time}
use Rattle.arrivals_tree.specs.Acceptance.{request_fault, request_fault_by, request_fault_at, item_fault, requests_fault, has_nothing}
use Rattle.arrivals_tree.specs.Acceptance.{durations_fault, works_fault, IsAccepted}
use Rattle.trace_tree.specs.Lines.{unit_name}
use Rattle.machine.specs.Systems.{TaskUnit, ReleasePattern, Periodic, Requested, system, thread_by}
use Rattle.guarantee.specs.Software.{Task, program_software}
use Rattle.guarantee.specs.Arrivals.{Durations, named_arrivals, DontFall, IsValueFor, Takes, IsTaken, IsExternal, KeepTime, KeepsSeparation}
use Rattle.guarantee.specs.Arrivals.{AreDurations, AreKept}
use Rattle.law_written.proofs.Shared.Moves.{HasUnit}
use Rattle.law_written.proofs.Shared.Claims.{task_at, timing_at}
use Rattle.law_written.proofs.Shared.Units.{tasks_of}
use Rattle.law_releases.proofs.Shared.AcceptedArrivals.{last-behind, named_item}
use Rattle.law_runs.proofs.KeptSoftware.{least_of, nominal-max, times-named, IsSporadic, sporadic_form, IsAsked, unit_same}
use Rattle.std.proofs.lemmas.Option.{none-some, same_Some}
use Rattle.std.proofs.lemmas.Bool.{true≢false}
use Rattle.ada_tree.specs.Proper.{IsProperForm, IsProperProgram}
use Rattle.seq_tree.specs.Proper.{within_limits}
use Rattle.guarantee.specs.MachineLaw.{IsReadable}
use Rattle.law_lists.proofs.Shared.Places.{all-at}
use Rattle.law_calls.proofs.Shared.Threads.{thread_name, one-place, IsMadeOf, made-of}
use Rattle.law_calls.proofs.Shared.Apart.{units_apart}
use Rattle.law_calls.proofs.Shared.Nominals.{nominal-behind, earlier-behind}
use Rattle.law_calls.proofs.Shared.UnitNames.{name-at}

-- a program without a unit of the empty name
abbrev AreNonempty : Program → Type 0
AreNonempty p = (i : ℕ) (u : Unit) → slice_get p.units i ≡ Some u → u.name ≡ [] → ⊥

-- the empty name is no name
unnamed : (name : Name) → is_ada_name name ≡ true → name ≡ [] → ⊥
unfolding is_ada_name
unnamed name named e = true≢false (sym named ∙ ap is_ada_name e)

nonempty : (p : Program) → IsProperProgram (within_limits is_ada_name) p → AreNonempty p
nonempty p proper i u at = unnamed u.name (all-at (λ v. (is_ada_name v.name ≡ true)
    × IsProperForm (within_limits is_ada_name) v.form) p.units i u proper.1 at).0

no_fault_if : {A : Type 0} (b : Bool) (x : A) → b ≡ false → fault_if b x ≡ None
no_fault_if true x e = absurd cc
no_fault_if false x e = refl

neither : {A : Type 0} (a b : Option A) → a ≡ None → b ≡ None → or_else a b ≡ None
neither a b e f = ap (λ o. or_else o b) e ∙ f

unit_unnamed : (p : Program) (m : ℕ) → slice_get p.units m ≡ None → unit_name p m ≡ []
unfolding unit_name
unit_unnamed p m at = ap (λ o. unwrap_or (option_map (λ v. v.name) o) []) at

-- the place of a thread's name
place_of_name : (p : Program) (r : places.Arrivals) → MeetsRules p → AreNonempty p → (k : ℕ) (th : TaskUnit) (m : ℕ)
    → slice_get (system p r).threads k ≡ Some th → same_name th.name (unit_name p m) ≡ true → th.unit ≡ m
place_of_name p r meets full k th m at same = by (slice_get p.units m) refl
  where
    f : IsMadeOf p r th
    f = made-of p r k th at

    own : f.unit.name ≡ th.name
    own = sym (name-at p th.unit f.unit f.here) ∙ thread_name p r k th at

    names : th.name ≡ unit_name p m
    names = (bytes_eq-Decides th.name (unit_name p m)).0 same

    by : (o : Option Unit) → slice_get p.units m ≡ o → th.unit ≡ m
    by None e = absurd (full th.unit f.unit f.here (own ∙ names ∙ unit_unnamed p m e))
    by (Some u) e = one-place p.units th.unit m f.unit u (units_apart p meets) f.here e
        ((bytes_eq-Decides f.unit.name u.name).1 (own ∙ names ∙ name-at p m u e))

-- a task that is found by its name
pub record IsFoundThread (ths : List TaskUnit) (name : Name) (t : Task) : Type 0 where
  pub place' : ℕ
  pub thread : TaskUnit
  pub at : slice_get ths place' ≡ Some thread
  pub same : task_at thread ≡ t
  pub named_so : same_name thread.name name ≡ true

found_thread : (ths : List TaskUnit) (name : Name) (t : Task) → find (λ z. same_name z.name name) (map task_at ths) ≡ Some t
    → IsFoundThread ths name t
found_thread [] name t e = absurd (none-some t e)
found_thread (u ∷ ths) name t e = by (same_name u.name name) refl e (found_thread ths name t)
  where
    by : (b : Bool) → same_name u.name name ≡ b → cond b (Some (task_at u)) (find (λ z. same_name z.name name) (map task_at ths)) ≡ Some t
        → (find (λ z. same_name z.name name) (map task_at ths) ≡ Some t → IsFoundThread ths name t)
        → IsFoundThread (u ∷ ths) name t
    by true is h later = record { place' = 0; thread = u; at = refl; same = same_Some (task_at u) t h; named_so = is }
    by false is h later = let f : IsFoundThread ths name t = later h
        in record { place' = suc f.place'; thread = f.thread; at = f.at; same = f.same; named_so = f.named_so }

fits_for : (ps : List Param) (name : Name) (value : Option ℕ) → IsValueFor ps value → fits (record { name = name; params = ps }) value ≡ true
fits_for [] name None h = refl
fits_for [] name (Some v) h = absurd h
fits_for (q ∷ ps) name None h = absurd h
fits_for (q ∷ ps) name (Some v) h = more (length ps)
  where
    more : (n : ℕ) → nat_lt 0 (suc n) ≡ true
    more n = grind arith

-- a request from outside, by names, is one of an external thread
asked_named : (p : Program) (r : places.Arrivals) → MeetsRules p → AreNonempty p → (a : place.Arrival)
    → IsExternal (program_software p).tasks (named_item p a) → IsAsked p r a
asked_named p r meets full a h =
    let T : List Task → Type 0 = λ ts. IsTaken (find (λ t. same_name t.name (unit_name p a.task)) ts) a.value in
    by (find (λ t. same_name t.name (unit_name p a.task)) (map task_at (system p r).threads)) refl (subst T (tasks_of p r) h)
  where
    timed : (timing : ReleasePattern) (k : ℕ) (th : TaskUnit) → slice_get (system p r).threads k ≡ Some th → th.unit ≡ a.task → th.timing ≡ timing
        → Takes (timing_at timing) a.value → IsAsked p r a
    timed (Periodic offset period) k th at unit is takes = absurd takes
    timed (Requested op ceiling separation jitter false) k th at unit is takes = absurd takes
    timed (Requested op ceiling separation jitter true) k th at unit is takes = record {
      place' = k;
      thread = th;
      at = at;
      unit = unit;
      op = op;
      ceiling = ceiling;
      separation = separation;
      jitter = jitter;
      timing = is;
      fit = fits_for op.params op.name a.value takes;
    }

    by : (o : Option Task) → find (λ t. same_name t.name (unit_name p a.task)) (map task_at (system p r).threads) ≡ o → IsTaken o a.value
        → IsAsked p r a
    by None e taken = absurd taken
    by (Some t) e taken =
        let f : IsFoundThread (system p r).threads (unit_name p a.task) t = found_thread (system p r).threads (unit_name p a.task) t e in
        let K : Task → Type 0 = λ z. Takes z.timing a.value in
        timed f.thread.timing f.place' f.thread f.at (place_of_name p r meets full f.place' f.thread a.task f.at f.named_so) refl
        (subst K (sym f.same) taken)

-- a separation that is kept, after one more arrival
step_keep : (separation jitter m : ℕ) (before : List place.Arrival) (a : place.Arrival) (more : List place.Arrival)
    → KeepTime separation jitter (least_of separation (nominal separation None (earlier_times m before))) (earlier_times m (a ∷ more))
    → KeepTime separation jitter (least_of separation (nominal separation None (earlier_times m (before ++ a ∷ [])))) (earlier_times m more)
step_keep separation jitter m before a more keeps = by (a.task == m) refl keeps
  where
    behind_nil : (ts : List ℕ) → ts ++ [] ≡ ts
    behind_nil [] = refl
    behind_nil (t ∷ ts) = ap (λ z. t ∷ z) (behind_nil ts)

    by : (b : Bool) → (a.task == m) ≡ b
        → KeepTime separation jitter (least_of separation (nominal separation None (earlier_times m before)))
        (map (λ z. z.time) (cond b (a ∷ filter (λ z. z.task == m) more) (filter (λ z. z.task == m) more)))
        → KeepTime separation jitter (least_of separation (nominal separation None (earlier_times m (before ++ a ∷ [])))) (earlier_times m more)
    by true is k =
        let after : nominal separation None (earlier_times m (before ++ a ∷ []))
        ≡ Some (max a.time (least_of separation (nominal separation None (earlier_times m before)))) =
        ap (nominal separation None) (earlier-behind m before a ∙ ap (λ b. earlier_times m before ++ (if b then a.time ∷ [] else [])) is) ∙
        nominal-behind separation None (earlier_times m before) a.time
        ∙ ap Some (nominal-max separation (nominal separation None (earlier_times m before)) a.time) in
        let K : Option ℕ → Type 0 = λ o. KeepTime separation jitter (least_of separation o) (earlier_times m more) in
        subst K (sym after) k.1
    by false is k =
        let after : earlier_times m (before ++ a ∷ []) ≡ earlier_times m before =
        earlier-behind m before a ∙ ap (λ b. earlier_times m before ++ (if b then a.time ∷ [] else [])) is ∙ behind_nil (earlier_times m before) in
        let K : List ℕ → Type 0 = λ ts. KeepTime separation jitter (least_of separation (nominal separation None ts)) (earlier_times m more) in
        subst K (sym after) k

-- separations that are kept from some arrivals on
abbrev Keeping : Program → places.Arrivals → List place.Arrival → List place.Arrival → Type 0
Keeping p r before items =
    (k : ℕ) (th : TaskUnit) (op : Signature) (ceiling separation jitter : ℕ) → slice_get (system p r).threads k ≡ Some th
    → th.timing ≡ Requested op ceiling separation jitter true
    → KeepTime separation jitter (least_of separation (nominal separation None (earlier_times th.unit before))) (earlier_times th.unit items)

-- no fault in the arrivals
no_requests_fault : (p : Program) (r : places.Arrivals) (before items : List place.Arrival) → DontFall (last_time before) (map (named_item p) items)
    → Each (IsAsked p r) items → Keeping p r before items
    → requests_fault p before items ≡ None
no_requests_fault p r before [] falls all keeps = refl
no_requests_fault p r before (a ∷ more) falls all keeps =
    let h : IsAsked p r a = all.0 in
    let f : IsMadeOf p r h.thread = made-of p r h.place' h.thread h.at in
    let g : IsSporadic f.unit.form h.op h.ceiling h.separation h.jitter true
    = sporadic_form f.unit.form h.thread.unit f.unit.name (durations r h.thread.unit) h.thread h.op h.ceiling h.separation h.jitter true f.makes
    h.timing in
    let here : request_fault_at (slice_get p.units a.task) before a ≡ request_fault true h.op h.separation h.jitter before a =
    ap (λ n. request_fault_at (slice_get p.units n) before a) (sym h.unit) ∙ ap (λ o. request_fault_at o before a) f.here ∙ ap
    (λ q. request_fault_by q before a) g.form_is in
    let K : Bool → Type 0 = λ b. KeepTime h.separation h.jitter
    (least_of h.separation (nominal h.separation None (earlier_times h.thread.unit before)))
    (map (λ z. z.time) (cond b (a ∷ filter (λ z. z.task == h.thread.unit) more) (filter (λ z. z.task == h.thread.unit) more))) in
    let own : max a.time (least_of h.separation (nominal h.separation None (earlier_times h.thread.unit before))) ≤ a.time + h.jitter =
    (subst K (same_number a.task h.thread.unit (sym h.unit)) (keeps h.place' h.thread h.op h.ceiling h.separation h.jitter h.at h.timing)).0 in
    let nominal_is : next_nominal h.separation (nominal h.separation None (earlier_times a.task before)) a.time
    ≡ max a.time (least_of h.separation (nominal h.separation None (earlier_times h.thread.unit before))) =
    ap (λ n. next_nominal h.separation (nominal h.separation None (earlier_times n before)) a.time) (sym h.unit) ∙ nominal-max h.separation
    (nominal h.separation None (earlier_times h.thread.unit before)) a.time in
    let late : nat_lt (a.time + h.jitter) (next_nominal h.separation (nominal h.separation None (earlier_times a.task before)) a.time) ≡ false
    = ap (nat_lt (a.time + h.jitter)) nominal_is ∙ not_less _ _ own in
    let clean : request_fault_at (slice_get p.units a.task) before a ≡ None =
    here ∙ neither _ _ (no_fault_if (not true) Unknown refl) (neither _ _ (no_fault_if (not (fits h.op a.value)) Unfit (ap not h.fit))
    (no_fault_if _ Early late)) in
    let item : item_fault p before a ≡ None = neither _ _ (no_fault_if (nat_lt a.time (last_time before)) Falling (not_less _ _ falls.0)) clean in
    let L : ℕ → Type 0 = λ n. DontFall n (map (named_item p) more) in
    neither _ _ item (no_requests_fault p r (before ++ a ∷ []) more (subst L (sym (last-behind before a)) falls.1) all.1
    (λ k th op ceiling separation jitter at timing. step_keep separation jitter th.unit before a more
    (keeps k th op ceiling separation jitter at timing)))
  where
    not_less : (x z : ℕ) → z ≤ x → nat_lt x z ≡ false
    not_less x z h = grind arith

    same_number : (x z : ℕ) → x ≡ z → (x == z) ≡ true
    same_number x z h = grind arith

-- durations
task_form : (form : Form) (n : ℕ) (name : Name) (ds : List ℕ) (th : TaskUnit) → thread_by ds n name form ≡ Some th → is_task form ≡ true
task_form (Passive ops) n name ds th e = absurd (none-some th e)
task_form (Shared ceiling vars ops) n name ds th e = absurd (none-some th e)
task_form (Cyclic priority offset period vars block) n name ds th e = refl
task_form (Sporadic priority ceiling op separation jitter external vars block) n name ds th e = refl

any_thread : (ths : List TaskUnit) (name : Name) → list_any (λ t. same_name t.name name) (map task_at ths) ≡ true
    → (k : ℕ) × (th : TaskUnit) × (slice_get ths k ≡ Some th) × (same_name th.name name ≡ true)
any_thread [] name e = absurd cc
any_thread (u ∷ ths) name e = by (same_name u.name name) refl e (any_thread ths name)
  where
    by : (b : Bool) → same_name u.name name ≡ b → (b || list_any (λ t. same_name t.name name) (map task_at ths)) ≡ true
        → (list_any (λ t. same_name t.name name) (map task_at ths) ≡ true → (k : ℕ) × (th : TaskUnit) × (slice_get ths k ≡ Some th)
        × (same_name th.name name ≡ true))
        → (k : ℕ) × (th : TaskUnit) × (slice_get (u ∷ ths) k ≡ Some th) × (same_name th.name name ≡ true)
    by true is h later = (0, u, refl, is)
    by false is h later = let f = later h in (suc f.0, f.1, f.2, f.3)

nothing_none : (ticks : List ℕ) → Each (λ n. 1 ≤ n) ticks → has_nothing ticks ≡ false
nothing_none [] all = refl
nothing_none (n ∷ ticks) all = ap (λ b. b || has_nothing ticks) (not_zero n all.0) ∙ nothing_none ticks all.1
  where
    not_zero : (m : ℕ) → 1 ≤ m → (m == 0) ≡ false
    not_zero m h = grind arith

no_works_fault : (p : Program) (r : places.Arrivals) → MeetsRules p → AreNonempty p → (work : List places.Durations)
    → Each (AreDurations (program_software p).tasks) (map (λ w. let z : Durations = record { task = unit_name p w.task; ticks = w.ticks } in z) work)
    → works_fault p work ≡ None
no_works_fault p r meets full [] all = refl
no_works_fault p r meets full (w ∷ work) all =
    let T : List Task → Type 0 = λ ts. list_any (λ t. same_name t.name (unit_name p w.task)) ts ≡ true in
    let f = any_thread (system p r).threads (unit_name p w.task) (subst T (tasks_of p r) all.0.0) in
    let unit : f.1.unit ≡ w.task = place_of_name p r meets full f.0 f.1 w.task f.2 f.3 in
    let form : IsMadeOf p r f.1 = made-of p r f.0 f.1 f.2 in
    let here : durations_fault (slice_get p.units w.task) w.ticks ≡ durations_fault (Some form.unit) w.ticks
    = ap (λ o. durations_fault o w.ticks) (ap (slice_get p.units) (sym unit) ∙ form.here) in
    let task : is_task form.unit.form ≡ true = task_form form.unit.form f.1.unit form.unit.name (durations r f.1.unit) f.1 form.makes in
    neither _ _ (here ∙ neither _ _ (no_fault_if (not (is_task form.unit.form)) Unknown (ap not task))
    (no_fault_if (has_nothing w.ticks) Unfit (nothing_none w.ticks all.0.1)))
    (no_works_fault p r meets full work all.1)

each_items : (p : Program) (r : places.Arrivals) → MeetsRules p → AreNonempty p → (items : List place.Arrival)
    → Each (IsExternal (program_software p).tasks) (map (named_item p) items) → Each (IsAsked p r) items
each_items p r meets full [] all = tt
each_items p r meets full (a ∷ items) all = (asked_named p r meets full a all.0, each_items p r meets full items all.1)

each_unit : (p : Program) (r : places.Arrivals) (items : List place.Arrival) → Each (IsAsked p r) items
    → Each (λ a. HasUnit (system p r).threads a.task) items
each_unit p r [] all = tt
each_unit p r (a ∷ items) all = ((all.0.place', all.0.thread, all.0.at, all.0.unit), each_unit p r items all.1)

each_place : (P : Task → Type 0) (ths : List TaskUnit) (k : ℕ) (th : TaskUnit) → Each P (map task_at ths) → slice_get ths k ≡ Some th → P (task_at th)
each_place P [] k th all e = absurd (none-some th e)
each_place P (h ∷ ths) zero th all e = let Q : TaskUnit → Type 0 = λ z. P (task_at z) in subst Q (same_Some h th e) all.0
each_place P (h ∷ ths) (suc k) th all e = each_place P ths k th all.1 e

-- all of it
accepted_by : (limit : ℕ) (p : Program) (r : places.Arrivals) → MeetsRules p → AreNonempty p → AreKept limit (program_software p) (named_arrivals p r)
    → IsAccepted limit p r
accepted_by limit p r meets full kept =
    let asked : Each (IsAsked p r) r.items = each_items p r meets full r.items kept.external in
    let units : Each (λ a. HasUnit (system p r).threads a.task) r.items = each_unit p r r.items asked in
    let S : List Task → Type 0 = λ ts. Each (λ t. KeepsSeparation (named_arrivals p r).items t.name t.timing) ts in
    let separations : Each (λ t. KeepsSeparation (named_arrivals p r).items t.name t.timing) (map task_at (system p r).threads)
    = subst S (tasks_of p r) kept.separations in
    let keeps : Keeping p r [] r.items = λ k th op ceiling separation jitter at timing.
    (let Q : ReleasePattern → Type 0 = λ z. KeepsSeparation (named_arrivals p r).items th.name (timing_at z) in
    let K : List ℕ → Type 0 = λ ts. KeepTime separation jitter 0 ts in
    subst K (times-named p r th.unit th.name r.items (λ a has. unit_same p r meets k th at a has) units)
    (subst Q timing (each_place (λ t. KeepsSeparation (named_arrivals p r).items t.name t.timing) (system p r).threads k th separations at))) in
    neither _ _ (no_fault_if (nat_lt limit r.until) Far (not_less _ _ kept.horizon))
    (neither _ _ (no_works_fault p r meets full r.work kept.durations) (no_requests_fault p r [] r.items kept.times asked keeps))
  where
    not_less : (x z : ℕ) → z ≤ x → nat_lt x z ≡ false
    not_less x z h = grind arith

pub accepted_software : (limit : ℕ) (p : Program) (r : places.Arrivals) → IsReadable p → AreKept limit (program_software p) (named_arrivals p r)
    → IsAccepted limit p r
accepted_software limit p r readable = accepted_by limit p r readable.1 (nonempty p readable.0)
