-- Arrivals that are accepted for a program keep the separations of its software.
use Rattle.std.specs.Prelude.{◌≡◌, ℕ, zero, suc, ◌+◌, ◌≤◌, ◌==◌, max, Bool, true, false, not, cond, List, [], ◌∷◌, ◌++◌, map, filter, find}
use Rattle.std.specs.Prelude.{length, nat_lt, Option, Some, None, slice_get, refl, if◌then◌else◌}
use Rattle.std.proofs.Common.{sym, ◌∙◌, ap, subst, arith, append-nil}
use Rattle.std.proofs.lemmas.Slice.Eq.{bytes_eq-Decides}
use Rattle.seq_tree.specs.Lists.{Each}
use Rattle.seq_tree.specs.Names.{Name, same_name}
use Rattle.seq_tree.specs.Operations.{Signature}
use Rattle.seq_tree.specs.Faults.{or_else, fault_if}
use Rattle.seq_tree.specs.Statements.{Statements}
use Rattle.seq_tree.specs.declared.tree.Datum.{Datum}
use Rattle.seq_tree.specs.declared.tree.Param.{Param}
use Rattle.ada_tree.specs.Programs.{Form, Unit, Program, Passive, Shared, Cyclic, Sporadic, is_task}
use Rattle.ada_tree.specs.Rules.{MeetsRules}
use Rattle.arrivals_tree.specs.declared.arrivals.Arrival as place
use Rattle.arrivals_tree.specs.Arriving as places
use Rattle.arrivals_tree.specs.Arriving.{durations}
use Rattle.arrivals_tree.specs.Acceptance.{Unknown, Unfit, Early, Falling, Far, fits, next_nominal, nominal, earlier_times, last_time}
use Rattle.arrivals_tree.specs.Acceptance.{request_fault, request_fault_by, request_fault_at, item_fault, requests_fault, durations_fault}
use Rattle.arrivals_tree.specs.Acceptance.{works_fault, IsAccepted}
use Rattle.trace_tree.specs.Lines.{unit_name}
use Rattle.machine.specs.Systems.{TaskUnit, ReleasePattern, Periodic, Requested, system, thread_by}
use Rattle.guarantee.specs.Software.{Task, program_software}
use Rattle.guarantee.specs.Arrivals.{Durations, named_arrivals, IsValueFor, Takes, IsTaken, IsExternal, KeepTime, times_of, KeepsSeparation}
use Rattle.guarantee.specs.Arrivals.{AreDurations, AreKept}
use Rattle.law_written.proofs.Shared.Moves.{HasUnit}
use Rattle.law_written.proofs.Shared.Claims.{task_at, timing_at}
use Rattle.law_written.proofs.Shared.Units.{is_task as is_task_there, tasks_of}
use Rattle.law_releases.proofs.Shared.AcceptedArrivals.{named_item, later_named, items_later, items_units, unit_at_thread}
use Rattle.law_releases.proofs.Shared.Tasks.{each_task}
use Rattle.std.proofs.lemmas.Option.{none-some, same_Some}
use Rattle.std.proofs.lemmas.Bool.{true≢false, not-false, eqb-true, eqb-false, false_from_ne_true}
use Rattle.law_lists.proofs.Shared.Facts.{or_else-none, no-fault}
use Rattle.law_lists.proofs.Shared.Lists.{each-to, each-map}
use Rattle.law_calls.proofs.Shared.Threads.{IsMadeOf, made-of, threads_apart, thread_name}
use Rattle.law_calls.proofs.Shared.Accepted.{works-each, no-faults}
use Rattle.law_calls.proofs.Shared.Nominals.{nominal-behind, earlier-behind}

-- the least nominal time, with the jitter added
abbrev pub least_of : ℕ → Option ℕ → ℕ
least_of separation None = 0
least_of separation (Some n) = n + separation

pub nominal-max : (separation : ℕ) (last : Option ℕ) (t : ℕ) → next_nominal separation last t ≡ max t (least_of separation last)
nominal-max separation None t = omega arith
nominal-max separation (Some n) t = refl

-- the requests of a unit keep its separation
keeps_from : (p : Program) (m : ℕ) (u : Unit) (op : Signature) (priority ceiling separation jitter : ℕ) (vars : List Datum) (block : Statements)
    → slice_get p.units m ≡ Some u
    → u.form ≡ Sporadic priority ceiling op separation jitter true vars block
    → (before items : List place.Arrival) → requests_fault p before items ≡ None
    → KeepTime separation jitter (least_of separation (nominal separation None (earlier_times m before))) (earlier_times m items)
keeps_from p m u op priority ceiling separation jitter vars block at form before [] e = tt
keeps_from p m u op priority ceiling separation jitter vars block at form before (a ∷ more) e =
    let parts : (item_fault p before a ≡ None) × (requests_fault p (before ++ a ∷ []) more ≡ None)
    = or_else-none (item_fault p before a) (requests_fault p (before ++ a ∷ []) more) e in
    by (a.task == m) refl (or_else-none (fault_if (nat_lt a.time (last_time before)) Falling)
    (request_fault_at (slice_get p.units a.task) before a) parts.0).1
    (keeps_from p m u op priority ceiling separation jitter vars block at form (before ++ a ∷ []) more parts.1)
  where
    last : Option ℕ
    last = nominal separation None (earlier_times m before)

    by : (b : Bool) → (a.task == m) ≡ b → request_fault_at (slice_get p.units a.task) before a ≡ None
        → KeepTime separation jitter (least_of separation (nominal separation None (earlier_times m (before ++ a ∷ [])))) (earlier_times m more)
        → KeepTime separation jitter (least_of separation (nominal separation None (earlier_times m before)))
        (map (λ z. z.time) (cond b (a ∷ filter (λ z. z.task == m) more) (filter (λ z. z.task == m) more)))
    by true is fine rest =
        let same : a.task ≡ m = eqb-true a.task m is in
        let here : request_fault_at (slice_get p.units a.task) before a ≡ request_fault true op separation jitter before a =
        ap (λ n. request_fault_at (slice_get p.units n) before a) same ∙ ap (λ o. request_fault_at o before a) at ∙ ap
        (λ f. request_fault_by f before a) form in
        let early : nat_lt (a.time + jitter) (next_nominal separation (nominal separation None (earlier_times a.task before)) a.time) ≡ false =
        no-fault _ Early (or_else-none (fault_if (not (fits op a.value)) Unfit) _
        (or_else-none (fault_if (not true) Unknown) _ (sym here ∙ fine)).1).1 in
        let moved : nat_lt (a.time + jitter) (max a.time (least_of separation last)) ≡ false =
        ap (nat_lt (a.time + jitter)) (sym (nominal-max separation last a.time)) ∙ ap
        (λ n. nat_lt (a.time + jitter) (next_nominal separation (nominal separation None (earlier_times n before)) a.time)) (sym same) ∙ early in
        let after : nominal separation None (earlier_times m (before ++ a ∷ [])) ≡ Some (max a.time (least_of separation last)) =
        ap (nominal separation None) (earlier-behind m before a ∙ ap (λ b. earlier_times m before ++ (if b then a.time ∷ [] else [])) is) ∙
        nominal-behind separation None (earlier_times m before) a.time
        ∙ ap Some (nominal-max separation last a.time) in
        let K : Option ℕ → Type 0 = λ o. KeepTime separation jitter (least_of separation o) (earlier_times m more) in
        (bounded (a.time + jitter) (max a.time (least_of separation last)) moved, subst K after rest)
      where
        bounded : (x z : ℕ) → nat_lt x z ≡ false → z ≤ x
        bounded x z h = grind arith
    by false is fine rest =
        let after : earlier_times m (before ++ a ∷ []) ≡ earlier_times m before =
        earlier-behind m before a ∙ ap (λ b. earlier_times m before ++ (if b then a.time ∷ [] else [])) is ∙ append-nil (earlier_times m before) in
        let K : List ℕ → Type 0 = λ ts. KeepTime separation jitter (least_of separation (nominal separation None ts)) (earlier_times m more) in
        subst K after rest

-- by names: the arrivals of a unit are those of its name
pub times-named : (p : Program) (r : places.Arrivals) (m : ℕ) (name : Name) (items : List place.Arrival)
    → ((a : place.Arrival) → HasUnit (system p r).threads a.task → same_name (unit_name p a.task) name ≡ (a.task == m))
    → Each (λ a. HasUnit (system p r).threads a.task) items → times_of name (map (named_item p) items) ≡ earlier_times m items
times-named p r m name [] same all = refl
times-named p r m name (a ∷ items) same all =
    ap (λ b. map (λ z. z.time) (cond b (named_item p a ∷ filter (λ z. same_name z.task name) (map (named_item p) items))
    (filter (λ z. same_name z.task name) (map (named_item p) items)))) (same a all.0)
    ∙ by (a.task == m) (times-named p r m name items same all.1)
  where
    by : (b : Bool) → times_of name (map (named_item p) items) ≡ earlier_times m items
        → map (λ z. z.time) (cond b (named_item p a ∷ filter (λ z. same_name z.task name) (map (named_item p) items))
        (filter (λ z. same_name z.task name) (map (named_item p) items)))
        ≡ map (λ z. z.time) (cond b (a ∷ filter (λ z. z.task == m) items) (filter (λ z. z.task == m) items))
    by true h = ap (λ ts. a.time ∷ ts) h
    by false h = h

-- the form of a thread that is requested
pub record IsSporadic (form : Form) (op : Signature) (ceiling separation jitter : ℕ) (external : Bool) : Type 0 where
  pub priority : ℕ
  pub vars : List Datum
  pub block : Statements
  pub form_is : form ≡ Sporadic priority ceiling op separation jitter external vars block

pub sporadic_form : (form : Form) (n : ℕ) (name : Name) (ds : List ℕ) (th : TaskUnit) (op : Signature) (ceiling separation jitter : ℕ)
    (external : Bool) → thread_by ds n name form ≡ Some th → th.timing ≡ Requested op ceiling separation jitter external
    → IsSporadic form op ceiling separation jitter external
sporadic_form (Passive ops) n name ds th op ceiling separation jitter external e timing = absurd (none-some th e)
sporadic_form (Shared c vars ops) n name ds th op ceiling separation jitter external e timing = absurd (none-some th e)
sporadic_form (Cyclic priority offset period vars block) n name ds th op ceiling separation jitter external e timing
    = absurd (differ (ap (λ z. z.timing) (same_Some _ th e) ∙ timing))
  where
    differ : Periodic offset period ≡ Requested op ceiling separation jitter external → ⊥
    differ q = cc
sporadic_form (Sporadic priority c op' s j x vars block) n name ds th op ceiling separation jitter external e timing =
    let q : Requested op' c s j x ≡ Requested op ceiling separation jitter external = ap (λ z. z.timing) (same_Some _ th e) ∙ timing in
    let form_by : ReleasePattern → Form = λ t. by t in
    record { priority = priority; vars = vars; block = block; form_is = ap form_by q }
  where
    by : ReleasePattern → Form
    by (Periodic offset period) = Passive []
    by (Requested op'' c'' s'' j'' x'') = Sporadic priority c'' op'' s'' j'' x'' vars block

-- a thread that is requested from outside with this value
pub record IsAsked (p : Program) (r : places.Arrivals) (a : place.Arrival) : Type 0 where
  pub place' : ℕ
  pub thread : TaskUnit
  pub at : slice_get (system p r).threads place' ≡ Some thread
  pub unit : thread.unit ≡ a.task
  pub op : Signature
  pub ceiling : ℕ
  pub separation : ℕ
  pub jitter : ℕ
  pub timing : thread.timing ≡ Requested op ceiling separation jitter true
  pub fit : fits op a.value ≡ true

asked_thread : (p : Program) (r : places.Arrivals) (before : List place.Arrival) (a : place.Arrival) → HasUnit (system p r).threads a.task
    → request_fault_at (slice_get p.units a.task) before a ≡ None → IsAsked p r a
asked_thread p r before a has fine =
    let f : IsMadeOf p r has.1 = made-of p r has.0 has.1 has.2 in
    let here : request_fault_by f.unit.form before a ≡ None
    = sym (ap (λ o. request_fault_at o before a) (ap (slice_get p.units) (sym has.3) ∙ f.here)) ∙ fine in
    by f.unit.form here f.makes
  where
    by : (form : Form) → request_fault_by form before a ≡ None
        → thread_by (durations r has.1.unit) has.1.unit (made-of p r has.0 has.1 has.2).unit.name form ≡ Some has.1 → IsAsked p r a
    by (Passive ops) h e = absurd (none-some Unknown (sym h))
    by (Shared ceiling vars ops) h e = absurd (none-some Unknown (sym h))
    by (Cyclic priority offset period vars block) h e = absurd (none-some Unknown (sym h))
    by (Sporadic priority ceiling op separation jitter false vars block) h e = absurd (none-some Unknown (sym h))
    by (Sporadic priority ceiling op separation jitter true vars block) h e = record {
      place' = has.0;
      thread = has.1;
      at = has.2;
      unit = has.3;
      op = op;
      ceiling = ceiling;
      separation = separation;
      jitter = jitter;
      timing = sym (ap (λ z. z.timing) (same_Some _ has.1 e));
      fit = not-false (fits op a.value) (no-fault (not (fits op a.value)) Unfit (or_else-none (fault_if (not (fits op a.value)) Unfit) _ h).0);
    }

-- a value for the parameters
value_for : (ps : List Param) (name : Name) (value : Option ℕ) → fits (record { name = name; params = ps }) value ≡ true → IsValueFor ps value
value_for [] name None h = tt
value_for [] name (Some v) h = true≢false (sym h)
value_for (q ∷ ps) name None h = absurd (no_length (length ps) h)
  where
    no_length : (n : ℕ) → (suc n == 0) ≡ true → ⊥
    no_length n e = grind arith
value_for (q ∷ ps) name (Some v) h = tt

-- the first task of a name is that of the thread
find_thread : (ths : List TaskUnit) (k : ℕ) (th : TaskUnit) → slice_get ths k ≡ Some th
    → ((j : ℕ) (u : TaskUnit) → slice_get ths j ≡ Some u → same_name u.name th.name ≡ true → j ≡ k)
    → find (λ t. same_name t.name th.name) (map task_at ths) ≡ Some (task_at th)
find_thread [] k th at apart = absurd (none-some th at)
find_thread (u ∷ ths) zero th at apart =
    let is : u ≡ th = same_Some u th at in
    ap (λ b. cond b (Some (task_at u)) (find (λ t. same_name t.name th.name) (map task_at ths)))
    (ap (λ z. same_name z.name th.name) is ∙ (bytes_eq-Decides th.name th.name).1 refl) ∙ ap (λ z. Some (task_at z)) is
find_thread (u ∷ ths) (suc k) th at apart =
    ap (λ b. cond b (Some (task_at u)) (find (λ t. same_name t.name th.name) (map task_at ths)))
    (false_from_ne_true _ (λ e. zero_suc (apart 0 u refl e)))
    ∙ find_thread ths k th at (λ j v e same. down j (apart (suc j) v e same))
  where
    zero_suc : 0 ≡ suc k → ⊥
    zero_suc e = omega (arith, e)

    down : (j : ℕ) → suc j ≡ suc k → j ≡ k
    down j e = omega (arith, e)

-- what is accepted, item by item
items_asked : (p : Program) (r : places.Arrivals) (before items : List place.Arrival) → Each (λ a. HasUnit (system p r).threads a.task) items
    → requests_fault p before items ≡ None → Each (IsAsked p r) items
items_asked p r before [] units e = tt
items_asked p r before (a ∷ more) units e =
    let parts : (item_fault p before a ≡ None) × (requests_fault p (before ++ a ∷ []) more ≡ None)
    = or_else-none (item_fault p before a) (requests_fault p (before ++ a ∷ []) more) e in (
      asked_thread p r before a units.0 (or_else-none (fault_if (nat_lt a.time (last_time before)) Falling)
          (request_fault_at (slice_get p.units a.task) before a) parts.0).1,
      items_asked p r (before ++ a ∷ []) more units.1 parts.1,
    )

-- a name by its place
thread_named : (p : Program) (r : places.Arrivals) (a : place.Arrival) (k : ℕ) (th : TaskUnit) → slice_get (system p r).threads k ≡ Some th
    → th.unit ≡ a.task → unit_name p a.task ≡ th.name
thread_named p r a k th at unit = ap (unit_name p) (sym unit) ∙ thread_name p r k th at

taken_by : (timing : ReleasePattern) (op : Signature) (ceiling separation jitter : ℕ) (value : Option ℕ)
    → timing ≡ Requested op ceiling separation jitter true → fits op value ≡ true → Takes (timing_at timing) value
taken_by timing op ceiling separation jitter value is fit = let P : ReleasePattern → Type 0 = λ z. Takes (timing_at z) value
    in subst P (sym is) (value_for op.params op.name value fit)

is_external : (p : Program) (r : places.Arrivals) → MeetsRules p → (a : place.Arrival) → IsAsked p r a
    → IsExternal (program_software p).tasks (named_item p a)
is_external p r meets a h =
    let name : unit_name p a.task ≡ h.thread.name = thread_named p r a h.place' h.thread h.at h.unit in
    let found : find (λ t. same_name t.name h.thread.name) (map task_at (system p r).threads) ≡ Some (task_at h.thread) =
    find_thread (system p r).threads h.place' h.thread h.at (λ j u e same. threads_apart p r meets j h.place' u h.thread e h.at same) in
    let N : Name → Type 0 = λ n. IsTaken (find (λ t. same_name t.name n) (program_software p).tasks) a.value in
    let T : List Task → Type 0 = λ ts. IsTaken (find (λ t. same_name t.name h.thread.name) ts) a.value in
    let O : Option Task → Type 0 = λ o. IsTaken o a.value in
    subst N (sym name) (subst T (sym (tasks_of p r))
    (subst O (sym found) (taken_by h.thread.timing h.op h.ceiling h.separation h.jitter a.value h.timing h.fit)))

-- arrivals of a thread's unit are those of its name
pub unit_same : (p : Program) (r : places.Arrivals) → MeetsRules p → (k : ℕ) (th : TaskUnit) → slice_get (system p r).threads k ≡ Some th
    → (a : place.Arrival) → HasUnit (system p r).threads a.task → same_name (unit_name p a.task) th.name ≡ (a.task == th.unit)
unit_same p r meets k th at a has = by (a.task == th.unit) refl
  where
    name : unit_name p a.task ≡ has.1.name
    name = thread_named p r a has.0 has.1 has.2 has.3

    by : (b : Bool) → (a.task == th.unit) ≡ b → same_name (unit_name p a.task) th.name ≡ b
    by true e = ap (λ n. same_name (unit_name p n) th.name) (eqb-true a.task th.unit e) ∙ ap (λ n. same_name n th.name) (thread_name p r k th at) ∙
        (bytes_eq-Decides th.name th.name).1 refl
    by false e = false_from_ne_true _ (λ same.
        let place_is : has.0 ≡ k = threads_apart p r meets has.0 k has.1 th has.2 at (ap (λ n. same_name n th.name) (sym name) ∙ same) in
        let one : has.1 ≡ th = same_Some has.1 th (sym has.2 ∙ ap (slice_get (system p r).threads) place_is ∙ at) in
        eqb-false a.task th.unit e (sym has.3 ∙ ap (λ z. z.unit) one))

-- the separation of each task
kept_separation : (p : Program) (r : places.Arrivals) → MeetsRules p → requests_fault p [] r.items ≡ None
    → Each (λ a. HasUnit (system p r).threads a.task) r.items
    → (k : ℕ) (th : TaskUnit) → slice_get (system p r).threads k ≡ Some th → KeepsSeparation (named_arrivals p r).items th.name (timing_at th.timing)
kept_separation p r meets clean units k th at = by th.timing refl
  where
    by : (timing : ReleasePattern) → th.timing ≡ timing → KeepsSeparation (named_arrivals p r).items th.name (timing_at timing)
    by (Periodic offset period) is = tt
    by (Requested op ceiling separation jitter false) is = tt
    by (Requested op ceiling separation jitter true) is =
        let f : IsMadeOf p r th = made-of p r k th at in
        let g : IsSporadic f.unit.form op ceiling separation jitter true
        = sporadic_form f.unit.form th.unit f.unit.name (durations r th.unit) th op ceiling separation jitter true f.makes is in
        let K : List ℕ → Type 0 = λ ts. KeepTime separation jitter 0 ts in
        subst K (sym (times-named p r th.unit th.name r.items (λ a has. unit_same p r meets k th at a has) units))
        (keeps_from p th.unit f.unit op g.priority ceiling separation jitter g.vars g.block f.here g.form_is [] r.items clean)

-- durations of tasks
task_unit_there : (p : Program) (r : places.Arrivals) (o : Option Unit) (m : ℕ) (ticks : List ℕ) → slice_get p.units m ≡ o
    → durations_fault o ticks ≡ None → HasUnit (system p r).threads m
task_unit_there p r None m ticks at e = absurd (none-some Unknown (sym e))
task_unit_there p r (Some u) m ticks at e =
    unit_at_thread p r m u at (not-false (is_task u.form) (no-fault (not (is_task u.form)) Unknown
    (or_else-none (fault_if (not (is_task u.form)) Unknown) _ e).0))

works_kept : (p : Program) (r : places.Arrivals) (work : List places.Durations) → works_fault p work ≡ None
    → Each (λ w. Each (λ d. 1 ≤ d) w.ticks) work
    → Each (AreDurations (program_software p).tasks) (map (λ w. let z : Durations = record { task = unit_name p w.task; ticks = w.ticks } in z) work)
works_kept p r [] e all = tt
works_kept p r (w ∷ work) e all =
    let parts : (durations_fault (slice_get p.units w.task) w.ticks ≡ None) × (works_fault p work ≡ None)
    = or_else-none (durations_fault (slice_get p.units w.task) w.ticks) (works_fault p work) e in (
      (
        is_task_there p r w.task (task_unit_there p r (slice_get p.units w.task) w.task w.ticks refl
            parts.0),
        all.0,
      ),
      works_kept p r work parts.1 all.1,
    )

-- all of it
pub kept_software : (limit : ℕ) (p : Program) (r : places.Arrivals) → MeetsRules p → IsAccepted limit p r
    → AreKept limit (program_software p) (named_arrivals p r)
kept_software limit p r meets accepted =
    let clean : requests_fault p [] r.items ≡ None = (no-faults limit p r accepted).1 in
    let units : Each (λ a. HasUnit (system p r).threads a.task) r.items = items_units p r [] r.items clean in
    let parts = or_else-none (fault_if (nat_lt limit r.until) Far) (or_else (works_fault p r.work) (requests_fault p [] r.items)) accepted in
    let works : works_fault p r.work ≡ None = (or_else-none (works_fault p r.work) (requests_fault p [] r.items) parts.1).0 in
    let near : nat_lt limit r.until ≡ false = no-fault (nat_lt limit r.until) Far parts.0 in
    record {
      horizon = grind arith;
      durations = works_kept p r r.work works (works-each p r.work works);
      times = later_named p 0 r.items (items_later p [] r.items clean);
      external = each-map (named_item p) (IsExternal (program_software p).tasks) r.items (each-to (IsAsked p r)
          (λ a. IsExternal (program_software p).tasks (named_item p a)) r.items (λ a h. is_external p r meets a h) (items_asked p r [] r.items
          units clean));
      separations = each_task p r (λ t. KeepsSeparation (named_arrivals p r).items t.name t.timing) (λ k th at.
          kept_separation p r meets clean units k th at);
    }
