-- Where every task of a program stands in a table whose rows fit, a run within the bounds is one that the program's texts permit.
use Rattle.std.specs.Prelude.{◌≡◌, ℕ, zero, suc, ◌+◌, ◌≤◌, ◌<◌, Bool, true, false, List, [], ◌∷◌, ◌++◌, map, filter_map, zip, max, Option, Some}
use Rattle.std.specs.Prelude.{None, slice_get, option_map, refl}
use Rattle.std.specs.List.{cons_option}
use Rattle.std.proofs.Common.{sym, ◌∙◌, ap, subst, arith}
use Rattle.std.proofs.lemmas.Option.{slice_get-map, none-some, same_Some}
use Rattle.seq_tree.specs.Lists.{Each}
use Rattle.seq_tree.specs.Names.{Name, same_name}
use Rattle.seq_tree.specs.Operations.{Signature}
use Rattle.ada_tree.specs.Programs.{Unit, Program}
use Rattle.arrivals_tree.specs.Arriving as places
use Rattle.arrivals_tree.specs.Acceptance.{IsAccepted}
use Rattle.ods_tree.specs.Flats as flats
use Rattle.ods_tree.specs.Flats.{period_of}
use Rattle.ods_tree.specs.Walk.{only_if}
use Rattle.trace_tree.specs.declared.event.Event as machine
use Rattle.machine.specs.Systems.{TaskUnit, ReleasePattern, Periodic, Requested, system}
use Rattle.machine.specs.Meanings.{Meaning}
use Rattle.rt_response.specs.declared.rows.ThreadRow.{ThreadRow}
use Rattle.rt_response.specs.declared.rows.Bound.{Bound}
use Rattle.rt_response.specs.Response.{Entry, response_after, inherited, jitter_by, sides_after, right_sides, Fits}
use Rattle.rt_response.specs.Tables.{IsRow}
use Rattle.rt_response.specs.Tables as tables
use Rattle.guarantee.specs.Software.{Task, program_software, task_by}
use Rattle.guarantee.specs.Events.{Event, By, named}
use Rattle.guarantee.specs.Events as names
use Rattle.guarantee.specs.Arrivals.{named_arrivals, KeepTime, KeepsSeparation, AreKept}
use Rattle.guarantee.specs.Arrivals as arrivals
use Rattle.guarantee.specs.Order.{IsInOrder}
use Rattle.guarantee.specs.Releases.{Released, releases, AreOnTime}
use Rattle.guarantee.specs.Requests.{Asked, Taken, Done, notices}
use Rattle.guarantee.specs.Bounded.{Response, Responds, IsBounded}
use Rattle.guarantee.specs.Allowed.{Permits, IsPeriodic, IsRequested}
use Rattle.guarantee.specs.MachineLaw.{NeverStops, IsReadable}
use Rattle.guarantee.specs.ResponseLaw.{Ranked, ranked, priority_of, IsStarter, IsStarted, AreTabled, times_of, ProcessorResponds}
use Rattle.law_written.proofs.Shared.InOrder.{in_order}
use Rattle.law_written.proofs.Shared.Claims.{task_at, timing_at}
use Rattle.law_written.proofs.Shared.Units.{tasks_of}
use Rattle.law_releases.proofs.Shared.Tasks as tasks
use Rattle.law_releases.proofs.Shared.PeriodicLaw.{on_time, are_periodic}
use Rattle.law_releases.proofs.Shared.Overruns.{never_overruns, releases_keep}
use Rattle.law_releases.proofs.Shared.ExternalRequests.{external_asked}
use Rattle.law_releases.proofs.Shared.InheritedJitter.{keeps_time}
use Rattle.law_releases.proofs.Shared.Permitted.{permits}
use Rattle.law_chains.specs.AtOnce.{IsServedAtOnce}
use Rattle.law_chains.proofs.Shared.AtOnceSteps.{served_at_once}
use Rattle.law_releases.proofs.Shared.ServedLaw.{served_while, all_requests_served}
use Rattle.law_releases.proofs.Shared.ArrivalsTold.{are_told}
use Rattle.law_written.proofs.Shared.EveryRun.{every_run}
use Rattle.law_runs.specs.Laws.{ServesTable}
use Rattle.law_lists.proofs.Shared.Places.{all-at, zip-at, map-at}
use Rattle.law_lists.proofs.Shared.Lists.{zip-first, each-map, each-by}
use Rattle.law_releases.specs.Serving.{ServedWhile, NeverOverruns, asked, taken, HasNoOverrun}
use Rattle.law_releases.specs.Starting.{AsksOnce}
use Rattle.law_releases.specs.Laws.{EndsWithinPeriod}

-- times that keep a separation, with more jitter
keep_more : (separation j j' least : ℕ) (ts : List ℕ) → j ≤ j' → KeepTime separation j least ts → KeepTime separation j' least ts
keep_more separation j j' least [] h k = tt
keep_more separation j j' least (t ∷ ts) h k = (omega (arith, k.0, h), keep_more separation j j' (max t least + separation) ts h k.1)

-- the times of releases
release_times : (name : Name) (told : List Event) → map (λ z. z.time) (releases name told) ≡ taken (notices name told)
release_times name [] = refl
release_times name (By time task (names.Release value) ∷ told) = by (same_name task name) (release_times name told)
  where
    by : (b : Bool) → map (λ z. z.time) (releases name told) ≡ taken (notices name told)
        → map (λ z. z.time) (cons_option (only_if b (record { time = time; value = value })) (releases name told))
        ≡ taken (cons_option (only_if b (Taken time value)) (notices name told))
    by true h = ap (λ ts. time ∷ ts) h
    by false h = h
release_times name (By time task (names.Arrive value) ∷ told) = release_times name told ∙ skip (same_name task name)
  where
    skip : (b : Bool) → taken (notices name told) ≡ taken (cons_option (only_if b (Asked time value)) (notices name told))
    skip true = refl
    skip false = refl
release_times name (By time task (names.Request target value) ∷ told) = release_times name told ∙ skip (same_name target name)
  where
    skip : (b : Bool) → taken (notices name told) ≡ taken (cons_option (only_if b (Asked time value)) (notices name told))
    skip true = refl
    skip false = refl
release_times name (By time task (names.End used) ∷ told) = release_times name told ∙ skip (same_name task name)
  where
    skip : (b : Bool) → taken (notices name told) ≡ taken (cons_option (only_if b (Done time)) (notices name told))
    skip true = refl
    skip false = refl
release_times name (By time task (names.Enter op values) ∷ told) = release_times name told
release_times name (By time task (names.Leave op values) ∷ told) = release_times name told
release_times name (By time task (names.Print value) ∷ told) = release_times name told
release_times name (By time task (names.Stop object priority ceiling) ∷ told) = release_times name told
release_times name (names.Horizon time ∷ told) = release_times name told

on_time_keeps : (period until jitter next least : ℕ) (rs : List Released) → least ≤ next → AreOnTime period until next rs
    → KeepTime period jitter least (map (λ z. z.time) rs)
on_time_keeps period until jitter next least [] h on = tt
on_time_keeps period until jitter next least (z ∷ rs) h on =
    (omega (arith, h, on.1), on_time_keeps period until jitter (next + period) (max z.time least + period) rs (omega (arith, h, on.1)) on.3)

rows_at : {A : Type 0} (P : A → Type 0) (xs : List A) (i : ℕ) (x : A) → tables.Each P xs → slice_get xs i ≡ Some x → P x
rows_at P [] i x all e = absurd (none-some x e)
rows_at P (a ∷ xs) zero x all e = subst P (same_Some a x e) all.0
rows_at P (a ∷ xs) (suc i) x all e = rows_at P xs i x all.1 e

-- the right side of an equation
side_at : (v : List Bound) (before es : List Entry) (i : ℕ) (e : Entry) → slice_get es i ≡ Some e
    → (front : List Entry) × (slice_get (sides_after v before es) i
    ≡ Some (record { jitter = jitter_by v e.0 e.0.starter; response = response_after front e }))
side_at v before [] i e h = absurd (none-some e h)
side_at v before (x ∷ es) zero e h = (
  before,
  ap (λ z. Some (let b : Bound = record { jitter = jitter_by v z.0 z.0.starter; response = response_after before z }
      in b)) (same_Some x e h),
)
side_at v before (x ∷ es) (suc i) e h = side_at v (before ++ x ∷ []) es i e h

-- a task in a table, with its row and its bound
pub record IsTabled (ts : List Ranked) (rows : List ThreadRow) (v : List Bound) (i : ℕ) (t : Ranked) : Type 0 where
  pub here : slice_get ts i ≡ Some t
  pub row : ThreadRow
  pub row_here : slice_get rows i ≡ Some row
  pub bound : Bound
  pub bound_here : slice_get v i ≡ Some bound
  pub period : row.period ≡ period_of t.task.timing
  pub within : bound.jitter + bound.response ≤ row.period
  pub jitter : jitter_by v row row.starter ≤ bound.jitter
  pub some : 1 ≤ bound.response

tabled_at : (p : Program) (ts : List Ranked) (rows : List ThreadRow) (v : List Bound) → AreTabled p ts rows → Fits rows v → (i : ℕ) (t : Ranked)
    → slice_get ts i ≡ Some t → IsTabled ts rows v i t
tabled_at p ts rows v tabled fits i t here =
    let n = zip-first _ ts rows i t tabled.numbers here in
    let l = zip-first _ rows v i n.0 fits.1 n.1 in
    let e : slice_get (zip rows v) i ≡ Some (n.0, l.0) = zip-at rows v i n.0 l.0 n.1 l.1 in
    let side = side_at v [] (zip rows v) i (n.0, l.0) e in
    let m = zip-first _ (right_sides rows v) v i _ fits.0.1 side.1 in
    let same : m.0 ≡ l.0 = same_Some m.0 l.0 (sym m.1 ∙ l.1) in
    let row : IsRow _ n.0 = rows_at _ rows i n.0 tabled.table.each n.1 in
    let response : response_after side.0 (n.0, l.0) ≤ l.0.response = (let P : Bound → Type 0 = λ z. response_after side.0 (n.0, l.0) ≤ z.response
    in subst P same m.2.1) in
    let jitter : jitter_by v n.0 n.0.starter ≤ l.0.jitter = (let P : Bound → Type 0 = λ z. jitter_by v n.0 n.0.starter ≤ z.jitter
    in subst P same m.2.0) in
    record {
      here = here;
      row = n.0;
      row_here = n.1;
      bound = l.0;
      bound_here = l.1;
      period = n.2.0;
      within = l.2.1;
      jitter = jitter;
      some = omega (arith, response, row.works);
    }

-- the thread of a ranked task
pub record HasThread (p : Program) (r : places.Arrivals) (t : Ranked) : Type 0 where
  pub place : ℕ
  pub thread : TaskUnit
  pub at : slice_get (system p r).threads place ≡ Some thread
  pub same : task_at thread ≡ t.task

pub ranked_tasks : (us : List Unit)
    → map (λ u. u.task) (filter_map (λ u. option_map (λ t. let z : Ranked = record { task = t; priority = priority_of u.form }
    in z) (task_by u.name u.form)) us) ≡ filter_map (λ u. task_by u.name u.form) us
ranked_tasks [] = refl
ranked_tasks (u ∷ us) = by (task_by u.name u.form) (ranked_tasks us)
  where
    by : (o : Option Task) → map (λ z. z.task) (filter_map (λ z. option_map (λ t. let q : Ranked = record { task = t; priority = priority_of z.form }
        in q) (task_by z.name z.form)) us) ≡ filter_map (λ z. task_by z.name z.form) us
        → map (λ z. z.task) (cons_option (option_map (λ t. let q : Ranked = record { task = t; priority = priority_of u.form }
        in q) o) (filter_map (λ z. option_map (λ t. let q : Ranked = record { task = t; priority = priority_of z.form }
        in q) (task_by z.name z.form)) us))
        ≡ cons_option o (filter_map (λ z. task_by z.name z.form) us)
    by None h = h
    by (Some t) h = ap (λ ts. t ∷ ts) h

-- a ranked task is that of its place
pub ranked_at : (p : Program) (k : ℕ) (t : Ranked) → slice_get (ranked p) k ≡ Some t → slice_get (program_software p).tasks k ≡ Some t.task
ranked_at p k t e = ap (λ ts. slice_get ts k) (sym (ranked_tasks p.units)) ∙ map-at (λ u. u.task) (ranked p) k t e

pub thread_of : (p : Program) (r : places.Arrivals) (k : ℕ) (t : Ranked) → slice_get (ranked p) k ≡ Some t → HasThread p r t
thread_of p r k t e =
    let m : (th : TaskUnit) × (slice_get (system p r).threads k ≡ Some th) × (task_at th ≡ t.task)
    = tasks.thread_of p r k t.task (ranked_at p k t e) in
    record { place = k; thread = m.0; at = m.1; same = m.2 }

-- what is asked of a task that another requests, of its starter
abbrev pub Starts : Program → List Ranked → List Event → Type 0
Starts p ts trace =
    (t : Ranked) (k : ℕ) (row : ThreadRow) (op : Signature) (separation : ℕ) (e : IsStarter p ts row t.task.name op separation)
    → slice_get (ranked p) k ≡ Some t → t.task.timing ≡ flats.Sporadic op separation None → AsksOnce e.starter.task.name t.task.name false trace

module _ (limit : ℕ) (p : Program) (ts : List Ranked) (rows : List ThreadRow) (v : List Bound) (r : places.Arrivals) (trace : List machine.Event)
    (readable : IsReadable p) (tabled : AreTabled p ts rows) (fits : Fits rows v)
    (accepted : IsAccepted limit p r) (kept : AreKept limit (program_software p) (named_arrivals p r)) (m : Meaning p r trace)
    (quiet : NeverStops (named p trace)) (bounded : IsBounded (times_of ts v) r.until (named p trace)) where
  abbrev T : List Event
  T = named p trace

  ordered : IsInOrder (program_software p).tasks r.until 0 T
  ordered = in_order p r trace m quiet

  responds : (i : ℕ) (t : Ranked) (d : IsTabled ts rows v i t) → Responds r.until T (record { thread = t.task.name; ticks = d.bound.response })
  responds i t d =
      all-at (Responds r.until T) (times_of ts v) i (record { thread = t.task.name; ticks = d.bound.response }) bounded
      (slice_get-map (λ c. let q : Response = record { thread = c.0.task.name; ticks = c.1.response } in q) (zip ts v) i
      ∙ ap (option_map (λ c. record { thread = c.0.task.name; ticks = c.1.response })) (zip-at ts v i t d.bound d.here d.bound_here))

  thread_at : (i : ℕ) (t : Ranked) → slice_get ts i ≡ Some t → HasThread p r t
  thread_at i t here = let k = all-at _ ts i t tabled.tasks here in thread_of p r k.0 t k.1

  -- the keeping of time by releases
  abbrev Keeps : Ranked → Bound → Type 0
  Keeps t b = KeepTime (period_of t.task.timing) b.jitter 0 (taken (notices t.task.name T))

  named_so : (t : Ranked) (h : HasThread p r t) → h.thread.name ≡ t.task.name
  named_so t h = ap (λ z. z.name) h.same

  timed_so : (t : Ranked) (h : HasThread p r t) → timing_at h.thread.timing ≡ t.task.timing
  timed_so t h = ap (λ z. z.timing) h.same

  serves : (t : Ranked) (h : HasThread p r t) (op : Signature) (ceiling separation jitter : ℕ) (external : Bool)
      → h.thread.timing ≡ Requested op ceiling separation jitter external → ServedWhile None (Some 0) (notices t.task.name T)
  serves t h op ceiling separation jitter external timing =
      let P : Name → Type 0 = λ n. ServedWhile None (Some 0) (notices n T) in
      subst P (named_so t h) (served_while limit p r readable.1 accepted h.place h.thread h.at op ceiling separation jitter external timing trace m)

  module _ (starts : Starts p ts (named p trace)) where
    -- the requests of a sporadic task
    asked_keeps : (i : ℕ) (t : Ranked) (d : IsTabled ts rows v i t) (h : HasThread p r t) (op : Signature) (ceiling separation jitter : ℕ)
        (external : Bool) → h.thread.timing ≡ Requested op ceiling separation jitter external
        → ((s : ℕ) (u : Ranked) (e : IsTabled ts rows v s u) → e.bound.jitter < d.bound.jitter → Keeps u e.bound)
        → KeepTime separation d.bound.jitter 0 (asked (notices t.task.name T))
    asked_keeps i t d h op ceiling separation jitter true timing before =
        let task_timing : t.task.timing ≡ flats.Sporadic op separation (Some jitter) = sym (timed_so t h) ∙ ap timing_at timing in
        let n = zip-first _ ts rows i t tabled.started d.here in
        let row : n.0 ≡ d.row = same_Some n.0 d.row (sym n.1 ∙ d.row_here) in
        let S : flats.Timing → Type 0 = λ z. IsStarted p ts n.0 t.task.name z in
        let started : (n.0.starter ≡ None) × (jitter ≤ n.0.jitter) = subst S task_timing n.2 in
        let low : n.0.jitter ≤ d.bound.jitter =
        (let J : ThreadRow → Type 0 = λ z. jitter_by v z z.starter ≤ d.bound.jitter in
        let K : Option ℕ → Type 0 = λ o. jitter_by v n.0 o ≤ d.bound.jitter in
        subst K started.0 (subst J (sym row) d.jitter)) in
        let A : Name → Type 0 = λ z. KeepTime separation jitter 0 (asked (notices z T)) in
        let Q : flats.Timing → Type 0 = λ z. KeepsSeparation (named_arrivals p r).items h.thread.name z in
        let own : KeepTime separation jitter 0 (arrivals_of h.thread.name) =
        subst Q (ap timing_at timing) (all-at (λ z. KeepsSeparation (named_arrivals p r).items z.name z.timing)
        (map task_at (system p r).threads) h.place (task_at h.thread)
        (let E : List Task → Type 0 = λ zs. Each (λ z. KeepsSeparation (named_arrivals p r).items z.name z.timing) zs
        in subst E (tasks_of p r) kept.separations)
        (slice_get-map task_at (system p r).threads h.place ∙ ap (option_map task_at) h.at)) in
        keep_more separation jitter d.bound.jitter 0 (asked (notices t.task.name T)) (omega (arith, started.1, low))
        (subst A (named_so t h) (external_asked limit p r trace h.place h.thread op ceiling separation jitter readable.1 accepted m quiet h.at timing
        kept.times own))
      where
        arrivals_of : Name → List ℕ
        arrivals_of n = arrivals.times_of n (named_arrivals p r).items
    asked_keeps i t d h op ceiling separation jitter false timing before =
        let task_timing : t.task.timing ≡ flats.Sporadic op separation None = sym (timed_so t h) ∙ ap timing_at timing in
        let n = zip-first _ ts rows i t tabled.started d.here in
        let row : n.0 ≡ d.row = same_Some n.0 d.row (sym n.1 ∙ d.row_here) in
        let S : flats.Timing → Type 0 = λ z. IsStarted p ts n.0 t.task.name z in
        let started : IsStarter p ts n.0 t.task.name op separation = subst S task_timing n.2 in
        let e : IsTabled ts rows v started.place started.starter = tabled_at p ts rows v tabled fits started.place started.starter started.stands in
        let low : e.bound.jitter + e.bound.response ≤ d.bound.jitter =
        (let J : ThreadRow → Type 0 = λ z. jitter_by v z z.starter ≤ d.bound.jitter in
        let K : Option ℕ → Type 0 = λ o. jitter_by v n.0 o ≤ d.bound.jitter in
        let L : Option Bound → Type 0 = λ o. inherited o ≤ d.bound.jitter in
        subst L e.bound_here (subst K started.told (subst J (sym row) d.jitter))) in
        let keeps : Keeps started.starter e.bound = before started.place started.starter e (omega (arith, low, e.some)) in
        keep_more separation (e.bound.jitter + e.bound.response) d.bound.jitter 0 (asked (notices t.task.name T)) low
        (keeps_time (program_software p).tasks r.until started.starter.task.name t.task.name (period_of started.starter.task.timing) e.bound.jitter
        e.bound.response separation started.period T ordered
        (responds started.place started.starter e) keeps (let place = all-at _ ts i t tabled.tasks d.here
        in starts t place.0 n.0 op separation started place.1 task_timing))

    -- a separation is the period of the row
    within_so : (i : ℕ) (t : Ranked) (d : IsTabled ts rows v i t) (h : HasThread p r t) (op : Signature) (ceiling separation jitter : ℕ)
        (external : Bool) → h.thread.timing ≡ Requested op ceiling separation jitter external
        → d.bound.response + d.bound.jitter ≤ separation
    within_so i t d h op ceiling separation jitter external timing =
        let s : period_of t.task.timing ≡ separation = ap period_of (sym (timed_so t h)) ∙ ap (λ z. period_of (timing_at z)) timing in
        omega (arith, d.within, d.period, s)

    -- releases of a task with a bound on its jitter
    keeps_by : (n : ℕ) (i : ℕ) (t : Ranked) (d : IsTabled ts rows v i t) → d.bound.jitter < n → Keeps t d.bound
    keeps_by zero i t d low = absurd (omega (arith, low))
    keeps_by (suc n) i t d low = by h.thread.timing refl (λ s u e less. keeps_by n s u e (omega (arith, less, low)))
      where
        h : HasThread p r t
        h = thread_at i t d.here

        by : (timing : ReleasePattern) → h.thread.timing ≡ timing
            → ((s : ℕ) (u : Ranked) (e : IsTabled ts rows v s u) → e.bound.jitter < d.bound.jitter → Keeps u e.bound) → Keeps t d.bound
        by (Periodic offset period) is before =
            let s : period_of t.task.timing ≡ period = ap period_of (sym (timed_so t h)) ∙ ap (λ z. period_of (timing_at z)) is in
            let N : Name → Type 0 = λ z. Responds r.until T (record { thread = z; ticks = d.bound.response }) in
            let on : AreOnTime period r.until offset (releases h.thread.name T) =
            on_time limit p r trace h.place h.thread offset period d.bound.response readable.1 accepted m quiet h.at is
            (omega (arith, d.within, d.period, s)) (subst N (sym (named_so t h)) (responds i t d)) in
            let K : List ℕ → Type 0 = λ zs. KeepTime period d.bound.jitter 0 zs in
            let M : Name → Type 0 = λ z. KeepTime period d.bound.jitter 0 (taken (notices z T)) in
            let P : ℕ → Type 0 = λ z. KeepTime z d.bound.jitter 0 (taken (notices t.task.name T)) in
            subst P (sym s) (subst M (named_so t h) (subst K (release_times h.thread.name T)
            (on_time_keeps period r.until d.bound.jitter offset 0 (releases h.thread.name T) (omega arith) on)))
        by (Requested op ceiling separation jitter external) is before =
            let s : period_of t.task.timing ≡ separation = ap period_of (sym (timed_so t h)) ∙ ap (λ z. period_of (timing_at z)) is in
            let P : ℕ → Type 0 = λ z. KeepTime z d.bound.jitter 0 (taken (notices t.task.name T)) in
            subst P (sym s) (releases_keep (program_software p).tasks r.until t.task.name d.bound.response separation d.bound.jitter d.some
            (within_so i t d h op ceiling separation jitter external is) T ordered (responds i t d)
            (asked_keeps i t d h op ceiling separation jitter external is before) (serves t h op ceiling separation jitter external is))

    -- no request of a sporadic task overruns another
    never_so : (i : ℕ) (t : Ranked) (d : IsTabled ts rows v i t) (h : HasThread p r t) (op : Signature) (ceiling separation jitter : ℕ)
        (external : Bool) → h.thread.timing ≡ Requested op ceiling separation jitter external
        → NeverOverruns false (notices t.task.name T)
    never_so i t d h op ceiling separation jitter external is =
        never_overruns (program_software p).tasks r.until t.task.name d.bound.response separation d.bound.jitter d.some
        (within_so i t d h op ceiling separation jitter external is) T ordered (responds i t d)
        (asked_keeps i t d h op ceiling separation jitter external is (λ s u e less. keeps_by (suc e.bound.jitter) s u e (omega arith)))
        (serves t h op ceiling separation jitter external is)

    -- each task of the program, where all stand in the table
    tasks_by : (P : Task → Type 0) → ((k : ℕ) (t : Ranked) → slice_get (ranked p) k ≡ Some t → P t.task) → Each P (program_software p).tasks
    tasks_by P all = let E : List Task → Type 0 = λ zs. Each P zs
        in subst E (ranked_tasks p.units) (each-map (λ u. u.task) P (ranked p) (each-by (λ u. P u.task) (ranked p) all))

    -- a task of the table ends within its period, where it is cyclic
    quick : (i : ℕ) (t : Ranked) → slice_get ts i ≡ Some t → EndsWithinPeriod r.until T t.task.name t.task.timing
    quick i t e = by t.task.timing refl
      where
        d : IsTabled ts rows v i t
        d = tabled_at p ts rows v tabled fits i t e

        by : (timing : flats.Timing) → t.task.timing ≡ timing → EndsWithinPeriod r.until T t.task.name timing
        by (flats.Cyclic period offset) is =
            let s : period_of t.task.timing ≡ period = ap period_of is in
            (d.bound.response, omega (arith, d.within, d.period, s), responds i t d)
        by (flats.Sporadic op separation jitter) is = tt

    without_overrun : (i : ℕ) (t : Ranked) → slice_get ts i ≡ Some t → HasNoOverrun T t.task.name t.task.timing
    without_overrun i t e = let P : flats.Timing → Type 0 = λ z. HasNoOverrun T t.task.name z in subst P (timed_so t h) (by h.thread.timing refl)
      where
        h : HasThread p r t
        h = thread_at i t e

        d : IsTabled ts rows v i t
        d = tabled_at p ts rows v tabled fits i t e

        by : (timing : ReleasePattern) → h.thread.timing ≡ timing → HasNoOverrun T t.task.name (timing_at timing)
        by (Periodic offset period) is = tt
        by (Requested op ceiling separation jitter external) is = never_so i t d h op ceiling separation jitter external is

    -- the requests of a task of the table are served at once, where it is sporadic
    at_once : (i : ℕ) (t : Ranked) → slice_get ts i ≡ Some t → IsServedAtOnce T t.task.name t.task.timing
    at_once i t e = let P : flats.Timing → Type 0 = λ z. IsServedAtOnce T t.task.name z in subst P (timed_so t h) (by h.thread.timing refl)
      where
        h : HasThread p r t
        h = thread_at i t e

        d : IsTabled ts rows v i t
        d = tabled_at p ts rows v tabled fits i t e

        by : (timing : ReleasePattern) → h.thread.timing ≡ timing → IsServedAtOnce T t.task.name (timing_at timing)
        by (Periodic offset period) is = tt
        by (Requested op ceiling separation jitter external) is =
            served_at_once (program_software p).tasks r.until t.task.name d.bound.response separation d.bound.jitter d.some
            (within_so i t d h op ceiling separation jitter external is) T ordered (responds i t d)
            (asked_keeps i t d h op ceiling separation jitter external is (λ s u e less. keeps_by (suc e.bound.jitter) s u e (omega arith)))
            (serves t h op ceiling separation jitter external is)

    pub all_at_once : Each (λ t. IsServedAtOnce T t.task.name t.task.timing) ts
    all_at_once = each-by (λ t. IsServedAtOnce T t.task.name t.task.timing) ts at_once

    -- each task of the table is released on time, and its requests are served
    pub table_served : Each (λ t. IsPeriodic r.until T t.task.name t.task.timing × IsRequested T t.task.name t.task.timing) ts
    table_served = each-by (λ t. IsPeriodic r.until T t.task.name t.task.timing × IsRequested T t.task.name t.task.timing) ts (λ i t e.
        let place = all-at _ ts i t tabled.tasks e in
        let at : slice_get (program_software p).tasks place.0 ≡ Some t.task = ranked_at p place.0 t place.1 in (
          all-at (λ z. EndsWithinPeriod r.until T z.name z.timing → IsPeriodic r.until T z.name z.timing) (program_software p).tasks place.0 t.task
              (are_periodic limit p r trace readable.1 accepted m quiet) at (quick i t e),
          all-at (λ z. HasNoOverrun T z.name z.timing → IsRequested T z.name z.timing) (program_software p).tasks place.0 t.task
              (all_requests_served limit p r trace readable.1 accepted m) at (without_overrun i t e),
        ))

    -- the run is permitted, where all tasks of the program stand in the table
    pub bounded_permits : Each (λ u. (i : ℕ) × (slice_get ts i ≡ Some u)) (ranked p) → Permits (program_software p) (named_arrivals p r) T
    bounded_permits all =
        permits limit p r trace readable accepted m quiet
        (tasks_by (λ t. EndsWithinPeriod r.until T t.name t.timing) (λ k t e. let i = placed k t e in quick i.0 t i.1))
        (tasks_by (λ t. HasNoOverrun T t.name t.timing) (λ k t e. let i = placed k t e in without_overrun i.0 t i.1))
      where
        placed : (k : ℕ) (t : Ranked) → slice_get (ranked p) k ≡ Some t → (i : ℕ) × (slice_get ts i ≡ Some t)
        placed k t e = all-at (λ u. (i : ℕ) × (slice_get ts i ≡ Some u)) (ranked p) k t all e

-- with the law of responses: every run of a tabled program is permitted and within its bounds
pub tabled_runs : (limit : ℕ) → ProcessorResponds limit
    → (p : Program) (ts : List Ranked) (rows : List ThreadRow) (v : List Bound) (r : places.Arrivals) (trace : List machine.Event)
    → IsReadable p → AreTabled p ts rows → Each (λ u. (i : ℕ) × (slice_get ts i ≡ Some u)) (ranked p) → Fits rows v → IsAccepted limit p r
    → AreKept limit (program_software p) (named_arrivals p r) → Meaning p r trace
    → Starts p ts (named p trace)
    → Permits (program_software p) (named_arrivals p r) (named p trace) × IsBounded (times_of ts v) r.until (named p trace)
tabled_runs limit law p ts rows v r trace readable tabled all fits accepted kept m starts =
    let b : NeverStops (named p trace) × IsBounded (times_of ts v) r.until (named p trace)
    = law p ts rows v r trace readable tabled fits accepted m in
    (bounded_permits limit p ts rows v r trace readable tabled fits accepted kept m b.0 b.1 starts all, b.1)

-- with the law of responses: of the tasks of a program that stand in a table each is released on time and within its bound, its requests are
-- served, and the run does as written, whatever other tasks there are
pub served_tasks : (limit : ℕ) → ProcessorResponds limit
    → (p : Program) (ts : List Ranked) (rows : List ThreadRow) (v : List Bound) (r : places.Arrivals) (trace : List machine.Event)
    → IsReadable p → AreTabled p ts rows → Fits rows v → IsAccepted limit p r
    → AreKept limit (program_software p) (named_arrivals p r) → Meaning p r trace
    → Starts p ts (named p trace)
    → ServesTable p ts v r (named p trace)
served_tasks limit law p ts rows v r trace readable tabled fits accepted kept m starts =
    let b : NeverStops (named p trace) × IsBounded (times_of ts v) r.until (named p trace)
    = law p ts rows v r trace readable tabled fits accepted m in
    record {
      quiet = b.0;
      written = every_run limit p r trace readable accepted m b.0;
      arrivals = are_told limit p r trace accepted m b.0;
      served = table_served limit p ts rows v r trace readable tabled fits accepted kept m b.0 b.1 starts;
      bounded = b.1;
    }

-- with the law of responses: the requests of the sporadic tasks of a program that stand in a table that fits are served at once
pub served_at_once_tasks : (limit : ℕ) → ProcessorResponds limit
    → (p : Program) (ts : List Ranked) (rows : List ThreadRow) (v : List Bound) (r : places.Arrivals) (trace : List machine.Event)
    → IsReadable p → AreTabled p ts rows → Fits rows v → IsAccepted limit p r
    → AreKept limit (program_software p) (named_arrivals p r) → Meaning p r trace
    → Starts p ts (named p trace)
    → IsInOrder (program_software p).tasks r.until 0 (named p trace) × IsBounded (times_of ts v) r.until (named p trace)
    × Each (λ t. IsServedAtOnce (named p trace) t.task.name t.task.timing) ts
served_at_once_tasks limit law p ts rows v r trace readable tabled fits accepted kept m starts =
    let b : NeverStops (named p trace) × IsBounded (times_of ts v) r.until (named p trace)
    = law p ts rows v r trace readable tabled fits accepted m in (
      ordered limit p ts rows v r trace readable tabled fits accepted kept m b.0 b.1,
      b.1,
      all_at_once limit p ts rows v r trace readable tabled fits accepted kept m b.0 b.1 starts,
    )
