-- The response law of the processor: in every run of a program whose table fits, no stop is told and each tabled task responds within its bound.
use Rattle.std.specs.Prelude.{◌≡◌, ◌⊎◌, ℕ, suc, ◌+◌, ◌≤◌, ◌<◌, ◌==◌, ◌||◌, nat_lt, not, Bool, true, false, List, [], ◌∷◌, ◌++◌, slice_get}
use Rattle.std.specs.Prelude.{unwrap_or, option_map, Option, Some, None, refl}
use Rattle.std.proofs.Common.{sym, ◌∙◌, ap, subst, arith, inl, inr}
use Rattle.std.proofs.lemmas.Bool.{cases_lt, or_parts}
use Rattle.std.proofs.lemmas.Option.{none-some}
use Rattle.seq_tree.specs.Limits.{tick_limit}
use Rattle.seq_tree.specs.Names.{Name, same_name}
use Rattle.seq_tree.specs.Lists.{Each}
use Rattle.seq_tree.specs.Faults.{or_else, fault_if}
use Rattle.ada_tree.specs.Programs.{Form, Unit, Program, Cyclic, Sporadic}
use Rattle.ada_tree.specs.Bodies.{bodies, op_body}
use Rattle.ada_tree.specs.Ranges.{is_outside, jitter_breaks, numbers_break}
use Rattle.ada_tree.specs.Rules.{MeetsRules}
use Rattle.arrivals_tree.specs.declared.arrivals.Arrival.{Arrival}
use Rattle.arrivals_tree.specs.Arriving.{Arrivals}
use Rattle.arrivals_tree.specs.Acceptance.{Unknown, Unfit, Early, Falling, Far, fits, next_nominal, nominal, earlier_times, last_time}
use Rattle.arrivals_tree.specs.Acceptance.{request_fault, request_fault_by, request_fault_at, item_fault, requests_fault, works_fault}
use Rattle.arrivals_tree.specs.Acceptance.{IsAccepted}
use Rattle.rt_response.specs.declared.rows.ThreadRow.{ThreadRow}
use Rattle.rt_response.specs.declared.rows.Bound.{Bound}
use Rattle.rt_response.specs.Response.{Fits}
use Rattle.trace_tree.specs.Lines.{unit_name}
use Rattle.trace_tree.specs.declared.event.Event as machine
use Rattle.machine.specs.Systems.{TaskUnit, ReleasePattern, Periodic, Requested, CallTarget, Plain, Protected, Request, system, callee}
use Rattle.machine.specs.Systems as systems
use Rattle.machine.specs.States.{Resource, Object}
use Rattle.machine.specs.Meanings.{Meaning}
use Rattle.guarantee.specs.Events.{named}
use Rattle.guarantee.specs.Bounded.{Response, Responds}
use Rattle.guarantee.specs.ResponseLaw.{Ranked, ranked, is_among, AreTabled, IsStarted, times_of, ProcessorResponds}
use Rattle.law_ceilings.proofs.Shared.Pieces.{Inside, LeadsWithin}
use Rattle.law_ceilings.specs.Bodies.{BlockFits}
use Rattle.law_ceilings.specs.Ceilings.{priority_at}
use Rattle.law_ceilings.proofs.Shared.Permissions.{Anything}
use Rattle.law_ceilings.proofs.Shared.Keeping.{AreWritten}
use Rattle.law_calls.proofs.Shared.Systems.{thread_form, library-at, object-at, thread-at, threads-differ, IsTaskOf, LeadsTo, leads-to}
use Rattle.law_ceilings.proofs.Shared.Programs.{body-fits}
use Rattle.law_ceilings.proofs.Shared.Stopping.{priority-at}
use Rattle.law_ceilings.proofs.Shared.Ceiled.{is-ceiled}
use Rattle.law_calls.proofs.Shared.Apart.{units_apart}
use Rattle.law_calls.proofs.Shared.UnitNames.{name-at}
use Rattle.law_calls.proofs.Shared.Rings.{no-ring}
use Rattle.law_ceilings.proofs.Shared.Limited.{is-limited}
use Rattle.law_ceilings.proofs.Shared.Tables.{row-bounds, tabled-goes-on}
use Rattle.law_calls.proofs.Shared.Remaining.{Covers, CoversCalls}
use Rattle.law_responses.proofs.Frames.{Frame, ticks_measure, KeepsApart, AreKeptApart, IsFramed}
use Rattle.law_responses.proofs.Blocking.{IsLevelled}
use Rattle.law_responses.proofs.Answering.{Names, responds-named}
use Rattle.law_responses.proofs.SystemLaw.{IsResponsive, system-responds}
use Rattle.law_responses.proofs.Positive.{starts-some}
use Rattle.law_responses.proofs.TwinTasks.{twin-of, thread-of, units-apart}
use Rattle.law_responses.proofs.Tabling.{frame, falls-at, row-is, has-row, no-row-out, rows-differ, place-of}
use Rattle.law_responses.proofs.TabledTasks.{task-tabled, starters-tabled}
use Rattle.law_responses.proofs.Requesting.{requests-deep, requests-few}
use Rattle.law_lists.proofs.Shared.Facts.{or_else-none, not-fault, same-self, same-is}
use Rattle.law_lists.proofs.Shared.Places.{same-item, all-at}
use Rattle.law_lists.proofs.Shared.Lists.{zip-first, zip-second}
use Rattle.law_calls.proofs.Shared.UnitRules.{op-body-in, task-body, numbers-kept}
use Rattle.law_calls.proofs.Shared.Costs.{PaysCall, pays-call}

-- priorities of a task at least
priority-some : (p : Program) (a : Arrivals) → MeetsRules p → (j : ℕ) (t : TaskUnit) → slice_get (system p a).threads j ≡ Some t → 1 ≤ t.priority
priority-some p a rules j t at =
    let found = thread-at p a j t at in by found.1.form (numbers-kept p rules found.0 found.1 (found.2).stands) t.timing (found.2).form
  where
    least : (n : ℕ) → is_outside 1 60 n ≡ false → 1 ≤ n
    least n e = let low : nat_lt n 1 ≡ false = (or_parts (nat_lt n 1) (nat_lt 60 n) e).0 in grind arith

    by : (form : Form) → numbers_break form ≡ false → (x : ReleasePattern) → thread_form t x form → 1 ≤ t.priority
    by form e (Periodic offset period) is =
        let now : numbers_break (Cyclic t.priority offset period t.vars t.block) ≡ false = subst (λ g. numbers_break g ≡ false) is e in
        let one = or_parts (is_outside 1 60 t.priority || is_outside 1 tick_limit period) (nat_lt tick_limit offset) now in
        least t.priority (or_parts (is_outside 1 60 t.priority) (is_outside 1 tick_limit period) one.0).0
    by form e (Requested op ceiling separation jitter external) is =
        let now : numbers_break (Sporadic t.priority ceiling op separation jitter external t.vars t.block) ≡ false
        = subst (λ g. numbers_break g ≡ false) is e in
        let one = or_parts (is_outside 1 60 t.priority || is_outside 1 60 ceiling || is_outside 1 tick_limit separation
        || jitter_breaks external separation jitter) (nat_lt ceiling t.priority) now in
        let two = or_parts (is_outside 1 60 t.priority || is_outside 1 60 ceiling || is_outside 1 tick_limit separation)
        (jitter_breaks external separation jitter) one.0 in
        let three = or_parts (is_outside 1 60 t.priority || is_outside 1 60 ceiling) (is_outside 1 tick_limit separation) two.0 in
        least t.priority (or_parts (is_outside 1 60 t.priority) (is_outside 1 60 ceiling) three.0).0

-- arrivals that are accepted keep their separations
module _ (p : Program) (a : Arrivals) where
  kept-by : (t : TaskUnit) (form : Form) (before : List Arrival) (x : Arrival) (timing : ReleasePattern) → thread_form t timing form
      → request_fault_by form before x ≡ None → KeepsApart timing before x
  kept-by t form before x (Periodic offset period) is e = none-some Unknown (sym (subst (λ g. request_fault_by g before x ≡ None) is e))
  kept-by t form before x (Requested op ceiling separation jitter external) is e =
      let now : request_fault external op separation jitter before x ≡ None = subst (λ g. request_fault_by g before x ≡ None) is e in
      let one = or_else-none (fault_if (not external) Unknown) (or_else (fault_if (not (fits op x.value)) Unfit)
      (fault_if (nat_lt (x.time + jitter) (next_nominal separation (nominal separation None (earlier_times x.task before)) x.time)) Early)) now in
      let two = or_else-none (fault_if (not (fits op x.value)) Unfit)
      (fault_if (nat_lt (x.time + jitter) (next_nominal separation (nominal separation None (earlier_times x.task before)) x.time)) Early) one.1 in (
        not-fault external Unknown one.0,
        late (nat_lt (x.time + jitter)
            (next_nominal separation (nominal separation None (earlier_times x.task before)) x.time)) refl two.1,
      )
    where
      late : (b : Bool) → nat_lt (x.time + jitter) (next_nominal separation (nominal separation None (earlier_times x.task before)) x.time) ≡ b
          → fault_if b Early ≡ None
          → next_nominal separation (nominal separation None (earlier_times x.task before)) x.time ≤ x.time + jitter
      late true g h = absurd (none-some Early (sym h))
      late false g h = grind arith

  kept-apart : (before items : List Arrival) → requests_fault p before items ≡ None → AreKeptApart (system p a).threads before items
  kept-apart before [] e = tt
  kept-apart before (x ∷ items) e =
      let parts = or_else-none (item_fault p before x) (requests_fault p (before ++ x ∷ []) items) e in
      let own = or_else-none (fault_if (nat_lt x.time (last_time before)) Falling) (request_fault_at (slice_get p.units x.task) before x) parts.0 in
      (λ j t at unit. one j t at unit own.1, kept-apart (before ++ x ∷ []) items parts.1)
    where
      one : (j : ℕ) (t : TaskUnit) → slice_get (system p a).threads j ≡ Some t → t.unit ≡ x.task
          → request_fault_at (slice_get p.units x.task) before x ≡ None → KeepsApart t.timing before x
      one j t at unit fault =
          let found = thread-at p a j t at in
          let place : x.task ≡ found.0 = sym unit ∙ (found.2).unit in
          let here : slice_get p.units x.task ≡ Some found.1 = ap (slice_get p.units) place ∙ (found.2).stands in
          kept-by t found.1.form before x t.timing (found.2).form (subst (λ o. request_fault_at o before x ≡ None) here fault)

module _ (p : Program) (a : Arrivals) (rules : MeetsRules p) where
  -- exits stand in loops
  pub all-written : AreWritten (system p a) (λ i. Anything)
  all-written = record {
    closed = λ i unit op ss may. by unit op ss (callee (system p a) unit op) (leads-to (system p a) unit op);
    tasks = λ i t at.
        let body = task-body p a i t at in
        subst (λ b. BlockFits (Inside Anything []) false b) body.5 (body-fits p rules body.0 body.1 body.3 body.2 body.4 (Inside Anything [])
        (λ x h. tt));
  }
    where
      by : (unit op : Name) (ss : List Resource) (c : CallTarget) → LeadsTo (system p a) unit op c → LeadsWithin Anything c ss
      by unit op ss (Plain o) l =
          let found = library-at p a l.place l.library l.stands in
          body-fits p rules found.0 found.1 (found.2).stands (op_body o)
          (op-body-in found.1.form l.library.ops l.at o (ap bodies (found.2).form) l.holds) (Inside Anything ss) (λ x h. tt)
      by unit op ss (Protected object j g o) l =
          let found = object-at p a object g l.stands in
          body-fits p rules found.0 found.1 (found.2).stands (op_body o) (op-body-in found.1.form g.ops j o (ap bodies (found.2).form) l.holds)
          (Inside Anything (Object object ∷ ss)) (λ x h. tt)
      by unit op ss (Request task) l = tt
      by unit op ss systems.Unknown l = tt

  -- what a call costs covers its body
  costs-deep : (ts : List Ranked) (rows : List ThreadRow) → CoversCalls (system p a) (ticks_measure (frame p ts rows a))
  costs-deep ts rows unit op = by (callee (system p a) unit op) (pays-call p a (units_apart p rules) (no-ring p rules)
      (record { object = unit; op = op }))
    where
      by : (c : CallTarget) → PaysCall p (record { object = unit; op = op }) c
          → Covers (ticks_measure (frame p ts rows a)) c ((frame p ts rows a).called unit op)
      by (Plain o) h = h
      by (Protected object j g o) h = h
      by (Request task) h = omega (arith, h)
      by systems.Unknown h = tt

  -- a task's name is that of its unit alone
  pub task-names : (ts : List Ranked) (rows : List ThreadRow) (j : ℕ) (t : TaskUnit) → slice_get (system p a).threads j ≡ Some t
      → Names (frame p ts rows a) p t.name t.unit
  task-names ts rows j t at x is = by (thread-at p a j t at) (thread-at p a is.0 is.1 is.2)
    where
      by : (k : ℕ) × (u : Unit) × IsTaskOf p k u t → (k : ℕ) × (u : Unit) × IsTaskOf p k u is.1 → same_name (unit_name p x) t.name ≡ (x == t.unit)
      by own other = which (x == t.unit) refl
        where
          place : other.0 ≡ x
          place = sym (other.2).unit ∙ is.3

          name : unit_name p x ≡ other.1.name
          name = name-at p x other.1 (subst (λ k. slice_get p.units k ≡ Some other.1) place (other.2).stands)

          which : (b : Bool) → (x == t.unit) ≡ b → same_name (unit_name p x) t.name ≡ b
          which true e =
              let same : x ≡ t.unit = grind arith in
              let units : other.0 ≡ own.0 = place ∙ same ∙ (own.2).unit in
              let one : other.1 ≡ own.1 = same-item (slice_get p.units own.0) other.1 own.1
              (subst (λ k. slice_get p.units k ≡ Some other.1) units (other.2).stands) (own.2).stands in
              ap (λ n. same_name n t.name) (name ∙ ap (λ u. u.name) one ∙ (own.2).name) ∙ same-self t.name
          which false e = by_name (same_name (unit_name p x) t.name) refl
            where
              by_name : (c : Bool) → same_name (unit_name p x) t.name ≡ c → same_name (unit_name p x) t.name ≡ false
              by_name false h = h
              by_name true h =
                  let names : other.1.name ≡ own.1.name = sym name ∙ same-is (unit_name p x) t.name h ∙ sym (own.2).name in
                  let units : other.0 ≡ own.0 = units-apart p rules other.0 own.0 other.1 own.1 (other.2).stands (own.2).stands names in
                  absurd (differs (sym place ∙ units ∙ sym (own.2).unit))
                where
                  differs : x ≡ t.unit → ⊥
                  differs same = grind (arith, e)

  module _ (ts : List Ranked) (rows : List ThreadRow) (tabled : AreTabled p ts rows) (limit : ℕ) (accepted : IsAccepted limit p a) where
    abbrev f : Frame
    f = frame p ts rows a

    pub framed : IsFramed (frame p ts rows a)
    framed = record {
      tabled = λ j r t has at. task-tabled p a rules ts rows tabled j r t has at;
      placed = λ j r has.
          let u = row-is p a rules ts rows tabled j r has in
          let t = thread-of p a j u.0 u.1 in
          (t.0, t.1);
      one = λ i j r h k. rows-differ p a rules ts rows tabled i j r h k;
      units = λ i j t u at at' same. threads-differ p a i j t u at at' same;
      ticks = costs-deep ts rows;
      starts = λ k. requests-deep p a rules ts rows k;
      few = λ k s i t has at. requests-few p a rules ts rows tabled k s i t has at;
      starters = λ k s i has starts. starters-tabled p a rules ts rows tabled k s i has starts;
      positive = λ i t at. starts-some p a limit rules accepted i t at;
    }

    -- the priority of a task of the list
    priority-is : (j r : ℕ) (u : Ranked) → slice_get (ranked p) j ≡ Some u → priority_at (system p a) j ≡ u.priority
    priority-is j r u e = let t = thread-of p a j u e in priority-at (system p a) j t.0 t.1 ∙ sym (t.2).priority

    levels : (i : ℕ) (row : ThreadRow) → slice_get rows i ≡ Some row → IsLevelled (frame p ts rows a) i row
    levels i row line = build (zip-second (λ t x. IsStarted p ts x t.task.name t.task.timing) ts rows i row tabled.started line)
      where
        build : (u : Ranked) × (slice_get ts i ≡ Some u) × IsStarted p ts row u.task.name u.task.timing → IsLevelled (frame p ts rows a) i row
        build found = record {
          level = u.priority;
          limited = is-limited p a rules u.priority row.block (row-bounds p ts rows i u row tabled found.1 line);
          above = λ j r has low. above j r low (row-is p a rules ts rows tabled j r has);
          below = λ j r has high. below j r high (row-is p a rules ts rows tabled j r has);
          outside = λ j none. outside j none (slice_get (system p a).threads j) refl;
        }
          where
            u : Ranked
            u = found.0

            above : (j r : ℕ) → r ≤ i → (w : Ranked) × (slice_get (ranked p) j ≡ Some w) × (slice_get ts r ≡ Some w)
                → found.0.priority ≤ priority_at (system p a) j
            above j r low w = by (cases_lt r i)
              where
                same : priority_at (system p a) j ≡ w.0.priority
                same = priority-is j r w.0 w.1

                by : (r < i) ⊎ (i ≤ r) → found.0.priority ≤ priority_at (system p a) j
                by (inl less) = omega (arith, falls-at ts r i w.0 found.0 tabled.falls less w.2 found.1, same)
                by (inr more) =
                    let place : r ≡ i = omega arith in
                    let one : w.0 ≡ found.0 = same-item (slice_get ts i) w.0 found.0 (subst (λ k. slice_get ts k ≡ Some w.0) place w.2) found.1 in
                    omega (arith, ap (λ x. x.priority) one, same)

            below : (j r : ℕ) → i < r → (w : Ranked) × (slice_get (ranked p) j ≡ Some w) × (slice_get ts r ≡ Some w)
                → priority_at (system p a) j < found.0.priority
            below j r high w = omega (arith, falls-at ts i r found.0 w.0 tabled.falls high found.1 w.2, priority-is j r w.0 w.1)

            outside : (j : ℕ) → (frame p ts rows a).row_of j ≡ None → (o : Option TaskUnit) → slice_get (system p a).threads j ≡ o
                → priority_at (system p a) j < found.0.priority
            outside j none None e =
                let zero_priority : priority_at (system p a) j ≡ 0 = ap (λ o. unwrap_or (option_map (λ (t : TaskUnit). t.priority) o) 0) e in
                let place = place-of p a rules ts rows tabled i found.0 found.1 in
                let t = thread-of p a place.0 found.0 place.1 in
                omega (arith, zero_priority, priority-some p a rules place.0 t.0 t.1, (t.2).priority)
            outside j none (Some t) e =
                let w = twin-of p a j t e in
                let out = no-row-out p a rules ts rows tabled j w.0 none w.1 in
                let all = all-at (λ x. is_among ts x.task.name ≡ false → Each (λ y. x.priority < y.priority) ts)
                (ranked p) j w.0 tabled.outside w.1 out in
                let less : w.0.priority < found.0.priority = all-at (λ y. w.0.priority < y.priority) ts i found.0 all found.1 in
                omega (arith, less, priority-is j 0 w.0 w.1)

    -- arrivals that are accepted keep apart
    pub apart : AreKeptApart (system p a).threads [] a.items
    apart =
        let faults = or_else-none (fault_if (nat_lt limit a.until) Far) (or_else (works_fault p a.work) (requests_fault p [] a.items)) accepted in
        kept-apart p a [] a.items (or_else-none (works_fault p a.work) (requests_fault p [] a.items) faults.1).1

    pub responsive : (v : List Bound) → Fits rows v → IsResponsive (frame p ts rows a) v a.items
    responsive v fit =
        record {
          table = tabled.table;
          fits = fit;
          framed = framed;
          levels = levels;
          ceiled = is-ceiled p a rules tabled.ceilings tabled.inner_ceilings;
          text = all-written;
          apart = apart;
        }

    -- each task of the list responds
    task-responds : (v : List Bound) (trace : List machine.Event) → Fits rows v → Meaning p a trace → (k : ℕ) (u : Ranked) (b : Bound)
        → slice_get ts k ≡ Some u → slice_get v k ≡ Some b
        → Responds a.until (named p trace) (record { thread = u.task.name; ticks = b.response })
    task-responds v trace fit meaning k u b at gets =
        let law = system-responds (frame p ts rows a) v a.items trace (responsive v fit) meaning in
        let place = place-of p a rules ts rows tabled k u at in
        let t = thread-of p a place.0 u place.1 in
        let line = zip-first (λ x row. IsStarted p ts row x.task.name x.task.timing) ts rows k u tabled.started at in
        let answered = law.2 place.0 k t.0 line.0 b (has-row p a rules ts rows tabled place.0 k u place.1 at) t.1 line.1 gets in
        subst (λ n. Responds a.until (named p trace) (record { thread = n; ticks = b.response })) (sym (t.2).name)
        (responds-named (frame p ts rows a) p t.0.name t.0.unit b.response a.until trace (task-names ts rows place.0 t.0 t.1) law.1 answered)

-- what holds of each task with its bound holds of all response times
each-time : (P : Response → Type 0) (ts : List Ranked) (v : List Bound)
    → ((k : ℕ) (u : Ranked) (b : Bound) → slice_get ts k ≡ Some u → slice_get v k ≡ Some b → P (record { thread = u.task.name; ticks = b.response }))
    → Each P (times_of ts v)
each-time P [] v h = tt
each-time P (t ∷ ts) [] h = tt
each-time P (t ∷ ts) (b ∷ v) h = (h 0 t b refl refl, each-time P ts v (λ k u c e g. h (suc k) u c e g))

-- every run of a program whose table fits
pub processor-responds : (limit : ℕ) → ProcessorResponds limit
processor-responds limit p ts rows v r trace readable tabled fit accepted meaning = (
  tabled-goes-on p ts rows r trace readable.1 tabled meaning,
  each-time (Responds r.until (named p trace)) ts v (λ k u b at gets. task-responds p r readable.1 ts rows tabled limit accepted v trace fit meaning k
      u b at gets),
)
