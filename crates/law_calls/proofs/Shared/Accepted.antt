-- What accepted arrivals are: of tasks that take requests from outside, which no task can request, and with durations of a tick at least.
use Rattle.std.specs.Prelude.{◌≡◌, ◌≤◌, ◌==◌, ℕ, Bool, true, false, not, ◌||◌, cond, List, [], ◌∷◌, ◌++◌, filter, flat_map, slice_get, nat_lt}
use Rattle.std.specs.Prelude.{Option, Some, None, ⊤, if◌then◌else◌, refl}
use Rattle.std.proofs.Common.{sym, ◌∙◌, ap, subst, arith}
use Rattle.std.proofs.lemmas.Bool.{true≢false, false_from_ne_true}
use Rattle.std.proofs.lemmas.Option.{none-some, same_Some}
use Rattle.seq_tree.specs.Lists.{Each}
use Rattle.seq_tree.specs.Names.{Name, same_name}
use Rattle.seq_tree.specs.Faults.{or_else, fault_if}
use Rattle.ada_tree.specs.Programs.{Form, Unit, Program, Passive, Shared, Cyclic, Sporadic, is_task}
use Rattle.ada_tree.specs.Uses.{is_requested, breaks_external}
use Rattle.ada_tree.specs.Rules.{Externals, At, MeetsRules}
use Rattle.arrivals_tree.specs.declared.arrivals.Arrival.{Arrival}
use Rattle.arrivals_tree.specs.Arriving.{Arrivals, Durations}
use Rattle.arrivals_tree.specs.Acceptance.{Unknown, Unfit, Far, Falling, has_nothing, durations_fault, works_fault, request_fault_by}
use Rattle.arrivals_tree.specs.Acceptance.{request_fault_at, item_fault, requests_fault, last_time, IsAccepted}
use Rattle.machine.specs.Systems.{System, TaskUnit, ReleasePattern, Periodic, Requested, Request, system, callee}
use Rattle.law_lists.proofs.Shared.Facts.{or_else-none, not-fault, no-fault, same-is}
use Rattle.law_lists.proofs.Shared.Lists.{each-append, each-to}
use Rattle.law_calls.proofs.Shared.Systems.{thread_form, IsTaskOf, thread-at, IsAskedBy, LeadsTo, LeadsToTask, leads-to}
use Rattle.law_calls.proofs.Shared.Threads.{durations-of}

-- no fault of durations and none of requests
pub no-faults : (limit : ℕ) (p : Program) (a : Arrivals) → IsAccepted limit p a → (works_fault p a.work ≡ None) × (requests_fault p [] a.items ≡ None)
no-faults limit p a accepted =
    or_else-none (works_fault p a.work) (requests_fault p [] a.items)
    (or_else-none (fault_if (nat_lt limit a.until) Far) (or_else (works_fault p a.work) (requests_fault p [] a.items)) accepted).1

-- a unit that takes requests from outside
abbrev pub IsExternal : Form → Type 0
IsExternal (Sporadic priority ceiling op separation jitter external vars block) = external ≡ true
IsExternal _ = ⊥

external-form : (form : Form) (before : List Arrival) (x : Arrival) → request_fault_by form before x ≡ None → IsExternal form
external-form (Passive ops) before x e = absurd (none-some Unknown (sym e))
external-form (Shared ceiling vars ops) before x e = absurd (none-some Unknown (sym e))
external-form (Cyclic priority offset period vars block) before x e = absurd (none-some Unknown (sym e))
external-form (Sporadic priority ceiling op separation jitter external vars block) before x e
    = not-fault external Unknown (or_else-none (fault_if (not external) Unknown) _ e).0

-- an arrival for such a unit
pub record IsFor (p : Program) (x : Arrival) : Type 0 where
  pub unit : Unit
  pub stands : slice_get p.units x.task ≡ Some unit
  pub external : IsExternal unit.form

item-for : (p : Program) (before : List Arrival) (x : Arrival) → item_fault p before x ≡ None → IsFor p x
item-for p before x e = by (slice_get p.units x.task) refl (or_else-none (fault_if (nat_lt x.time (last_time before)) Falling)
    (request_fault_at (slice_get p.units x.task) before x) e).1
  where
    by : (o : Option Unit) → slice_get p.units x.task ≡ o → request_fault_at o before x ≡ None → IsFor p x
    by None at h = absurd (none-some Unknown (sym h))
    by (Some u) at h = record { unit = u; stands = at; external = external-form u.form before x h }

requests-for : (p : Program) (before items : List Arrival) → requests_fault p before items ≡ None → Each (IsFor p) items
requests-for p before [] e = tt
requests-for p before (x ∷ items) e =
    let parts = or_else-none (item_fault p before x) (requests_fault p (before ++ x ∷ []) items) e in
    (item-for p before x parts.0, requests-for p (before ++ x ∷ []) items parts.1)

pub all-for : (limit : ℕ) (p : Program) (a : Arrivals) → IsAccepted limit p a → Each (IsFor p) a.items
all-for limit p a accepted = requests-for p [] a.items (no-faults limit p a accepted).1

-- a task that takes no requests from outside
abbrev pub IsInside : ReleasePattern → Type 0
IsInside (Periodic offset period) = ⊤
IsInside (Requested op ceiling separation jitter external) = external ≡ false

inside-form : (t : TaskUnit) (timing : ReleasePattern) (form : Form) → thread_form t timing form → IsInside timing → IsExternal form → ⊥
inside-form t (Periodic offset period) form is inside external = subst IsExternal is external
inside-form t (Requested op ceiling separation jitter external') form is inside external = true≢false (sym (subst IsExternal is external) ∙ inside)

-- arrivals are for other tasks
pub elsewhere : (limit : ℕ) (p : Program) (a : Arrivals) → IsAccepted limit p a → (k : ℕ) (t : TaskUnit) → slice_get (system p a).threads k ≡ Some t
    → IsInside t.timing
    → Each (λ x. t.unit ≡ x.task → ⊥) a.items
elsewhere limit p a accepted k t at inside = each-to (IsFor p) (λ x. t.unit ≡ x.task
    → ⊥) a.items (λ x f same. no x f same (thread-at p a k t at)) (all-for limit p a accepted)
  where
    no : (x : Arrival) → IsFor p x → t.unit ≡ x.task → (n : ℕ) × (u : Unit) × IsTaskOf p n u t → ⊥
    no x f same (n, u, is) =
        let one : f.unit ≡ u = same_Some f.unit u (sym f.stands ∙ ap (slice_get p.units) (sym same ∙ is.unit) ∙ is.stands) in
        inside-form t t.timing u.form is.form inside (subst (λ z. IsExternal z.form) one f.external)

-- a task that some task can request takes no requests from outside
pub requested-inside : (p : Program) (a : Arrivals) → MeetsRules p → (unit op : Name) (j : ℕ) (t : TaskUnit)
    → is_requested p (record { object = unit; op = op }) ≡ true
    → callee (system p a) unit op ≡ Request j → slice_get (system p a).threads j ≡ Some t → IsInside t.timing
requested-inside p a meets unit op j t requested leads at = by t.timing refl
  where
    y : System
    y = system p a

    l : LeadsToTask y unit op j
    l = subst (LeadsTo y unit op) leads (leads-to y unit op)

    same : l.thread ≡ t
    same = same_Some l.thread t (sym l.stands ∙ at)

    found : (n : ℕ) × (u : Unit) × IsTaskOf p n u t
    found = thread-at p a j t at

    kept : breaks_external p found.1.name found.1.form ≡ false
    kept = false_from_ne_true (breaks_external p found.1.name found.1.form)
        (λ breaks. meets Externals (At found.0) (found.1, (found.2).stands, breaks))

    by : (timing : ReleasePattern) → t.timing ≡ timing → IsInside timing
    by (Periodic offset period) e = tt
    by (Requested sig ceiling separation jitter external) e =
        let form : found.1.form ≡ Sporadic t.priority ceiling sig separation jitter external t.vars t.block
        = subst (λ x. thread_form t x found.1.form) e (found.2).form in
        let asked : same_name sig.name op ≡ true = subst (IsAskedBy op) (ap (λ z. z.timing) same ∙ e) l.asked in
        let name : found.1.name ≡ unit = (found.2).name ∙ sym (ap (λ z. z.name) same) ∙ same-is l.thread.name unit l.named in
        let called : is_requested p (record { object = found.1.name; op = sig.name }) ≡ true =
        ap (λ n. is_requested p (record { object = n; op = sig.name })) name ∙ ap (λ n. is_requested p (record { object = unit; op = n }))
        (same-is sig.name op asked) ∙ requested in
        sym (ap (λ b. if b then external else not external) called) ∙ subst (λ f. breaks_external p found.1.name f ≡ false) form kept

-- durations of which none is nothing
some-each : (ticks : List ℕ) → has_nothing ticks ≡ false → Each (λ d. 1 ≤ d) ticks
some-each [] e = tt
some-each (n ∷ ticks) e = by (n == 0) refl e (some-each ticks)
  where
    by : (b : Bool) → (n == 0) ≡ b → (b || has_nothing ticks) ≡ false → (has_nothing ticks ≡ false → Each (λ d. 1 ≤ d) ticks)
        → (1 ≤ n) × Each (λ d. 1 ≤ d) ticks
    by true is h later = absurd (true≢false h)
    by false is h later = (grind arith, later h)

ticks-each : (o : Option Unit) (ticks : List ℕ) → durations_fault o ticks ≡ None → Each (λ d. 1 ≤ d) ticks
ticks-each None ticks e = absurd (none-some Unknown (sym e))
ticks-each (Some u) ticks e = some-each ticks
    (no-fault (has_nothing ticks) Unfit (or_else-none (fault_if (not (is_task u.form)) Unknown) (fault_if (has_nothing ticks) Unfit) e).1)

pub works-each : (p : Program) (work : List Durations) → works_fault p work ≡ None → Each (λ w. Each (λ d. 1 ≤ d) w.ticks) work
works-each p [] e = tt
works-each p (w ∷ work) e =
    let parts = or_else-none (durations_fault (slice_get p.units w.task) w.ticks) (works_fault p work) e in
    (ticks-each (slice_get p.units w.task) w.ticks parts.0, works-each p work parts.1)

own-each : (work : List Durations) (unit : ℕ) → Each (λ w. Each (λ d. 1 ≤ d) w.ticks) work
    → Each (λ d. 1 ≤ d) (flat_map (λ w. w.ticks) (filter (λ w. w.task == unit) work))
own-each [] unit all = tt
own-each (w ∷ work) unit all = by (w.task == unit) (own-each work unit all.1)
  where
    by : (b : Bool) → Each (λ d. 1 ≤ d) (flat_map (λ v. v.ticks) (filter (λ v. v.task == unit) work))
        → Each (λ d. 1 ≤ d) (flat_map (λ v. v.ticks) (cond b (w ∷ filter (λ v. v.task == unit) work) (filter (λ v. v.task == unit) work)))
    by true rest = each-append (λ d. 1 ≤ d) w.ticks (flat_map (λ v. v.ticks) (filter (λ v. v.task == unit) work)) all.0 rest
    by false rest = rest

-- a task's durations are of a tick at least each
pub durations-each : (limit : ℕ) (p : Program) (a : Arrivals) → IsAccepted limit p a → (k : ℕ) (t : TaskUnit)
    → slice_get (system p a).threads k ≡ Some t → Each (λ d. 1 ≤ d) t.durations
durations-each limit p a accepted k t at =
    subst (Each (λ d. 1 ≤ d)) (sym (durations-of p a k t at)) (own-each a.work t.unit (works-each p a.work (no-faults limit p a accepted).0))
