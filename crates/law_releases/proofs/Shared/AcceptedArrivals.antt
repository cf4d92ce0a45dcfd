-- What is known of arrivals that are accepted: their times don't fall, and each is for the unit of a task.
use Rattle.std.specs.Prelude.{◌≡◌, ℕ, zero, suc, ◌+◌, ◌≤◌, true, false, List, [], ◌∷◌, ◌++◌, map, nat_lt, Option, Some, None, slice_get, ⊤, refl}
use Rattle.std.specs.List.{cons_option}
use Rattle.std.proofs.Common.{sym, ◌∙◌, ap, subst, arith}
use Rattle.std.proofs.lemmas.Option.{none-some, same_Some}
use Rattle.seq_tree.specs.Lists.{Each}
use Rattle.seq_tree.specs.Faults.{or_else, fault_if}
use Rattle.ada_tree.specs.Programs.{Form, Unit, Program, Passive, Shared, Cyclic, Sporadic, is_task}
use Rattle.arrivals_tree.specs.declared.arrivals.Arrival.{Arrival}
use Rattle.arrivals_tree.specs.Arriving.{Arrivals, durations}
use Rattle.arrivals_tree.specs.Acceptance.{Unknown, Falling, Far, request_fault_by, request_fault_at, item_fault, requests_fault, works_fault}
use Rattle.arrivals_tree.specs.Acceptance.{last_time, IsAccepted}
use Rattle.trace_tree.specs.Lines.{unit_name}
use Rattle.machine.specs.Systems.{TaskUnit, system, thread_by}
use Rattle.guarantee.specs.Arrivals.{DontFall}
use Rattle.guarantee.specs.Arrivals as arrivals
use Rattle.law_written.proofs.Shared.Moves.{HasUnit}
use Rattle.law_written.proofs.Shared.Units.{ths_of}
use Rattle.std.proofs.lemmas.Bool.{true≢false}
use Rattle.law_lists.proofs.Shared.Facts.{or_else-none, no-fault}

-- a request from outside, by its task's name
abbrev pub named_item : Program → Arrival → arrivals.Arrival
named_item p a = record { time = a.time; task = unit_name p a.task; value = a.value }

-- arrivals that don't fall, from a time on
abbrev pub Later : ℕ → List Arrival → Type 0
Later m [] = ⊤
Later m (a ∷ as') = (m ≤ a.time) × Later a.time as'

pub later_mono : (m n : ℕ) (as' : List Arrival) → m ≤ n → Later n as' → Later m as'
later_mono m n [] h l = tt
later_mono m n (a ∷ as') h l = (omega (arith, h, l.0), l.1)

-- so their names' times don't
pub later_named : (p : Program) (m : ℕ) (as' : List Arrival) → Later m as' → DontFall m (map (named_item p) as')
later_named p m [] l = tt
later_named p m (a ∷ as') l = (l.0, later_named p a.time as' l.1)

pub last-behind : (before : List Arrival) (a : Arrival) → last_time (before ++ a ∷ []) ≡ a.time
last-behind [] a = refl
last-behind (b ∷ []) a = refl
last-behind (b ∷ c ∷ more) a = last-behind (c ∷ more) a

pub items_later : (p : Program) (before items : List Arrival) → requests_fault p before items ≡ None → Later (last_time before) items
items_later p before [] e = tt
items_later p before (a ∷ more) e =
    let parts : (item_fault p before a ≡ None) × (requests_fault p (before ++ a ∷ []) more ≡ None)
    = or_else-none (item_fault p before a) (requests_fault p (before ++ a ∷ []) more) e in
    let low : nat_lt a.time (last_time before) ≡ false =
    no-fault (nat_lt a.time (last_time before)) Falling (or_else-none (fault_if (nat_lt a.time (last_time before)) Falling)
    (request_fault_at (slice_get p.units a.task) before a) parts.0).0 in
    let L : ℕ → Type 0 = λ n. Later n more in
    (grind arith, subst L (last-behind before a) (items_later p (before ++ a ∷ []) more parts.1))

-- a unit with a task has a thread
pub unit_thread : (ds : ℕ → List ℕ) (n : ℕ) (us : List Unit) (m : ℕ) (u : Unit) → slice_get us m ≡ Some u → is_task u.form ≡ true
    → HasUnit (ths_of ds n us) (n + m)
unit_thread ds n [] m u at task = absurd (none-some u at)
unit_thread ds n (v ∷ us) zero u at task = by v.form (ap (λ z. is_task z.form) (same_Some v u at) ∙ task)
  where
    by : (form : Form) → is_task form ≡ true → HasUnit (cons_option (thread_by (ds n) n v.name form) (ths_of ds (n + 1) us)) (n + 0)
    by (Passive ops) t = absurd (true≢false (sym t))
    by (Shared ceiling vars ops) t = absurd (true≢false (sym t))
    by (Cyclic priority offset period vars block) t = (0, _, refl, omega arith)
    by (Sporadic priority ceiling op separation jitter external vars block) t = (0, _, refl, omega arith)
unit_thread ds n (v ∷ us) (suc m) u at task = by (thread_by (ds n) n v.name v.form) (unit_thread ds (n + 1) us m u at task)
  where
    by : (o : Option TaskUnit) → HasUnit (ths_of ds (n + 1) us) (n + 1 + m) → HasUnit (cons_option o (ths_of ds (n + 1) us)) (n + suc m)
    by None h = (h.0, h.1, h.2, omega (arith, h.3))
    by (Some th) h = (suc h.0, h.1, h.2, omega (arith, h.3))

pub unit_at_thread : (p : Program) (r : Arrivals) (m : ℕ) (u : Unit) → slice_get p.units m ≡ Some u → is_task u.form ≡ true
    → HasUnit (system p r).threads m
unit_at_thread p r m u at task =
    let h : HasUnit (system p r).threads (0 + m) = unit_thread (durations r) 0 p.units m u at task in
    (h.0, h.1, h.2, omega (arith, h.3))

-- a request from outside is one of a task
asked_task : (form : Form) (before : List Arrival) (a : Arrival) → request_fault_by form before a ≡ None → is_task form ≡ true
asked_task (Passive ops) before a fine = absurd (none-some Unknown (sym fine))
asked_task (Shared ceiling vars ops) before a fine = absurd (none-some Unknown (sym fine))
asked_task (Cyclic priority offset period vars block) before a fine = refl
asked_task (Sporadic priority ceiling op separation jitter external vars block) before a fine = refl

unit_for : (p : Program) (r : Arrivals) (o : Option Unit) (before : List Arrival) (a : Arrival) → slice_get p.units a.task ≡ o
    → request_fault_at o before a ≡ None → HasUnit (system p r).threads a.task
unit_for p r None before a at e = absurd (none-some Unknown (sym e))
unit_for p r (Some u) before a at e = unit_at_thread p r a.task u at (asked_task u.form before a e)

pub items_units : (p : Program) (r : Arrivals) (before items : List Arrival) → requests_fault p before items ≡ None
    → Each (λ a. HasUnit (system p r).threads a.task) items
items_units p r before [] e = tt
items_units p r before (a ∷ more) e =
    let parts : (item_fault p before a ≡ None) × (requests_fault p (before ++ a ∷ []) more ≡ None)
    = or_else-none (item_fault p before a) (requests_fault p (before ++ a ∷ []) more) e in (
      unit_for p r (slice_get p.units a.task) before a refl (or_else-none (fault_if (nat_lt a.time (last_time before)) Falling)
          (request_fault_at (slice_get p.units a.task) before a) parts.0).1,
      items_units p r (before ++ a ∷ []) more parts.1,
    )

pub no_item_fault : (limit : ℕ) (p : Program) (r : Arrivals) → IsAccepted limit p r → requests_fault p [] r.items ≡ None
no_item_fault limit p r e =
    (or_else-none (works_fault p r.work) (requests_fault p [] r.items)
    (or_else-none (fault_if (nat_lt limit r.until) Far) (or_else (works_fault p r.work) (requests_fault p [] r.items)) e).1).1
