-- A request that is judged by what was kept is judged by all requests before it.
use Rattle.std.proofs.Common.{◌≡◌, ℕ, ◌+◌, ◌<◌, Bool, true, false, not, List, [], ◌∷◌, ◌++◌, length, map, filter, get_or, set, slice_get, nat_lt}
use Rattle.std.proofs.Common.{◌==◌, if◌then◌else◌, Option, Some, None, Result, Ok, Err, refl, sym, ap, subst, ◌∙◌, arith, append-nil}
use Rattle.std.proofs.lemmas.Bool.{eqb-true, eq-eqb}
use Rattle.std.proofs.lemmas.List.{get_or-set_same, get_or-set_other, map-append}
use Rattle.std.proofs.lemmas.List.Elements.{filter-append}
use Rattle.seq_tree.specs.Faults.{or_else, fault_if}
use Rattle.ada_tree.specs.Programs.{Program, Form, Passive, Shared, Cyclic, Sporadic}
use Rattle.ada_tree.specs.Programs as programs
use Rattle.arrivals_tree.specs.declared.arrivals.Arrival.{Arrival}
use Rattle.arrivals_tree.specs.Acceptance.{ArrivalFault, Falling, Unknown, Unfit, Early, fits, next_nominal, nominal, earlier_times, last_time}
use Rattle.arrivals_tree.specs.Acceptance.{request_fault_by, item_fault}
use Rattle.arrivals_read.specs.Checked.{moved_by, separation_by, separation_at}

-- THE VERDICT
-- a verdict by tests, and the number where none of them is passed
verdict : Bool → Bool → Bool → ℕ → Result ℕ ArrivalFault
verdict external fit early n = if not external then Err Unknown else if not fit then Err Unfit else if early then Err Early else Ok n

tests : Bool → Bool → Bool → Option ArrivalFault
tests external fit early = or_else (fault_if (not external) Unknown) (or_else (fault_if (not fit) Unfit) (fault_if early Early))

verdict_err : (a b c : Bool) (n : ℕ) (f : ArrivalFault) → verdict a b c n ≡ Err f → tests a b c ≡ Some f
unfolding verdict tests
verdict_err false b c n f e = ap Some (let h : ◌≡◌ {A = Result ℕ ArrivalFault} (Err Unknown) (Err f) = e in cc)
verdict_err true false c n f e = ap Some (let h : ◌≡◌ {A = Result ℕ ArrivalFault} (Err Unfit) (Err f) = e in cc)
verdict_err true true true n f e = ap Some (let h : ◌≡◌ {A = Result ℕ ArrivalFault} (Err Early) (Err f) = e in cc)
verdict_err true true false n f e = absurd (cc)

verdict_ok : (a b c : Bool) (n m : ℕ) → verdict a b c n ≡ Ok m → (tests a b c ≡ None) × (n ≡ m)
unfolding verdict tests
verdict_ok false b c n m e = absurd (cc)
verdict_ok true false c n m e = absurd (cc)
verdict_ok true true true n m e = absurd (cc)
verdict_ok true true false n m e = (refl, (let h : ◌≡◌ {A = Result ℕ ArrivalFault} (Ok n) (Ok m) = e in cc))

-- the last nominal time of the task that an arrival is for
abbrev pub before_of : Form → List Arrival → Arrival → Option ℕ
before_of form earlier a = nominal (separation_by form) None (earlier_times a.task earlier)

moved_err : (form : Form) (earlier : List Arrival) (a : Arrival) (f : ArrivalFault) → moved_by form (before_of form earlier a) a ≡ Err f
    → request_fault_by form earlier a ≡ Some f
unfolding verdict tests
moved_err (Passive ops) earlier a f e = ap Some (let h : ◌≡◌ {A = Result ℕ ArrivalFault} (Err Unknown) (Err f) = e in cc)
moved_err (Shared ceiling vars ops) earlier a f e = ap Some (let h : ◌≡◌ {A = Result ℕ ArrivalFault} (Err Unknown) (Err f) = e in cc)
moved_err (Cyclic priority offset period vars block) earlier a f e = ap Some (let h : ◌≡◌ {A = Result ℕ ArrivalFault} (Err Unknown) (Err f) = e in cc)
moved_err (Sporadic priority ceiling op separation jitter external vars block) earlier a f e =
    let next = next_nominal separation (nominal separation None (earlier_times a.task earlier)) a.time in
    verdict_err external (fits op a.value) (nat_lt (a.time + jitter) next) next f e

moved_ok : (form : Form) (earlier : List Arrival) (a : Arrival) (n : ℕ) → moved_by form (before_of form earlier a) a ≡ Ok n →
    (request_fault_by form earlier a ≡ None) × (n ≡ next_nominal (separation_by form) (before_of form earlier a) a.time)
unfolding verdict tests
moved_ok (Passive ops) earlier a n e = absurd (cc)
moved_ok (Shared ceiling vars ops) earlier a n e = absurd (cc)
moved_ok (Cyclic priority offset period vars block) earlier a n e = absurd (cc)
moved_ok (Sporadic priority ceiling op separation jitter external vars block) earlier a n e =
    let next = next_nominal separation (nominal separation None (earlier_times a.task earlier)) a.time in
    let p = verdict_ok external (fits op a.value) (nat_lt (a.time + jitter) next) next n e in
    (p.0, sym p.1)

-- ITEMS
pub fault-falling : (p : Program) (earlier : List Arrival) (a : Arrival) → nat_lt a.time (last_time earlier) ≡ true
    → item_fault p earlier a ≡ Some Falling
fault-falling p earlier a t = rw t refl

pub fault-nowhere : (p : Program) (earlier : List Arrival) (a : Arrival) → nat_lt a.time (last_time earlier) ≡ false → slice_get p.units a.task ≡ None
    → item_fault p earlier a ≡ Some Unknown
fault-nowhere p earlier a t at = rw (t, at) refl

pub fault-moved : (p : Program) (earlier : List Arrival) (a : Arrival) (u : programs.Unit) (before : Option ℕ) (f : ArrivalFault)
    → nat_lt a.time (last_time earlier) ≡ false → slice_get p.units a.task ≡ Some u →
    before ≡ before_of u.form earlier a → moved_by u.form before a ≡ Err f → item_fault p earlier a ≡ Some f
fault-moved p earlier a u before f t at is e = rw (t, at) (moved_err u.form earlier a f (ap (λ o. moved_by u.form o a) (sym is) ∙ e))

pub fault-none : (p : Program) (earlier : List Arrival) (a : Arrival) (u : programs.Unit) (before : Option ℕ) (n : ℕ)
    → nat_lt a.time (last_time earlier) ≡ false → slice_get p.units a.task ≡ Some u →
    before ≡ before_of u.form earlier a → moved_by u.form before a ≡ Ok n →
    (item_fault p earlier a ≡ None) × (n ≡ next_nominal (separation_by u.form) (before_of u.form earlier a) a.time)
fault-none p earlier a u before n t at is e =
    let m = moved_ok u.form earlier a n (ap (λ o. moved_by u.form o a) (sym is) ∙ e) in
    (rw (t, at) m.0, m.1)

-- WHAT IS KEPT
pub last-added : (earlier : List Arrival) (a : Arrival) → last_time (earlier ++ a ∷ []) ≡ a.time
last-added [] a = refl
last-added (b ∷ []) a = refl
last-added (b ∷ c ∷ more) a = last-added (c ∷ more) a

nominal_added : (separation : ℕ) (last : Option ℕ) (times : List ℕ) (time : ℕ)
    → nominal separation last (times ++ time ∷ []) ≡ Some (next_nominal separation (nominal separation last times) time)
nominal_added separation last [] time = refl
nominal_added separation last (t ∷ ts) time = nominal_added separation (Some (next_nominal separation last t)) ts time

times_added : (place : ℕ) (earlier : List Arrival) (a : Arrival) → earlier_times place (earlier ++ a ∷ [])
    ≡ earlier_times place earlier ++ map (λ b. b.time) (filter (λ b. b.task == place) (a ∷ []))
times_added place earlier a =
    ap (map (λ b. b.time)) (filter-append (λ b. b.task == place) earlier (a ∷ []))
    ∙ map-append (λ (b : Arrival). b.time) (filter (λ b. b.task == place) earlier) (filter (λ b. b.task == place) (a ∷ []))

times_here : (place : ℕ) (earlier : List Arrival) (a : Arrival) → (a.task == place) ≡ true
    → earlier_times place (earlier ++ a ∷ []) ≡ earlier_times place earlier ++ a.time ∷ []
times_here place earlier a e = times_added place earlier a ∙ rw e refl

times_apart : (place : ℕ) (earlier : List Arrival) (a : Arrival) → (a.task == place) ≡ false
    → earlier_times place (earlier ++ a ∷ []) ≡ earlier_times place earlier
times_apart place earlier a e = times_added place earlier a ∙ rw (e, append-nil) refl

-- the last nominal times after one request more
pub nominals-added : (p : Program) (earlier : List Arrival) (a : Arrival) (u : programs.Unit) (n : ℕ) (nominals : List (Option ℕ))
    → length nominals ≡ length p.units → slice_get p.units a.task ≡ Some u →
    ((place : ℕ) → place < length p.units → get_or nominals place None
    ≡ nominal (separation_at (slice_get p.units place)) None (earlier_times place earlier)) →
    n ≡ next_nominal (separation_by u.form) (before_of u.form earlier a) a.time → a.task < length p.units →
    (place : ℕ) → place < length p.units → get_or (set nominals a.task (Some n)) place None
    ≡ nominal (separation_at (slice_get p.units place)) None (earlier_times place (earlier ++ a ∷ []))
nominals-added p earlier a u n nominals sized at was is within place below = by (a.task == place) refl where
  by : (b : Bool) → (a.task == place) ≡ b → get_or (set nominals a.task (Some n)) place None
      ≡ nominal (separation_at (slice_get p.units place)) None (earlier_times place (earlier ++ a ∷ []))
  by true e =
      let same : a.task ≡ place = eqb-true a.task place e in
      let P : ℕ → Type 0 = λ k. get_or (set nominals a.task (Some n)) k None
      ≡ nominal (separation_at (slice_get p.units k)) None (earlier_times k (earlier ++ a ∷ [])) in
      subst P same (
      get_or-set_same nominals a.task (Some n) None (omega (arith, sized, within))
      ∙ ap Some is
      ∙ sym (rw (at, times_here a.task earlier a (eq-eqb a.task a.task refl))
      (nominal_added (separation_by u.form) None (earlier_times a.task earlier) a.time)))
  by false e =
      get_or-set_other nominals a.task place (Some n) None (λ h. let t : (a.task == place) ≡ true = eq-eqb a.task place (sym h) in cc)
      ∙ was place below
      ∙ ap (nominal (separation_at (slice_get p.units place)) None) (sym (times_apart place earlier a e))
