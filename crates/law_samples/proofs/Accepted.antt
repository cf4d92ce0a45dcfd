-- The arrivals of a sample are accepted: each request stands behind the earlier ones, and a separation after the last of its thread.
use Rattle.std.proofs.Common.{◌≡◌, ℕ, zero, suc, ◌+◌, ◌%◌, ◌<◌, ◌≤◌, Bool, true, false, ◌&&◌, eqb, ◌⊎◌, inl, inr, List, [], ◌∷◌, ◌++◌, map}
use Rattle.std.proofs.Common.{length, filter, flat_map, refl, sym, ap, subst, ◌∙◌, arith, eq-eqb, ne_eqb, eqb-true, le-ltb, le_refl, append-nil}
use Rattle.std.specs.Prelude.{◌==◌, nat_lt, Option, Some, None, slice_get, if◌then◌else◌, ⊤}
use Rattle.std.proofs.lemmas.Bool.{and_parts, cases_eq}
use Rattle.std.proofs.lemmas.List.{map-append}
use Rattle.std.proofs.lemmas.List.Elements.{filter-append}
use Rattle.ada_tree.specs.Programs.{Form, Unit, Program, Passive, Shared, Cyclic, Sporadic}
use Rattle.arrivals_tree.specs.declared.arrivals.Arrival.{Arrival}
use Rattle.arrivals_tree.specs.ArrivalTexts.{unit_place, request_of, said}
use Rattle.arrivals_tree.specs.Acceptance.{next_nominal, nominal, earlier_times, last_time, request_fault_by, request_fault_at, item_fault}
use Rattle.arrivals_tree.specs.Acceptance.{requests_fault, IsAccepted}
use Rattle.sample_design.specs.Requests.{Request, is_due, request_at, requests_among, requests_at, requests}
use Rattle.sample_design.specs.Samples.{from_on, from_to, is_sporadic, thread_name, thread_time}
use Rattle.law_samples.proofs.Multiples.{next_multiple}
use Rattle.law_samples.proofs.Requests.{all_threads, all_times}
use Rattle.law_samples.proofs.Spelled.{at_text, arrival_tree}

-- ONE REQUEST
-- whether a unit is requested from outside with a value, with this separation
abbrev pub is_asked : ℕ → Form → Bool
is_asked separation (Sporadic priority ceiling op own jitter external vars block) = external && (nat_lt 0 (length op.params) && own == separation)
is_asked separation _ = false

abbrev pub is_asked_at : ℕ → Option Unit → Bool
is_asked_at separation None = false
is_asked_at separation (Some u) = is_asked separation u.form

fine_by : (separation : ℕ) (form : Form) (before : List Arrival) (time task value : ℕ) → is_asked separation form ≡ true
    → next_nominal separation (nominal separation None (earlier_times task before)) time ≡ time
    → request_fault_by form before (record { time = time; task = task; value = Some value }) ≡ None
fine_by separation (Passive ops) before time task value asked kept = cc
fine_by separation (Shared ceiling vars ops) before time task value asked kept = cc
fine_by separation (Cyclic priority offset period vars block) before time task value asked kept = cc
fine_by separation (Sporadic priority ceiling op own jitter external vars block) before time task value asked kept =
    let p = and_parts external _ asked in
    let q = and_parts (nat_lt 0 (length op.params)) _ p.1 in
    let same : own ≡ separation = eqb-true own separation q.1 in
    let late : nat_lt (time + jitter) (next_nominal own (nominal own None (earlier_times task before)) time) ≡ false =
    rw same (rw kept (le-ltb (time + jitter) time (omega arith))) in
    rw (p.0, q.0, late) refl

fine : (separation : ℕ) (unit : Option Unit) (before : List Arrival) (time task value : ℕ) → is_asked_at separation unit ≡ true
    → next_nominal separation (nominal separation None (earlier_times task before)) time ≡ time
    → request_fault_at unit before (record { time = time; task = task; value = Some value }) ≡ None
fine separation None before time task value asked kept = cc
fine separation (Some u) before time task value asked kept = fine_by separation u.form before time task value asked kept

-- EARLIER REQUESTS
-- the last nominal time of a thread is a multiple of its separation, before the next request of it
abbrev IsBehind : ℕ → ℕ → ℕ → ℕ → Option ℕ → Type 0
IsBehind separation time next k None = ⊤
IsBehind separation time next k (Some last) = (last % separation ≡ 0) × (last ≤ time) × (next ≤ k → last < time)

next-kept : (separation time k : ℕ) (o : Option ℕ) → time % separation ≡ 0 → IsBehind separation time k k o → next_nominal separation o time ≡ time
next-kept separation time k None whole h = refl
next-kept separation time k (Some last) whole h =
    let far : last + separation ≤ time = next_multiple time last separation whole h.0 (h.2 (le_refl k)) in
    omega (arith, far)

behind-later : (separation time next later k : ℕ) (o : Option ℕ) → next ≤ later → IsBehind separation time next k o
    → IsBehind separation time later k o
behind-later separation time next later k None le h = tt
behind-later separation time next later k (Some last) le h = (h.0, h.1, λ more. h.2 (omega (arith, le, more)))

behind-tomorrow : (separation time next k : ℕ) (o : Option ℕ) → IsBehind separation time next k o → IsBehind separation (suc time) 1 k o
behind-tomorrow separation time next k None h = tt
behind-tomorrow separation time next k (Some last) h = let past = h.1 in (h.0, omega (arith, past), λ more. omega (arith, past))

nominal-snoc : (separation : ℕ) (o : Option ℕ) (times : List ℕ) (time : ℕ)
    → nominal separation o (times ++ time ∷ []) ≡ Some (next_nominal separation (nominal separation o times) time)
nominal-snoc separation o [] time = refl
nominal-snoc separation o (t ∷ times) time = nominal-snoc separation (Some (next_nominal separation o t)) times time

last-snoc : (before : List Arrival) (a : Arrival) → last_time (before ++ a ∷ []) ≡ a.time
last-snoc [] a = refl
last-snoc (b ∷ []) a = refl
last-snoc (b ∷ c ∷ before) a = last-snoc (c ∷ before) a

-- those of a task, with one more
earlier-own : (task : ℕ) (before : List Arrival) (a : Arrival) → a.task ≡ task
    → earlier_times task (before ++ a ∷ []) ≡ earlier_times task before ++ a.time ∷ []
earlier-own task before a same =
    let own : eqb a.task task ≡ true = eq-eqb a.task task same in
    let one : map (λ b. b.time) (filter (λ b. b.task == task) (a ∷ [])) ≡ a.time ∷ [] = rw own refl in
    ap (map (λ b. b.time)) (filter-append (λ b. b.task == task) before (a ∷ [])) ∙ map-append (λ b. b.time)
    (filter (λ b. b.task == task) before) _ ∙ ap (λ ts. earlier_times task before ++ ts) one

earlier-other : (task : ℕ) (before : List Arrival) (a : Arrival) → (a.task ≡ task → ⊥)
    → earlier_times task (before ++ a ∷ []) ≡ earlier_times task before
earlier-other task before a other =
    let none : eqb a.task task ≡ false = ne_eqb a.task task other in
    let empty : filter (λ b. b.task == task) (a ∷ []) ≡ [] = rw none refl in
    ap (map (λ b. b.time)) (filter-append (λ b. b.task == task) before (a ∷ []) ∙ ap (λ as'. filter (λ b. b.task == task) before ++ as') empty ∙
    append-nil _)

-- what a request says of a program
abbrev pub arrival_of : Program → Request → Arrival
arrival_of p r = request_of p (at_text r)

-- the unit of each sporadic thread of so many stands behind the other objects, and is requested from outside
pub record HasThreads (p : Program) (n : ℕ) : Type 0 where
  pub place : (k : ℕ) → 1 ≤ k → k ≤ n → is_sporadic k ≡ true → unit_place p (thread_name k) ≡ suc k
  pub asked : (k : ℕ) → 1 ≤ k → k ≤ n → is_sporadic k ≡ true → is_asked_at (thread_time n k) (slice_get p.units (suc k)) ≡ true

module _ (p : Program) (n : ℕ) (some : 1 ≤ n) (has : HasThreads p n) where
  -- the requests of the threads before one at a time, and of all at earlier times
  record Told (time next : ℕ) (before : List Arrival) : Type 0 where
    last : last_time before ≤ time
    behind : (k : ℕ) → IsBehind (thread_time n k) time next k (nominal (thread_time n k) None (earlier_times (suc k) before))

  told-skip : (time next : ℕ) (before : List Arrival) → Told time next before → Told time (suc next) before
  told-skip time next before told = record {
    last = told.last;
    behind = λ k. behind-later (thread_time n k) time next (suc next) k _ (omega arith) (told.behind k);
  }

  told-tomorrow : (time next : ℕ) (before : List Arrival) → Told time next before → Told (suc time) 1 before
  told-tomorrow time next before told =
      let last = told.last in
      record {
        last = omega (arith, last);
        behind = λ k. behind-tomorrow (thread_time n k) time next k _ (told.behind k);
      }

  due-whole : (time k : ℕ) → is_due n time k ≡ true → time % thread_time n k ≡ 0
  due-whole time k due = eqb-true (time % thread_time n k) 0 (and_parts (is_sporadic k) _ due).1

  told-kept : (time k : ℕ) (before : List Arrival) → is_due n time k ≡ true → Told time k before
      → next_nominal (thread_time n k) (nominal (thread_time n k) None (earlier_times (suc k) before)) time ≡ time
  told-kept time k before due told = next-kept (thread_time n k) time k _ (due-whole time k due) (told.behind k)

  -- a request that is due is fine
  told-fine : (time k : ℕ) (before : List Arrival) → 1 ≤ k → k ≤ n → is_due n time k ≡ true → Told time k before
      → item_fault p before (arrival_of p (request_at n time k)) ≡ None
  told-fine time k before low high due told =
      let sporadic : is_sporadic k ≡ true = (and_parts (is_sporadic k) _ due).0 in
      let late : nat_lt time (last_time before) ≡ false = le-ltb time (last_time before) told.last in
      let place : unit_place p (thread_name k) ≡ suc k = has.place k low high sporadic in
      rw (late, place) (fine (thread_time n k) (slice_get p.units (suc k)) before time (suc k) (request_at n time k).value
      (has.asked k low high sporadic) (told-kept time k before due told))

  -- and the next ones stand behind it
  told-more : (time k : ℕ) (before : List Arrival) → 1 ≤ k → k ≤ n → is_due n time k ≡ true → Told time k before
      → Told time (suc k) (before ++ arrival_of p (request_at n time k) ∷ [])
  told-more time k before low high due told =
      let a : Arrival = arrival_of p (request_at n time k) in
      record {
        last = subst (λ t. t ≤ time) (sym (last-snoc before a)) (le_refl time);
        behind = λ j. by j (cases_eq k j);
      }
    where
      sporadic : is_sporadic k ≡ true
      sporadic = (and_parts (is_sporadic k) _ due).0

      place : unit_place p (thread_name k) ≡ suc k
      place = has.place k low high sporadic

      by : (j : ℕ) → (k ≡ j) ⊎ (k ≡ j → ⊥)
          → IsBehind (thread_time n j) time (suc k) j
          (nominal (thread_time n j) None (earlier_times (suc j) (before ++ arrival_of p (request_at n time k) ∷ [])))
      by j (inl same) =
          let own : unit_place p (thread_name k) ≡ suc j = place ∙ ap suc same in
          let times = earlier-own (suc j) before (arrival_of p (request_at n time k)) own in
          subst (λ ts. IsBehind (thread_time n j) time (suc k) j (nominal (thread_time n j) None ts)) (sym times)
          (subst (λ o. IsBehind (thread_time n j) time (suc k) j o) (sym (nominal-snoc (thread_time n j) None (earlier_times (suc j) before) time))
          (subst (λ i. IsBehind (thread_time n i) time (suc k) i
          (Some (next_nominal (thread_time n i) (nominal (thread_time n i) None (earlier_times (suc i) before)) time))) same
          (subst (λ t. IsBehind (thread_time n k) time (suc k) k (Some t)) (sym (told-kept time k before due told))
          (due-whole time k due, le_refl time, λ more. absurd (omega (arith, more))))))
      by j (inr other) =
          let apart : unit_place p (thread_name k) ≡ suc j → ⊥ = λ e. other (let e' : suc k ≡ suc j = sym place ∙ e in omega (arith, e')) in
          subst (λ ts. IsBehind (thread_time n j) time (suc k) j (nominal (thread_time n j) None ts))
          (sym (earlier-other (suc j) before (arrival_of p (request_at n time k)) apart))
          (behind-later (thread_time n j) time k (suc k) j _ (omega arith) (told.behind j))

  -- ALL REQUESTS
  -- those of threads one after another, at a time
  threads-fine : (time first count : ℕ) (before rest : List Arrival) → 1 ≤ first → first + count ≤ suc n → Told time first before
      → ((after : List Arrival) (next : ℕ) → Told time next after → requests_fault p after rest ≡ None)
      → requests_fault p before (map (arrival_of p) (requests_among n time (from_on first count)) ++ rest) ≡ None
  threads-fine time first zero before rest low high told onwards = onwards before first told
  threads-fine time first (suc count) before rest low high told onwards =
      by (is_due n time first) refl (λ after more. threads-fine time (suc first) count after rest (omega arith) (omega (arith, high)) more onwards)
    where
      others : List ℕ
      others = filter (is_due n time) (from_on (suc first) count)

      by : (due : Bool) → is_due n time first ≡ due
          → ((after : List Arrival) → Told time (suc first) after
          → requests_fault p after (map (arrival_of p) (map (request_at n time) others) ++ rest) ≡ None)
          → requests_fault p before (map (arrival_of p) (map (request_at n time) (if due then first ∷ others else others)) ++ rest) ≡ None
      by true due more =
          let right = told-fine time first before low (omega (arith, high)) due told in
          rw right (more (before ++ arrival_of p (request_at n time first) ∷ []) (told-more time first before low (omega (arith, high)) due told))
      by false due more = more before (told-skip time first before told)

  -- those at times one after another
  times-fine : (first count : ℕ) (before : List Arrival) → Told first 1 before
      → requests_fault p before (map (arrival_of p) (flat_map (requests_at n) (from_on first count))) ≡ None
  times-fine first zero before told = refl
  times-fine first (suc count) before told =
      let rest : List Arrival = map (arrival_of p) (flat_map (requests_at n) (from_on (suc first) count)) in
      let fine' : requests_fault p before (map (arrival_of p) (requests_among n first (from_on 1 n)) ++ rest) ≡ None =
      threads-fine first 1 n before rest (le_refl 1) (omega arith) told
      (λ after next more. times-fine (suc first) count after (told-tomorrow first next after more)) in
      subst (λ as'. requests_fault p before as' ≡ None)
      (sym (map-append (arrival_of p) (requests_at n first) (flat_map (requests_at n) (from_on (suc first) count))))
      (subst (λ ks. requests_fault p before (map (arrival_of p) (requests_among n first ks) ++ rest) ≡ None) (sym (all_threads n)) fine')

  pub requests-fine : (until : ℕ) → requests_fault p [] (map (arrival_of p) (flat_map (requests_at n) (from_to 0 (suc until)))) ≡ None
  requests-fine until =
      subst (λ ts. requests_fault p [] (map (arrival_of p) (flat_map (requests_at n) ts)) ≡ None) (sym (all_times until))
      (times-fine 0 (suc until) [] (record { last = le_refl 0; behind = λ k. tt }))

as-said : (p : Program) (rs : List Request) → map (request_of p) (map at_text rs) ≡ map (arrival_of p) rs
as-said p [] = refl
as-said p (r ∷ rs) = ap (λ as'. arrival_of p r ∷ as') (as-said p rs)

pub arrivals-accepted : (limit : ℕ) (p : Program) (n : ℕ) → 10000 ≤ limit → 1 ≤ n → HasThreads p n → IsAccepted limit p (said p (arrival_tree n))
arrivals-accepted limit p n near some has =
    let far : nat_lt limit 10000 ≡ false = le-ltb limit 10000 near in
    let items : requests_fault p [] (map (request_of p) (map at_text (requests n))) ≡ None =
    subst (λ as'. requests_fault p [] as' ≡ None) (sym (as-said p (requests n))) (requests-fine p n some has 10000) in
    rw far items
