-- The tasks of a flat design's program are its threads with their priorities, and its ceilings are at most those of the design.
use Rattle.std.specs.Prelude.{◌≡◌, ℕ, zero, suc, ◌≤◌, ◌<◌, nat_le, nat_lt, max, fold, Bool, true, false, cond, List, [], ◌∷◌, ◌++◌, map, zip}
use Rattle.std.specs.Prelude.{filter, flat_map, filter_map, find, length, slice_get, Option, Some, None, option_map, unwrap_or, if◌then◌else◌}
use Rattle.std.specs.Prelude.{refl, ◌+◌, ◌-◌}
use Rattle.std.specs.List.{cons_option}
use Rattle.std.proofs.Common.{◌∙◌, ap, arith, zero-le}
use Rattle.std.proofs.lemmas.List.Elements.{filter_map-append}
use Rattle.seq_tree.specs.Names.{Name, same_name}
use Rattle.seq_tree.specs.Lists.{Each}
use Rattle.ods_tree.specs.Flats.{Library, Guarded, Thread, Flat}
use Rattle.ods_tree.specs.Flats as timing
use Rattle.ods_tree.specs.Services.{flat_services, requested, request_of, services}
use Rattle.ada_tree.specs.Programs.{Unit}
use Rattle.analysis.specs.Sections.{Section, sections}
use Rattle.analysis.specs.Ceilings.{ceiling, control_ceiling, Ranks, ranks_for, numbered, written_ranks}
use Rattle.analysis.specs.Blocking.{lower_sections, blocking}
use Rattle.guarantee.specs.Software.{Task, task_by, task_of, all_services}
use Rattle.guarantee.specs.Programs.{passive_unit, shared_unit, thread_form, thread_unit, program_for}
use Rattle.guarantee.specs.ResponseLaw.{Ranked, priority_of, ceiling_of, ceiling_named, ranked, program_services}
use Rattle.guarantee.proofs.Shared.Same.{program_for-software}
use Rattle.law_designs.proofs.Shared.PriorityLists.{Entry, ranked_entry}
use Rattle.law_lists.proofs.Shared.Lists.{each-append, each-to, each-in}
use Rattle.law_lists.proofs.Shared.Facts.{same-is}
use Rattle.std.proofs.lemmas.Bool.{both_ways}
use Rattle.law_lists.proofs.Shared.Greatest.{at-most}

-- the task of a unit
abbrev ranked_by : Unit → Option Ranked
ranked_by u = option_map (λ t. record { task = t; priority = priority_of u.form }) (task_by u.name u.form)

ranked-passive : (ls : List Library) → filter_map ranked_by (map passive_unit ls) ≡ []
ranked-passive [] = refl
ranked-passive (l ∷ ls) = ranked-passive ls

ranked-shared : (gs : List (Guarded × ℕ)) → filter_map ranked_by (map shared_unit gs) ≡ []
ranked-shared [] = refl
ranked-shared (g ∷ gs) = ranked-shared gs

ranked-form : (t : Thread) (q c : ℕ) (k : timing.Timing)
    → option_map (λ x. let r : Ranked = record { task = x; priority = priority_of (thread_form q c k t) } in r) (task_by t.name (thread_form q c k t))
    ≡ Some (record { task = record { name = t.name; timing = k; vars = t.vars; block = t.block }; priority = q })
ranked-form t q c (timing.Cyclic period offset) = refl
ranked-form t q c (timing.Sporadic op separation None) = refl
ranked-form t q c (timing.Sporadic op separation (Some jitter)) = refl

ranked-threads : (first : ℕ) (ts : List Thread) (ps cs : List ℕ) → length cs ≡ length ts
    → filter_map ranked_by (map thread_unit (zip ts (zip (numbered first ps) cs))) ≡ map (ranked_entry first) (zip ts ps)
ranked-threads first [] ps cs h = refl
ranked-threads first (t ∷ ts) [] cs h = refl
ranked-threads first (t ∷ ts) (q ∷ ps) [] h = absurd (omega (arith, h))
ranked-threads first (t ∷ ts) (q ∷ ps) (c ∷ cs) h =
    let rest : length cs ≡ length ts = omega (arith, h) in
    let e : Entry = (t, q) in
    ap (λ o. cons_option o (filter_map ranked_by (map thread_unit (zip ts (zip (numbered first ps) cs)))))
    (ranked-form t (q + (first - 1)) c t.timing) ∙ ap (λ us. ranked_entry first e ∷ us) (ranked-threads first ts ps cs rest)

pub ranked-listing : (first : ℕ) (f : Flat) (r : Ranks) → length (numbered first r.obcs) ≡ length f.threads
    → ranked (program_for f (written_ranks first r)) ≡ map (ranked_entry first) (zip f.threads r.threads)
ranked-listing first f r long =
    let us : List Unit = map passive_unit f.passive in
    let vs : List Unit = map shared_unit (zip f.shared (numbered first r.shared)) in
    let ws : List Unit = map thread_unit (zip f.threads (zip (numbered first r.threads) (numbered first r.obcs))) in
    filter_map-append ranked_by us (vs ++ ws) ∙ ap (λ xs. xs ++ filter_map ranked_by (vs ++ ws)) (ranked-passive f.passive)
    ∙ filter_map-append ranked_by vs ws ∙ ap (λ xs. xs ++ filter_map ranked_by ws) (ranked-shared (zip f.shared (numbered first r.shared))) ∙
    ranked-threads first f.threads r.threads (numbered first r.obcs) long

-- what may be called is the same
requests-same : (ts : List Thread) → filter_map (λ (t : Task). requested t.name (request_of t.timing)) (map task_of ts)
    ≡ filter_map (λ (t : Thread). requested t.name (request_of t.timing)) ts
requests-same [] = refl
requests-same (t ∷ ts) = ap (cons_option (requested t.name (request_of t.timing))) (requests-same ts)

pub services-same : (f : Flat) (r : Ranks) → length r.shared ≡ length f.shared → length r.threads ≡ length f.threads
    → length r.obcs ≡ length f.threads → program_services (program_for f r) ≡ flat_services f
services-same f r shared threads obcs = ap all_services (program_for-software f r shared threads obcs) ∙ ap (services f.passive f.shared)
    (requests-same f.threads)

pub zipped-at : {A B : Type 0} (xs : List A) (ys : List B) (k : ℕ) (p : A × B) → slice_get (zip xs ys) k ≡ Some p
    → (slice_get xs k ≡ Some p.0) × (slice_get ys k ≡ Some p.1)
zipped-at [] ys k p e = cc
zipped-at (z ∷ xs) [] k p e = cc
zipped-at {A} {B} (z ∷ xs) (w ∷ ys) zero p e =
    let first : A × B = (z, w) in
    let is : first ≡ p = cc in
    (ap (λ q. Some q.0) is, ap (λ q. Some q.1) is)
zipped-at (z ∷ xs) (w ∷ ys) (suc k) p e = zipped-at xs ys k p e

-- units of a name whose ceilings are at most a bound
abbrev IsLow : Name → ℕ → Unit → Type 0
IsLow name bound u = same_name u.name name ≡ true → ceiling_of u.form ≤ bound

find-low : (name : Name) (bound : ℕ) (us : List Unit) → Each (IsLow name bound) us
    → unwrap_or (option_map (λ u. ceiling_of u.form) (find (λ u. same_name u.name name) us)) 0 ≤ bound
find-low name bound [] h = zero-le
find-low name bound (u ∷ us) h = by (same_name u.name name) refl (find-low name bound us h.1)
  where
    by : (b : Bool) → same_name u.name name ≡ b → unwrap_or (option_map (λ v. ceiling_of v.form) (find (λ v. same_name v.name name) us)) 0 ≤ bound
        → unwrap_or (option_map (λ v. ceiling_of v.form) (cond b (Some u) (find (λ v. same_name v.name name) us))) 0 ≤ bound
    by true e rest = h.0 e
    by false e rest = rest

module _ (first : ℕ) (f : Flat) (ps : List ℕ) (name : Name) where
  low-passive : (ls : List Library) → Each (IsLow name (ceiling f ps name + (first - 1))) (map passive_unit ls)
  low-passive [] = tt
  low-passive (l ∷ ls) = (λ e. zero-le, low-passive ls)

  low-shared : (gs : List Guarded)
      → Each (IsLow name (ceiling f ps name + (first - 1))) (map shared_unit (zip gs (numbered first (map (λ g. ceiling f ps g.name) gs))))
  low-shared [] = tt
  low-shared (g ∷ gs) = (λ e. let same = ap (ceiling f ps) (same-is g.name name e) in omega (arith, same), low-shared gs)

  low-form : (t : Thread) (q : ℕ) (k : timing.Timing) → t.name ≡ name
      → ceiling_of (thread_form q (control_ceiling f ps t.name k + (first - 1)) k t) ≤ ceiling f ps name + (first - 1)
  low-form t q (timing.Cyclic period offset) e = zero-le
  low-form t q (timing.Sporadic op separation jitter) e = let same = ap (ceiling f ps) e in omega (arith, same)

  low-threads : (ts : List Thread) (qs : List ℕ)
      → Each (IsLow name (ceiling f ps name + (first - 1)))
      (map thread_unit (zip ts (zip qs (numbered first (map (λ t. control_ceiling f ps t.name t.timing) ts)))))
  low-threads [] qs = tt
  low-threads (t ∷ ts) [] = tt
  low-threads (t ∷ ts) (q ∷ qs) = (λ e. low-form t q t.timing (same-is t.name name e), low-threads ts qs)

  pub ceiling-low : ceiling_named (program_for f (written_ranks first (ranks_for f ps))) name ≤ ceiling f ps name + (first - 1)
  ceiling-low =
      find-low name (ceiling f ps name + (first - 1)) (program_for f (written_ranks first (ranks_for f ps))).units
      (each-append (IsLow name (ceiling f ps name + (first - 1))) (map passive_unit f.passive) _ (low-passive f.passive)
      (each-append (IsLow name (ceiling f ps name + (first - 1)))
      (map shared_unit (zip f.shared (numbered first (map (λ g. ceiling f ps g.name) f.shared)))) _ (low-shared f.shared)
      (low-threads f.threads (numbered first ps))))

fold-each : (n : ℕ) (ns : List ℕ) → Each (λ m. m ≤ fold max n ns) ns
fold-each n ns = each-in (λ m. m ≤ fold max n ns) ns (at-most n ns)

-- sections of lower threads on objects whose ceilings reach a level are bounded by its blocking
each-of-map : {A : Type 0} (P : ℕ → Type 0) (g : A → ℕ) (xs : List A) → Each P (map g xs) → Each (λ x. P (g x)) xs
each-of-map P g [] h = tt
each-of-map P g (x ∷ xs) h = (h.0, each-of-map P g xs h.1)

each-of-filter : {A : Type 0} (P : A → Type 0) (test : A → Bool) (xs : List A) → Each P (filter test xs) → Each (λ x. test x ≡ true → P x) xs
each-of-filter P test [] h = tt
each-of-filter {A} P test (x ∷ xs) h = by (test x) refl h (λ k. each-of-filter P test xs k)
  where
    by : (b : Bool) → test x ≡ b → Each P (if b then x ∷ filter test xs else filter test xs)
        → (Each P (filter test xs) → Each (λ y. test y ≡ true → P y) xs)
        → (test x ≡ true → P x) × Each (λ y. test y ≡ true → P y) xs
    by true e k rest = (λ g. k.0, rest k.1)
    by false e k rest = (λ g. absurd (both_ways (test x) e g), rest k)

each-of-flat : {A B : Type 0} (P : B → Type 0) (g : A → List B) (xs : List A) → Each P (flat_map g xs) → Each (λ x. Each P (g x)) xs
each-of-flat P g [] h = tt
each-of-flat P g (x ∷ xs) h = (front (g x) (flat_map g xs) h, each-of-flat P g xs (back (g x) (flat_map g xs) h))
  where
    front : (ys zs : List _) → Each P (ys ++ zs) → Each P ys
    front [] zs k = tt
    front (y ∷ ys) zs k = (k.0, front ys zs k.1)

    back : (ys zs : List _) → Each P (ys ++ zs) → Each P zs
    back [] zs k = k
    back (y ∷ ys) zs k = back ys zs k.1

pub lower-bounded : (f : Flat) (ps : List ℕ) (level : ℕ)
    → Each (λ u. u.1 < level → Each (λ s. level ≤ ceiling f ps s.object
    → s.cost ≤ blocking f ps level) (sections f.costs (flat_services f) u.0.block)) (zip f.threads ps)
lower-bounded f ps level =
    each-to _ _ (zip f.threads ps) (λ u h low. each-to _ _ (sections f.costs (flat_services f) u.0.block) (λ s k reach. k (reaches s reach))
    (lower u h low))
    (each-of-flat (λ s. nat_le level (ceiling f ps s.object) ≡ true → s.cost ≤ blocking f ps level)
    (λ u. if nat_lt u.1 level then sections f.costs (flat_services f) u.0.block else []) (zip f.threads ps)
    (each-of-filter (λ s. s.cost ≤ blocking f ps level) (λ s. nat_le level (ceiling f ps s.object)) (lower_sections f ps level)
    (each-of-map (λ n. n ≤ blocking f ps level) (λ s. s.cost) (filter (λ s. nat_le level (ceiling f ps s.object)) (lower_sections f ps level))
    (fold-each 0 (map (λ s. s.cost) (filter (λ s. nat_le level (ceiling f ps s.object)) (lower_sections f ps level)))))))
  where
    reaches : (s : Section) → level ≤ ceiling f ps s.object → nat_le level (ceiling f ps s.object) ≡ true
    reaches s h = by (nat_le level (ceiling f ps s.object)) refl
      where
        by : (b : Bool) → nat_le level (ceiling f ps s.object) ≡ b → b ≡ true
        by true e = refl
        by false e = absurd (clash e)
          where
            clash : nat_le level (ceiling f ps s.object) ≡ false → ⊥
            clash e = grind (arith, h)

    Bounded : Section → Type 0
    Bounded s = nat_le level (ceiling f ps s.object) ≡ true → s.cost ≤ blocking f ps level

    lower : (u : Thread × ℕ) → Each (λ s. nat_le level (ceiling f ps s.object) ≡ true
        → s.cost ≤ blocking f ps level) (if nat_lt u.1 level then sections f.costs (flat_services f) u.0.block else [])
        → u.1 < level → Each (λ s. nat_le level (ceiling f ps s.object) ≡ true
        → s.cost ≤ blocking f ps level) (sections f.costs (flat_services f) u.0.block)
    lower u h low = by (nat_lt u.1 level) refl h
      where
        by : (b : Bool) → nat_lt u.1 level ≡ b
            → Each (λ s. nat_le level (ceiling f ps s.object) ≡ true → s.cost ≤ blocking f ps level)
            (if b then sections f.costs (flat_services f) u.0.block else [])
            → Each (λ s. nat_le level (ceiling f ps s.object) ≡ true → s.cost ≤ blocking f ps level) (sections f.costs (flat_services f) u.0.block)
        by true e k = k
        by false e k = absurd (clash e)
          where
            clash : nat_lt u.1 level ≡ false → ⊥
            clash e = grind (arith, low)

-- items of lists of numbers as they are written
pub raised-at : {A : Type 0} (first : ℕ) (h : A → ℕ) (xs : List A) (k : ℕ) (x : A) → slice_get xs k ≡ Some x
    → slice_get (numbered first (map h xs)) k ≡ Some (h x + (first - 1))
raised-at first h [] k x e = cc
raised-at first h (y ∷ xs) zero x e = let is : y ≡ x = cc in ap (λ z. Some (h z + (first - 1))) is
raised-at first h (y ∷ xs) (suc k) x e = raised-at first h xs k x e

pub from-raised : {A : Type 0} (first : ℕ) (h : A → ℕ) (xs : List A) (k n : ℕ) → slice_get (numbered first (map h xs)) k ≡ Some n
    → (x : A) × (slice_get xs k ≡ Some x) × (h x + (first - 1) ≡ n)
from-raised first h [] k n e = cc
from-raised first h (y ∷ xs) zero n e = let is : h y + (first - 1) ≡ n = cc in (y, refl, is)
from-raised first h (y ∷ xs) (suc k) n e = from-raised first h xs k n e

pub number-at : (first : ℕ) (ns : List ℕ) (k n : ℕ) → slice_get ns k ≡ Some n → slice_get (numbered first ns) k ≡ Some (n + (first - 1))
number-at first [] k n e = cc
number-at first (m ∷ ns) zero n e = let is : m ≡ n = cc in ap (λ z. Some (z + (first - 1))) is
number-at first (m ∷ ns) (suc k) n e = number-at first ns k n e
