-- Where names differ, threads call and request only at ceilings of at least their priorities.
use Rattle.std.specs.Prelude.{◌≡◌, ℕ, zero, suc, ◌+◌, ◌≤◌, ◌<◌, ◌&&◌, ◌||◌, not, max, fold, Bool, true, false, cond, List, [], ◌∷◌, ◌++◌, map}
use Rattle.std.specs.Prelude.{zip, filter, flat_map, find, length, slice_get, Option, Some, None, option_map, unwrap_or, if◌then◌else◌, ⊤, refl}
use Rattle.std.specs.Prelude.{◌-◌}
use Rattle.std.specs.List.{list_any, cons_option}
use Rattle.std.proofs.Common.{sym, ◌∙◌, ap, subst, arith}
use Rattle.seq_tree.specs.Names.{Name, same_name, is_named, are_distinct}
use Rattle.seq_tree.specs.Operations.{Operation}
use Rattle.seq_tree.specs.Lists.{Each}
use Rattle.seq_tree.specs.Calls.{block_calls, same_op}
use Rattle.seq_tree.specs.Statements.{Statements}
use Rattle.seq_tree.specs.declared.tree.OpName.{OpName}
use Rattle.ods_tree.specs.Flats.{Library, Guarded, Thread, Flat}
use Rattle.ods_tree.specs.Flats as timing
use Rattle.ods_tree.specs.Services.{Service, Sort, plain_services, protected_services, requested, request_of, requests, is_service}
use Rattle.ods_tree.specs.Services.{service_named, flat_services}
use Rattle.ods_tree.specs.Services as sort
use Rattle.ods_tree.specs.Sound.{entry_names}
use Rattle.ada_tree.specs.Programs.{Unit}
use Rattle.analysis.specs.Starts.{calls_object}
use Rattle.analysis.specs.Ceilings.{uses_object, greatest_user, calls_from_inside, ceiling, control_ceiling, ranks_for, numbered, written_ranks}
use Rattle.analysis.proofs.Shared.CeilingLaws.{node, ceiling-user, ceiling-caller}
use Rattle.guarantee.specs.Programs.{passive_unit, shared_unit, thread_form, thread_unit, program_for}
use Rattle.guarantee.specs.ResponseLaw.{ceiling_of, ceiling_named, IsBelowCeiling}
use Rattle.law_designs.proofs.Shared.ProgramTasks.{zipped-at, ceiling-low, raised-at, from-raised, number-at}
use Rattle.law_lists.proofs.Shared.Lists.{each-append, each-by, any-in, at-in}
use Rattle.law_lists.proofs.Shared.Facts.{same-self, same-is}
use Rattle.law_lists.proofs.Shared.Places.{get-front, zip-at, mapped-at, map-at}
use Rattle.std.proofs.lemmas.List.{length-map}
use Rattle.std.proofs.lemmas.Bool.{or_right, both_ways, and_parts, not-true}
use Rattle.std.proofs.lemmas.Option.{same_Some, slice_get_within}
use Rattle.law_designs.proofs.Shared.Lists.{named-from}
use Rattle.law_lists.proofs.Shared.Greatest.{at-least}

distinct-first : (x : Name) (xs : List Name) → are_distinct (x ∷ xs) ≡ true → (is_named xs x ≡ false) × (are_distinct xs ≡ true)
distinct-first x xs e = let parts = and_parts (not (is_named xs x)) (are_distinct xs) e in (not-true (is_named xs x) parts.0, parts.1)

-- one name stands at one place
pub distinct-once : (xs : List Name) → are_distinct xs ≡ true → (i j : ℕ) (a : Name) → slice_get xs i ≡ Some a → slice_get xs j ≡ Some a → i ≡ j
distinct-once [] e i j a g h = cc
distinct-once (x ∷ xs) e zero zero a g h = refl
distinct-once (x ∷ xs) e zero (suc j) a g h =
    let is : x ≡ a = cc in absurd (both_ways (is_named xs x) (distinct-first x xs e).0 (ap (is_named xs) is ∙ named-from xs a (at-in xs j a h)))
distinct-once (x ∷ xs) e (suc i) zero a g h =
    let is : x ≡ a = cc in absurd (both_ways (is_named xs x) (distinct-first x xs e).0 (ap (is_named xs) is ∙ named-from xs a (at-in xs i a g)))
distinct-once (x ∷ xs) e (suc i) (suc j) a g h = ap suc (distinct-once xs (distinct-first x xs e).1 i j a g h)

at-right : {A : Type 0} (xs ys : List A) (k : ℕ) (y : A) → slice_get ys k ≡ Some y → slice_get (xs ++ ys) (length xs + k) ≡ Some y
at-right [] ys k y e = let z : 0 + k ≡ k = omega arith in ap (slice_get ys) z ∙ e
at-right (x ∷ xs) ys k y e = let z : suc (length xs) + k ≡ suc (length xs + k) = omega arith
    in ap (slice_get (x ∷ (xs ++ ys))) z ∙ at-right xs ys k y e

fold-more : (n m : ℕ) (ns : List ℕ) → n ≤ m → fold max n ns ≤ fold max m ns
fold-more n m [] h = h
fold-more n m (x ∷ ns) h = fold-more (max n x) (max m x) ns (omega (arith, h))

user-below : (name : Name) (n : ℕ) (xs : List (Thread × ℕ)) (k : ℕ) (u : Thread × ℕ) → slice_get xs k ≡ Some u → uses_object name u.0 ≡ true
    → u.1 ≤ fold max n (map (λ x. x.1) (filter (λ x. uses_object name x.0) xs))
user-below name n [] k u e h = cc
user-below name n (x ∷ xs) zero u e h =
    let is : x ≡ u = cc in
    let on : uses_object name x.0 ≡ true = ap (λ z. uses_object name z.0) is ∙ h in
    let most : max n x.1 ≤ fold max (max n x.1) (map (λ y. y.1) (filter (λ y. uses_object name y.0) xs))
    = at-least (max n x.1) (map (λ y. y.1) (filter (λ y. uses_object name y.0) xs)) in
    subst (λ b. u.1 ≤ fold max n (map (λ y. y.1) (if b then x ∷ filter (λ y. uses_object name y.0) xs else filter (λ y. uses_object name y.0) xs)))
    (sym on) (omega (arith, most, ap (λ z. z.1) is))
user-below name n (x ∷ xs) (suc k) u e h = by (uses_object name x.0) (λ m. user-below name m xs k u e h)
  where
    by : (b : Bool) → ((m : ℕ) → u.1 ≤ fold max m (map (λ y. y.1) (filter (λ y. uses_object name y.0) xs)))
        → u.1 ≤ fold max n (map (λ y. y.1) (if b then x ∷ filter (λ y. uses_object name y.0) xs else filter (λ y. uses_object name y.0) xs))
    by true rest = rest (max n x.1)
    by false rest = rest n

-- where an operation that may be called comes from
abbrev pub IsSporadic : timing.Timing → Type 0
IsSporadic (timing.Cyclic period offset) = ⊥
IsSporadic (timing.Sporadic op separation jitter) = ⊤

abbrev Origin : Flat → Sort → Name → Type 0
Origin f sort.Plain object = ⊤
Origin f sort.Protected object = (k : ℕ) × (g : Guarded) × (slice_get f.shared k ≡ Some g) × (g.name ≡ object)
Origin f sort.Request object = (k : ℕ) × (t : Thread) × (slice_get f.threads k ≡ Some t) × (t.name ≡ object) × IsSporadic t.timing

module _ (f : Flat) (first : ℕ) where
  plain-origins : (ls : List Library) → Each (λ s. Origin f s.sort s.object) (flat_map plain_services ls)
  plain-origins [] = tt
  plain-origins (l ∷ ls) = each-append (λ s. Origin f s.sort s.object) (plain_services l) (flat_map plain_services ls) (ops l.ops) (plain-origins ls)
    where
      ops : (os : List Operation) → Each (λ s. Origin f s.sort s.object) (map (λ o. let s : Service
          = record { object = l.name; sort = sort.Plain; op = o } in s) os)
      ops [] = tt
      ops (o ∷ os) = (tt, ops os)

  protected-origins : (n : ℕ) (gs : List Guarded) → ((k : ℕ) (g : Guarded) → slice_get gs k ≡ Some g → slice_get f.shared (n + k) ≡ Some g)
      → Each (λ s. Origin f s.sort s.object) (flat_map protected_services gs)
  protected-origins n [] h = tt
  protected-origins n (g ∷ gs) h =
      each-append (λ s. Origin f s.sort s.object) (protected_services g) (flat_map protected_services gs) (ops g.ops)
      (protected-origins (suc n) gs (λ k x e. let z : suc n + k ≡ n + suc k = omega arith in ap (slice_get f.shared) z ∙ h (suc k) x e))
    where
      ops : (os : List Operation) → Each (λ s. Origin f s.sort s.object) (map (λ o. let s : Service
          = record { object = g.name; sort = sort.Protected; op = o } in s) os)
      ops [] = tt
      ops (o ∷ os) = ((n + 0, g, h 0 g refl, refl), ops os)

  request-origins : (n : ℕ) (ts : List Thread) → ((k : ℕ) (t : Thread) → slice_get ts k ≡ Some t → slice_get f.threads (n + k) ≡ Some t)
      → Each (λ s. Origin f s.sort s.object) (requests ts)
  request-origins n [] h = tt
  request-origins n (t ∷ ts) h = by t.timing refl (request-origins (suc n) ts (λ k x e. let z : suc n + k ≡ n + suc k = omega arith
      in ap (slice_get f.threads) z ∙ h (suc k) x e))
    where
      by : (x : timing.Timing) → t.timing ≡ x → Each (λ s. Origin f s.sort s.object) (requests ts)
          → Each (λ s. Origin f s.sort s.object) (cons_option (requested t.name (request_of x)) (requests ts))
      by (timing.Cyclic period offset) e rest = rest
      by (timing.Sporadic op separation jitter) e rest = ((n + 0, t, h 0 t refl, refl, subst IsSporadic (sym e) tt), rest)

  origins : Each (λ s. Origin f s.sort s.object) (flat_services f)
  origins =
      each-append (λ s. Origin f s.sort s.object) (flat_map plain_services f.passive) _ (plain-origins f.passive)
      (each-append (λ s. Origin f s.sort s.object) (flat_map protected_services f.shared) (requests f.threads)
      (protected-origins 0 f.shared (λ k g e. let z : 0 + k ≡ k = omega arith in ap (slice_get f.shared) z ∙ e))
      (request-origins 0 f.threads (λ k t e. let z : 0 + k ≡ k = omega arith in ap (slice_get f.threads) z ∙ e)))

  -- units of a name whose ceilings reach that of the design, one of them there
  abbrev IsHigh : List ℕ → Name → Unit → Type 0
  IsHigh ps name u = same_name u.name name ≡ true → ceiling f ps name + (first - 1) ≤ ceiling_of u.form

  find-high : (ps : List ℕ) (name : Name) (us : List Unit) (k : ℕ) (u : Unit) → Each (IsHigh ps name) us → slice_get us k ≡ Some u → u.name ≡ name
      → ceiling f ps name + (first - 1) ≤ unwrap_or (option_map (λ v. ceiling_of v.form) (find (λ v. same_name v.name name) us)) 0
  find-high ps name [] k u h e same = cc
  find-high ps name (v ∷ us) k u h e same = by (same_name v.name name) refl k e (λ j g. find-high ps name us j u h.1 g same)
    where
      by : (b : Bool) → same_name v.name name ≡ b → (j : ℕ) → slice_get (v ∷ us) j ≡ Some u
          → ((i : ℕ) → slice_get us i ≡ Some u
          → ceiling f ps name + (first - 1) ≤ unwrap_or (option_map (λ w. ceiling_of w.form) (find (λ w. same_name w.name name) us)) 0)
          → ceiling f ps name + (first - 1)
          ≤ unwrap_or (option_map (λ w. ceiling_of w.form) (cond b (Some v) (find (λ w. same_name w.name name) us))) 0
      by true g j at later = h.0 g
      by false g zero at later = let is : v ≡ u = cc
          in absurd (both_ways (same_name v.name name) g (ap (λ w. same_name w.name name) is ∙ ap (λ n. same_name n name) same ∙ same-self name))
      by false g (suc j) at later = later j at

  module _ (names : are_distinct (entry_names f) ≡ true) (ps : List ℕ) (long : length ps ≡ length f.threads) where
    abbrev us : List Unit
    us = map passive_unit f.passive

    abbrev shared_ceilings : List ℕ
    shared_ceilings = numbered first (map (λ g. ceiling f ps g.name) f.shared)

    abbrev controls : List ℕ
    controls = numbered first (map (λ t. control_ceiling f ps t.name t.timing) f.threads)

    abbrev vs : List Unit
    vs = map shared_unit (zip f.shared shared_ceilings)

    abbrev ws : List Unit
    ws = map thread_unit (zip f.threads (zip (numbered first ps) controls))

    abbrev three : List Name
    three = map (λ g. g.name) f.shared ++ map (λ t. t.name) f.threads

    passive-place : (k : ℕ) (l : Library) → slice_get f.passive k ≡ Some l → slice_get (entry_names f) k ≡ Some l.name
    passive-place k l e = get-front (map (λ x. x.name) f.passive) three k l.name (map-at (λ (x : Library). x.name) f.passive k l e)

    shared-place : (k : ℕ) (g : Guarded) → slice_get f.shared k ≡ Some g → slice_get (entry_names f) (length f.passive + k) ≡ Some g.name
    shared-place k g e =
        let z : length (map (λ (x : Library). x.name) f.passive) + k ≡ length f.passive + k
        = ap (λ n. n + k) (length-map f.passive (λ (x : Library). x.name)) in
        ap (slice_get (entry_names f)) (sym z)
        ∙ at-right (map (λ x. x.name) f.passive) three k g.name (get-front (map (λ x. x.name) f.shared) (map (λ t. t.name) f.threads) k g.name
        (map-at (λ (x : Guarded). x.name) f.shared k g e))

    thread-place : (k : ℕ) (t : Thread) → slice_get f.threads k ≡ Some t → slice_get (entry_names f) (length f.passive + (length f.shared + k))
        ≡ Some t.name
    thread-place k t e =
        let z : length (map (λ (x : Library). x.name) f.passive) + (length (map (λ (x : Guarded). x.name) f.shared) + k)
        ≡ length f.passive + (length f.shared + k) =
        ap (λ n. n + (length (map (λ (x : Guarded). x.name) f.shared) + k)) (length-map f.passive (λ (x : Library). x.name)) ∙ ap
        (λ n. length f.passive + (n + k)) (length-map f.shared (λ (x : Guarded). x.name)) in
        ap (slice_get (entry_names f)) (sym z)
        ∙ at-right (map (λ x. x.name) f.passive) three (length (map (λ (x : Guarded). x.name) f.shared) + k) t.name
        (at-right (map (λ x. x.name) f.shared) (map (λ t. t.name) f.threads) k t.name (map-at (λ (x : Thread). x.name) f.threads k t e))

    once : (i j : ℕ) (a b : Name) → slice_get (entry_names f) i ≡ Some a → slice_get (entry_names f) j ≡ Some b → a ≡ b → i ≡ j
    once i j a b e g same = distinct-once (entry_names f) names i j b (e ∙ ap Some same) g

    thread-unit-at : (k : ℕ) (t : Thread) (q : ℕ) → slice_get f.threads k ≡ Some t → slice_get ps k ≡ Some q
        → slice_get ws k ≡ Some (thread_unit (t, (q + (first - 1), control_ceiling f ps t.name t.timing + (first - 1))))
    thread-unit-at k t q e g =
        map-at thread_unit (zip f.threads (zip (numbered first ps) controls)) k
        (t, (q + (first - 1), control_ceiling f ps t.name t.timing + (first - 1)))
        (zip-at f.threads (zip (numbered first ps) controls) k t (q + (first - 1), control_ceiling f ps t.name t.timing + (first - 1)) e
        (zip-at (numbered first ps) controls k (q + (first - 1)) (control_ceiling f ps t.name t.timing + (first - 1)) (number-at first ps k q g)
        (raised-at first (λ (x : Thread). control_ceiling f ps x.name x.timing) f.threads k t e)))

    -- units of a name that a shared object or a sporadic thread has
    high-passive : (name : Name) (place : ℕ) → slice_get (entry_names f) place ≡ Some name → length f.passive ≤ place → Each (IsHigh ps name) us
    high-passive name place at far = each-by (IsHigh ps name) us (λ k u e same. never k u (mapped-at passive_unit f.passive k u e) same)
      where
        never : {A : Type 0} (k : ℕ) (u : Unit) → (l : Library) × (slice_get f.passive k ≡ Some l) × (passive_unit l ≡ u)
            → same_name u.name name ≡ true → A
        never k u found same =
            let named : found.0.name ≡ name = ap (λ (x : Unit). x.name) found.2 ∙ same-is u.name name same in
            absurd (omega (
              arith,
              far,
              once k place found.0.name name (passive-place k found.0
                  found.1) at named,
              slice_get_within f.passive k found.0 found.1,
            ))

    high-shared : (name : Name) → Each (IsHigh ps name) vs
    high-shared name = each-by (IsHigh ps name) vs (λ k u e same. high k u (mapped-at shared_unit (zip f.shared shared_ceilings) k u e) same)
      where
        high : (k : ℕ) (u : Unit) → (x : Guarded × ℕ) × (slice_get (zip f.shared shared_ceilings) k ≡ Some x) × (shared_unit x ≡ u)
            → same_name u.name name ≡ true → ceiling f ps name + (first - 1) ≤ ceiling_of u.form
        high k u found same =
            let parts = zipped-at f.shared shared_ceilings k found.0 found.1 in
            let own = from-raised first (λ (g : Guarded). ceiling f ps g.name) f.shared k found.0.1 parts.1 in
            let item : own.0 ≡ found.0.0 = same_Some own.0 found.0.0 (sym own.1 ∙ parts.0) in
            let named : found.0.0.name ≡ name = ap (λ (x : Unit). x.name) found.2 ∙ same-is u.name name same in
            let value : found.0.1 ≡ ceiling f ps name + (first - 1)
            = sym own.2 ∙ ap (λ (g : Guarded). ceiling f ps g.name + (first - 1)) item ∙ ap (λ n. ceiling f ps n + (first - 1)) named in
            let form : ceiling_of u.form ≡ found.0.1 = ap (λ (x : Unit). ceiling_of x.form) (sym found.2) in
            omega (arith, value, form)

    high-threads : (name : Name) → ((k : ℕ) (t : Thread) → slice_get f.threads k ≡ Some t → t.name ≡ name → IsSporadic t.timing)
        → Each (IsHigh ps name) ws
    high-threads name sporadic = each-by (IsHigh ps name) ws
        (λ k u e same. high k u (mapped-at thread_unit (zip f.threads (zip (numbered first ps) controls)) k u e) same)
      where
        by : (t : Thread) (q c : ℕ) (x : timing.Timing) → IsSporadic x → c ≡ control_ceiling f ps t.name x + (first - 1)
            → ceiling_of (thread_form q c x t) ≡ ceiling f ps t.name + (first - 1)
        by t q c (timing.Cyclic period offset) is e = absurd is
        by t q c (timing.Sporadic op separation jitter) is e = e

        high : (k : ℕ) (u : Unit) → (x : Thread × (ℕ × ℕ)) × (slice_get (zip f.threads (zip (numbered first ps) controls)) k ≡ Some x)
            × (thread_unit x ≡ u) → same_name u.name name ≡ true → ceiling f ps name + (first - 1) ≤ ceiling_of u.form
        high k u found same =
            let parts = zipped-at f.threads (zip (numbered first ps) controls) k found.0 found.1 in
            let inner = zipped-at (numbered first ps) controls k found.0.1 parts.1 in
            let own = from-raised first (λ (t : Thread). control_ceiling f ps t.name t.timing) f.threads k found.0.1.1 inner.1 in
            let item : own.0 ≡ found.0.0 = same_Some own.0 found.0.0 (sym own.1 ∙ parts.0) in
            let named : found.0.0.name ≡ name = ap (λ (x : Unit). x.name) found.2 ∙ same-is u.name name same in
            let control : found.0.1.1 ≡ control_ceiling f ps found.0.0.name found.0.0.timing + (first - 1)
            = sym own.2 ∙ ap (λ (t : Thread). control_ceiling f ps t.name t.timing + (first - 1)) item in
            let form = by found.0.0 found.0.1.0 found.0.1.1 found.0.0.timing (sporadic k found.0.0 parts.0 named) control in
            let is : ceiling_of u.form ≡ ceiling f ps found.0.0.name + (first - 1) = ap (λ (x : Unit). ceiling_of x.form) (sym found.2) ∙ form in
            omega (arith, is, ap (ceiling f ps) named)

    -- the ceiling of what is protected or requested
    protected-high : (k : ℕ) (g : Guarded) (name : Name) → slice_get f.shared k ≡ Some g → g.name ≡ name
        → ceiling f ps name + (first - 1) ≤ ceiling_named (program_for f (written_ranks first (ranks_for f ps))) name
    protected-high k g name at named =
        find-high ps name (us ++ (vs ++ ws)) (length us + k) (shared_unit (g, ceiling f ps g.name + (first - 1)))
        (each-append (IsHigh ps name) us (vs ++ ws) (high-passive name (length f.passive + k) (shared-place k g at ∙ ap Some named) (omega arith))
        (each-append (IsHigh ps name) vs ws (high-shared name) (high-threads name never)))
        (at-right us (vs ++ ws) k _ (get-front vs ws k _ (map-at shared_unit (zip f.shared shared_ceilings) k (g, ceiling f ps g.name + (first - 1))
        (zip-at f.shared shared_ceilings k g (ceiling f ps g.name + (first - 1)) at
        (raised-at first (λ (x : Guarded). ceiling f ps x.name) f.shared k g at)))))
        named
      where
        never : (j : ℕ) (t : Thread) → slice_get f.threads j ≡ Some t → t.name ≡ name → IsSporadic t.timing
        never j t e same =
            absurd (omega (
              arith,
              once (length f.passive + (length f.shared + j)) (length f.passive
                  + k) t.name g.name (thread-place j t e) (shared-place k g at) (same ∙ sym named),
              slice_get_within f.shared k g at,
            ))

    requested-high : (k : ℕ) (t : Thread) (name : Name) → slice_get f.threads k ≡ Some t → t.name ≡ name → IsSporadic t.timing
        → ceiling f ps name + (first - 1) ≤ ceiling_named (program_for f (written_ranks first (ranks_for f ps))) name
    requested-high k t name at named sporadic =
        let priority = has-at ps k (omega (arith, slice_get_within f.threads k t at, long)) in
        find-high ps name (us ++ (vs ++ ws)) (length us + (length vs + k))
        (thread_unit (t, (priority.0 + (first - 1), control_ceiling f ps t.name t.timing + (first - 1))))
        (each-append (IsHigh ps name) us (vs ++ ws) (high-passive name (length f.passive + (length f.shared + k))
        (thread-place k t at ∙ ap Some named) (omega arith))
        (each-append (IsHigh ps name) vs ws (high-shared name) (high-threads name own)))
        (at-right us (vs ++ ws) (length vs + k) _ (at-right vs ws k _ (thread-unit-at k t priority.0 at priority.1)))
        named
      where
        has-at : (xs : List ℕ) (i : ℕ) → i < length xs → (x : ℕ) × (slice_get xs i ≡ Some x)
        has-at [] i h = absurd (omega (arith, h))
        has-at (x ∷ xs) zero h = (x, refl)
        has-at (x ∷ xs) (suc i) h = has-at xs i (omega (arith, h))

        own : (j : ℕ) (x : Thread) → slice_get f.threads j ≡ Some x → x.name ≡ name → IsSporadic x.timing
        own j x e same =
            let place : j ≡ k = omega (
              arith,
              once (length f.passive + (length f.shared + j)) (length f.passive
                  + (length f.shared + k)) x.name t.name (thread-place j x e) (thread-place k t at) (same ∙ sym named),
            ) in
            let is : t ≡ x = same_Some t x (sym at ∙ subst (λ i. slice_get f.threads i ≡ Some x) place e) in
            subst (λ z. IsSporadic z.timing) is sporadic

    -- a thread that calls an object has at most its ceiling
    caller-below : (k q : ℕ) (t : Thread) (name : Name) → slice_get f.threads k ≡ Some t → slice_get ps k ≡ Some q → calls_object name t.block ≡ true
        → q ≤ ceiling f ps name
    caller-below k q t name e g calls =
        let user : q ≤ greatest_user f.threads ps name =
        user-below name 1 (zip f.threads ps) k (t, q) (zip-at f.threads ps k t q e g)
        (ap (λ b. same_name t.name name || b) calls ∙ or_right (same_name t.name name) true refl) in
        let top = ceiling-user f ps name in
        omega (arith, user, top)

    -- a protected object that passes a test is among those that do
    caller-among : (test : Guarded → Bool) (gs : List Guarded) (k : ℕ) (g : Guarded) → slice_get gs k ≡ Some g → test g ≡ true
        → list_any (same_op (node g.name)) (map (λ q. node q.name) (filter test gs)) ≡ true
    caller-among test [] k g e h = cc
    caller-among test (x ∷ gs) zero g e h =
        let is : x ≡ g = cc in
        ap (λ b. list_any (same_op (node g.name)) (map (λ (q : Guarded). node q.name) (cond b (x ∷ filter test gs) (filter test gs))))
        (ap test is ∙ h)
        ∙ ap (λ (q : Guarded). same_op (node g.name) (node q.name) || list_any (same_op (node g.name))
        (map (λ (w : Guarded). node w.name) (filter test gs))) is
        ∙ ap (λ b. (b && b) || list_any (same_op (node g.name)) (map (λ (w : Guarded). node w.name) (filter test gs))) (same-self g.name)
    caller-among test (x ∷ gs) (suc k) g e h = by (test x) (caller-among test gs k g e h)
      where
        by : (b : Bool) → list_any (same_op (node g.name)) (map (λ (q : Guarded). node q.name) (filter test gs)) ≡ true
            → list_any (same_op (node g.name)) (map (λ (q : Guarded). node q.name) (cond b (x ∷ filter test gs) (filter test gs))) ≡ true
        by true later = ap (λ b. same_op (node g.name) (node x.name) || b) later ∙ or_right (same_op (node g.name) (node x.name)) true refl
        by false later = later

    -- a protected object that calls an object has at most its ceiling
    inner-caller : (k i j : ℕ) (g : Guarded) (o : Operation) (c : OpName) → slice_get f.shared k ≡ Some g → slice_get g.ops i ≡ Some o
        → slice_get (block_calls o.block) j ≡ Some c
        → ceiling f ps g.name ≤ ceiling f ps c.object
    inner-caller k i j g o c at in' called =
        let calls : calls_object c.object o.block ≡ true
        = any-in (λ (x : OpName). same_name x.object c.object) c (block_calls o.block) (at-in (block_calls o.block) j c called)
        (same-self c.object) in
        let inside : calls_from_inside c.object g ≡ true
        = any-in (λ (q : Operation). calls_object c.object q.block) o g.ops (at-in g.ops i o in') calls in
        ceiling-caller f ps c.object g.name (caller-among (calls_from_inside c.object) f.shared k g at inside)

    found-service : (name op : Name) (s : Service) (ss : List Service) → Each (λ x. Origin f x.sort x.object) ss
        → find (is_service name op) ss ≡ Some s → Origin f s.sort s.object × (same_name s.object name ≡ true)
    found-service name op s [] h e = cc
    found-service name op s (x ∷ ss) h e = by (is_service name op x) refl e (λ g. found-service name op s ss h.1 g)
      where
        front : (a b : Bool) → (a && b) ≡ true → a ≡ true
        front true b g = refl
        front false b g = cc

        by : (b : Bool) → is_service name op x ≡ b → cond b (Some x) (find (is_service name op) ss) ≡ Some s
            → (find (is_service name op) ss ≡ Some s → Origin f s.sort s.object × (same_name s.object name ≡ true))
            → Origin f s.sort s.object × (same_name s.object name ≡ true)
        by true g k later =
            let is : x ≡ s = cc in
            subst (λ z. Origin f z.sort z.object × (same_name z.object name ≡ true)) is
            (h.0, front (same_name x.object name) (same_name x.op.sig.name op) g)
        by false g k later = later k

    -- each call is made at such a ceiling
    pub calls-above : (q : ℕ) (b : Statements) → ((j : ℕ) (c : OpName) → slice_get (block_calls b) j ≡ Some c
        → q ≤ ceiling f ps c.object + (first - 1))
        → Each (λ c. IsBelowCeiling q (ceiling_named (program_for f (written_ranks first (ranks_for f ps))) c.object)
        (service_named (flat_services f) c.object c.op)) (block_calls b)
    calls-above q b reaches = each-by _ (block_calls b) (λ j c at. at-call j c at (service_named (flat_services f) c.object c.op) refl)
      where
        by-sort : (c : OpName) (s : Service) → q ≤ ceiling f ps c.object + (first - 1) → same_name s.object c.object ≡ true → (x : Sort) → s.sort ≡ x
            → Origin f x s.object
            → IsBelowCeiling q (ceiling_named (program_for f (written_ranks first (ranks_for f ps))) c.object) (Some (record s { sort = x }))
        by-sort c s low same sort.Plain is origin = tt
        by-sort c s low same sort.Protected is origin =
            let high = protected-high origin.0 origin.1 c.object origin.2 (origin.3 ∙ same-is s.object c.object same) in omega (arith, low, high)
        by-sort c s low same sort.Request is origin =
            let high = requested-high origin.0 origin.1 c.object origin.2 (origin.3 ∙ same-is s.object c.object same) origin.4
            in omega (arith, low, high)

        at-call : (j : ℕ) (c : OpName) → slice_get (block_calls b) j ≡ Some c → (o : Option Service)
            → service_named (flat_services f) c.object c.op ≡ o
            → IsBelowCeiling q (ceiling_named (program_for f (written_ranks first (ranks_for f ps))) c.object)
            (service_named (flat_services f) c.object c.op)
        at-call j c at None is = subst (IsBelowCeiling q (ceiling_named (program_for f (written_ranks first (ranks_for f ps))) c.object)) (sym is) tt
        at-call j c at (Some s) is =
            let found = found-service c.object c.op s (flat_services f) origins is in
            subst (IsBelowCeiling q (ceiling_named (program_for f (written_ranks first (ranks_for f ps))) c.object)) (sym is)
            (by-sort c s (reaches j c at) found.1 s.sort refl found.0)

    -- by a thread at ceilings of at least its priority
    pub calls-below : (k q : ℕ) (t : Thread) → slice_get f.threads k ≡ Some t → slice_get ps k ≡ Some q
        → Each (λ c. IsBelowCeiling (q + (first - 1)) (ceiling_named (program_for f (written_ranks first (ranks_for f ps))) c.object)
        (service_named (flat_services f) c.object c.op)) (block_calls t.block)
    calls-below k q t e g =
        calls-above (q + (first - 1)) t.block (λ j c at.
        let low = caller-below k q t c.object e g (any-in (λ (x : OpName). same_name x.object c.object) c (block_calls t.block)
        (at-in (block_calls t.block) j c at) (same-self c.object)) in
        omega (arith, low))

    -- by a protected object at ceilings of at least its own
    pub inner-below : (k i : ℕ) (g : Guarded) (o : Operation) → slice_get f.shared k ≡ Some g → slice_get g.ops i ≡ Some o
        → Each (λ c. IsBelowCeiling (ceiling_named (program_for f (written_ranks first (ranks_for f ps))) g.name)
        (ceiling_named (program_for f (written_ranks first (ranks_for f ps))) c.object) (service_named (flat_services f) c.object c.op))
        (block_calls o.block)
    inner-below k i g o at in' =
        calls-above (ceiling_named (program_for f (written_ranks first (ranks_for f ps))) g.name) o.block (λ j c called.
        let own = ceiling-low first f ps g.name in
        let outer = inner-caller k i j g o c at in' called in
        omega (arith, own, outer))
